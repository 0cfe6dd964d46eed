-- W1 holds of every list of calls from the fresh panel: a record is answered by the shortest row that means the same as its own. Assumes nothing.
use Prim.Native.Nat.{ℕ, ◌≤◌}
use mathlib.Core.Path.{◌≡◌, ap, ap₂, ◌∙◌}
use mathlib.Core.Option.{some}
use mathlib.Core.List.{List}
use lib.ListN.{length}
use Rattle.expression.specs.Token.{class}
use Rattle.expression.specs.Tree.{Tree, record_of, Over}
use Rattle.expression.specs.Checks.{record_checks, record_number}
use Rattle.expression.proofs.Classes.{brackets}
use Rattle.expression.proofs.RecordsAndTrees.{tree_of_record}
use Rattle.expression.proofs.Numbers.{first_roomy, record_numbered}
use Rattle.brackets.specs.Shortest.{shortest_of, shortest_by, shortest_number}
use Rattle.brackets.proofs.ShortestRows.{shortest_of_tree, shortest_fits}
use Rattle.brackets.proofs.InForceShortest.{shortest_by_rules}
use Rattle.run.specs.Call.{Call, ask, shortest_row}
use Rattle.run.specs.Run.{panel_after, AnsweredBy}
use Rattle.run.specs.Promises.{Within, ops, rules}
use Rattle.run.specs.Requests.{ShortestRows}
use Rattle.run.proofs.Placed.{sheet_in_force, within_accepted, answered_by}

module _ (cs : List Call) (t : Tree) (over : Over (class (ops cs)) t) (within : Within t) where
  abbrev row : List ℕ
  row = shortest_by (ops cs) (rules cs) (some t)

  answer_is : shortest_of (panel_after cs).sheet (record_of t) ≡ row
  answer_is =
      shortest_by_rules (panel_after cs).sheet (ops cs) (rules cs) (sheet_in_force cs) (record_of t)
      ∙ ap (shortest_by (ops cs) (rules cs)) (tree_of_record (class (ops cs)) (brackets (ops cs)) t over)

  answered : (out : List ℕ) → length row ≤ length out → AnsweredBy cs (ask (shortest_row (record_of t) out)) out row
  unfolding shortest_number record_number
  answered out room =
      answered_by cs (shortest_row (record_of t) out) row
      (ap₂ (λ o answer. shortest_number o (record_of t) answer (length out)) (sheet_in_force cs).operators answer_is
      ∙ first_roomy (record_checks (ops cs) (record_of t)) (length row) (length out) (within_accepted cs t over within) (record_numbered (ops cs) (record_of t)) room)
      answer_is

pub shortest_rows : (cs : List Call) → ShortestRows cs
shortest_rows cs =
    record {
      shortened = λ t over within. (
        shortest_by (ops cs) (rules cs) (some t),
        shortest_of_tree (ops cs) (rules cs) (sheet_in_force cs).accepts t over,
        shortest_fits (ops cs) (rules cs) (sheet_in_force cs).accepts t over,
        answered cs t over within,
      );
    }
