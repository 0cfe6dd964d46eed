-- W3 holds of every list of calls from the fresh panel: rows are read from the left by the relation of the sheet in force. Assumes nothing.
use Prim.Native.Nat.{ℕ}
use mathlib.Core.Path.{◌≡◌}
use mathlib.Core.Option.{some}
use mathlib.Core.List.{List}
use Rattle.expression.specs.Tree.{Tree}
use Rattle.expression.specs.Tree as tree
use Rattle.disambiguation.specs.Conflicts.{ConflictFreeTree}
use Rattle.disambiguation.specs.LeftToRight.{finish}
use Rattle.parser.specs.FromTheLeft.{state}
use Rattle.parser.proofs.FromTheLeft.{from_the_left, finishes_with}
use Rattle.run.specs.Promises.{ops, rules}
use Rattle.run.specs.Call.{Call}
use Rattle.run.specs.Run.{panel_after}
use Rattle.run.specs.Requests.{ReadFromTheLeft}
use Rattle.run.proofs.Placed.{sheet_in_force}
use Rattle.run.proofs.Demand2.{demand_2}

module _ (cs : List Call) where
  finishes : (row : List ℕ) (t : Tree) → ConflictFreeTree (ops cs) (rules cs) row t → finish (state (panel_after cs).sheet (ops cs) row) ≡ some t
  finishes = finishes_with (panel_after cs).sheet (ops cs) (rules cs) (sheet_in_force cs)

  pub read_from_the_left : ReadFromTheLeft cs
  read_from_the_left =
      record {
        beginnings = from_the_left (panel_after cs).sheet (ops cs) (rules cs) (sheet_in_force cs);
        builds = λ row r h. let (t, c, answers) = (demand_2 cs).built row r h in (t, finishes row t c, answers);
        repairs = λ t h w. let (u, c, answers) = (demand_2 cs).repaired t h w in (u, finishes (tree.yield t) u c, answers);
      }
