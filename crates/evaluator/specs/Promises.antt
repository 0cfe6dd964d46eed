-- W2, running a condition: what an evaluation answers after every list of calls, refused ones included, from a fresh panel. Assumes nothing.
use Rattle.std.specs.Prelude.{ℕ, ◌<◌, ◌≤◌, ◌≡◌, List, ℤ, pos, length}
use Rattle.std.proofs.Math.Option.{none, some}
use Rattle.expression.specs.Limits.{most_tokens}
use Rattle.expression.specs.Refusal.{accepted, place, empty}
use Rattle.expression.specs.Tree.{Tree}
use Rattle.disambiguation.specs.Conflicts.{ConflictFreeTree}
use Rattle.run.specs.Places.{place_count}
use Rattle.run.specs.Call.{Call, fetch_row}
use Rattle.run.specs.Panel.{Panel}
use Rattle.run.specs.Steps.{asked_outcome}
use Rattle.run.specs.Run.{panel_after, in_force, last_put}
use Rattle.evaluator.specs.Value.{value}
use Rattle.evaluator.specs.Evaluation.{evaluated, evaluation_of_tree, evaluation}
use Rattle.evaluator.specs.declared.Evaluation.{Evaluation}

module _ (cs : List Call) (k : ℕ) where
  -- a tree is the conflict-free tree of the row last put at the place, under the sheet in force
  pub record TreeOfLastPut (t : Tree) : Type 0 where
    pub row : List ℕ
    pub put : last_put k cs ≡ some row
    pub tree : ConflictFreeTree (in_force cs).operators (in_force cs).rules row t

  module _ (meanings : List ℕ) (readings : List ℤ) where
    -- the answer of an evaluation that is called next
    abbrev pub answer : Evaluation
    answer = evaluation meanings readings (panel_after cs) k

    pub record Evaluates : Type 0 where
      -- 8: there is no such place; 9: it is empty
      pub no_place : place_count ≤ k → answer ≡ evaluated place (pos 0)
      pub nothing_held : k < place_count → last_put k cs ≡ none → answer ≡ evaluated empty (pos 0)
      -- else 13, 14 or 0 by that tree, with its value
      pub of_tree : (t : Tree) → TreeOfLastPut t → answer ≡ evaluation_of_tree meanings readings t
      -- so an accepted evaluation gives the value of that tree
      pub gives_value : answer.number ≡ accepted → (t : Tree) × TreeOfLastPut t × (answer.value ≡ value meanings readings t)

-- Of every panel value, also of one that no run of calls makes: what a fetch of the row refuses, with room for every row, an evaluation refuses with the same number.
pub record RefusedAsFetched (p : Panel) (k : ℕ) (meanings : List ℕ) (readings : List ℤ) : Type 0 where
  pub same_number : (out : List ℕ) → most_tokens ≤ length out → ((asked_outcome p (fetch_row k out)).number ≡ accepted → ⊥)
      → evaluation meanings readings p k ≡ evaluated (asked_outcome p (fetch_row k out)).number (pos 0)
