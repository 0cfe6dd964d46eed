-- Rows read from the left: what stands in the machine wherever a beginning of the row is itself a row. Assumes nothing.
use Rattle.std.specs.Prelude.{ℕ, ◌≡◌, List, ◌++◌}
use Rattle.std.proofs.Math.Option.{some}
use Rattle.expression.specs.Token.{Operators, class}
use Rattle.expression.specs.Tree.{Tree, record_of}
use Rattle.expression.specs.Grammar.{Row}
use Rattle.disambiguation.specs.Rules.{Rule}
use Rattle.disambiguation.specs.Conflicts.{ConflictFreeTree}
use Rattle.disambiguation.specs.LeftToRight.{State, finish, run, state_after}
use Rattle.sheet.specs.Relation.{closes_in}
use Rattle.parser.specs.Build.{built}

-- By the relation of a sheet, over its operators.
module _ (sheet : List ℕ) (ops : Operators) where
  -- tokens read on from a state, and the state after the first tokens of a row
  abbrev onwards : List ℕ → State → State
  onwards = run (closes_in sheet) (class ops)

  abbrev pub state : List ℕ → State
  state = state_after (closes_in sheet) (class ops)

  pub record FromTheLeft (rules : List Rule) : Type 0 where
    -- Wherever a beginning of the tokens is itself a row, closing all that waits there gives that beginning's conflict-free tree, and the rest is read on from there.
    pub beginnings : (beginning rest : List ℕ) → Row ops beginning
        → (t : Tree) × ConflictFreeTree ops rules beginning t × (finish (state beginning) ≡ some t) ×
        (state (beginning ++ rest) ≡ onwards rest (state beginning))
    -- What is built of a row is the record of the tree that the machine makes of it.
    pub written : (row : List ℕ) → Row ops row → (t : Tree) × (finish (state row) ≡ some t) × (built ops (closes_in sheet) row ≡ record_of t)
