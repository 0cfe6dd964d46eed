-- The row of the tree at a place of a record, written after other tokens. Assumes nothing.
use Rattle.std.specs.Prelude.{ℕ, ◌+◌, ◌≤◌, ◌≡◌, Option, Some, List, ◌++◌, length}
use Rattle.expression.specs.Limits.{most_tokens}
use Rattle.expression.specs.Token.{Operators}
use Rattle.expression.specs.Tree.{Tree, yield}
use Rattle.record.specs.TreeAt.{TreeAt}

-- From the place `from` of the record; the tokens were `before` and became `after`.
pub record Writes (ops : Operators) (bytes : List ℕ) (from : ℕ) (before after : List ℕ) (r : Option ℕ) : Type 0 where
  -- where a tree stands and its row has room, its end, and the row comes after what was there
  pub wrote : (t : Tree) (to : ℕ) → TreeAt ops bytes from t to → length before + length (yield t) ≤ most_tokens → (r ≡ Some to) × (after ≡ before ++ yield t)
  -- where an end is given, a tree stands up to it and its row has room
  pub found : (to : ℕ) → r ≡ Some to → (t : Tree) × TreeAt ops bytes from t to × (length before + length (yield t) ≤ most_tokens)
