-- Where the tree at a place of a record ends. Assumes nothing.
use Rattle.std.specs.Prelude.{ℕ, ◌≡◌, Option, Some, List}
use Rattle.expression.specs.Token.{Operators}
use Rattle.expression.specs.Tree.{Tree}
use Rattle.record.specs.TreeAt.{TreeAt}

-- From the place `from`.
pub record Reaches (ops : Operators) (bytes : List ℕ) (from : ℕ) (r : Option ℕ) : Type 0 where
  -- where a tree stands, its end
  pub reached : (t : Tree) (to : ℕ) → TreeAt ops bytes from t to → r ≡ Some to
  -- where an end is given, a tree stands up to it
  pub found : (to : ℕ) → r ≡ Some to → (t : Tree) × TreeAt ops bytes from t to
