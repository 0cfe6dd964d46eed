-- What the walk over a record needs, and what it answers. Assumes nothing.
use Rattle.std.specs.Prelude.{ℕ, ◌≤◌, ◌≡◌, false, List, ℤ, length}
use Rattle.expression.specs.Limits.{most_record_bytes}
use Rattle.expression.specs.Token.{Operators}
use Rattle.expression.specs.Tree.{Tree}
use Rattle.record.specs.TreeAt.{TreeAt}
use Rattle.evaluator.specs.Value.{value, lacks_meaning, lacks_reading}

module _ (bytes meanings : List ℕ) (readings : List ℤ) where
  -- A tree stands at the place, within the bytes of a record, with a meaning of its kind for each operator and a value for each reading.
  pub record Evaluable (from : ℕ) : Type 0 where
    pub short : length bytes ≤ most_record_bytes
    pub ops : Operators
    pub tree : Tree
    pub to : ℕ
    pub stands : TreeAt ops bytes from tree to
    pub meant : lacks_meaning meanings tree ≡ false
    pub read : lacks_reading readings tree ≡ false

  -- The answer is the value of the tree at the place `from`, and the place that is left is the one after the tree.
  --     Without a meaning of its kind for each operator, the same bytes could be read as another tree.
  pub record Values (from to : ℕ) (r : ℤ) : Type 0 where
    pub valued : (ops : Operators) (t : Tree) (end : ℕ) → TreeAt ops bytes from t end → lacks_meaning meanings t ≡ false → (to ≡ end) × (r ≡ value meanings readings t)

  -- The answer is the value of the tree that stands at the start.
  pub record IsValue (r : ℤ) : Type 0 where
    pub valued : (ops : Operators) (t : Tree) (end : ℕ) → TreeAt ops bytes 0 t end → lacks_meaning meanings t ≡ false → r ≡ value meanings readings t
