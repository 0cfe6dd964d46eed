-- A tree at a place of a record. Assumes nothing.
use Rattle.std.specs.Prelude.{ℕ, ◌+◌, ◌≡◌, List, ◌++◌, length, drop}
use Rattle.expression.specs.Token.{Operators, class}
use Rattle.expression.specs.Tree.{Tree, record_of, Over}

-- From the place `from` up to the place `to` stands the record of t, a tree over the operators.
pub record TreeAt (ops : Operators) (bytes : List ℕ) (from : ℕ) (t : Tree) (to : ℕ) : Type 0 where
  pub over : Over (class ops) t
  pub ends : to ≡ from + length (record_of t)
  pub stands : drop from bytes ≡ record_of t ++ drop to bytes
