-- Repair: the tree that the left-to-right machine makes of a tree's row. Assumes nothing.
use Rattle.std.specs.Prelude.{ℕ, Bool}
use Rattle.std.proofs.Math.Option.{Option, none, some}
use Rattle.expression.specs.Token.{Operators}
use Rattle.expression.specs.Tree.{Tree, yield}
use Rattle.disambiguation.specs.LeftToRight.{made}

abbrev pub or_else : Tree → Option Tree → Tree
or_else t none = t
or_else t (some u) = u

-- closes a b: operator a closes before b. Where the machine makes no tree, which happens to no tree over a sheet's operators, the tree itself.
unfoldable pub repair : Operators → (ℕ → ℕ → Bool) → Tree → Tree
repair ops closes t = or_else t (made ops closes (yield t))
