-- The record that is built of a row: that of the tree which the left-to-right machine makes of it. Assumes nothing.
use Rattle.std.specs.Prelude.{ℕ, Bool, List, []}
use Rattle.std.proofs.Math.Option.{Option, none, some}
use Rattle.expression.specs.Token.{Operators}
use Rattle.expression.specs.Tree.{Tree, record_of}
use Rattle.disambiguation.specs.LeftToRight.{made}

-- the record of a tree, if there is one
abbrev pub record_in : Option Tree → List ℕ
record_in none = []
record_in (some t) = record_of t

-- The record that is built of the tokens over the operators. closes a b: operator a closes before b.
unfoldable pub built : Operators → (ℕ → ℕ → Bool) → List ℕ → List ℕ
built ops closes tokens = record_in (made ops closes tokens)
