-- A token's share of the record: a byte, but none for a closing bracket. Assumes nothing.
use mathlib.Core.Path.{◌≡◌}
use mathlib.Core.Bool.{not}
use Prim.Native.Nat.{ℕ, ◌≤◌}
use lib.Dec.{eqb}
use borrow.Author.Tests.{ne_eqb}
use Rattle.expression.specs.Token.{closing}
use Rattle.expression.proofs.Tests.{at_most_one}
use Rattle.parser.specs.Reading.{share}

module _ (c : ℕ) where
  pub share_none : c ≡ closing → 0 ≡ share c
  unfolding share
  share_none e = rw e

  pub share_byte : (c ≡ closing → ⊥) → 1 ≡ share c
  unfolding share
  share_byte n = rw (ne_eqb c closing n)

  pub share_small : share c ≤ 1
  unfolding share
  share_small = at_most_one (not (eqb c closing))
