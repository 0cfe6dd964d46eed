-- What each way through the numbers below n gives, from what is known of a test. Assumes nothing.
use mathlib.Core.Path.{◌≡◌, refl, sym}
use mathlib.Core.Bool.{Bool, true, false}
use Prim.Native.Nat.{ℕ, ◌+◌, ◌<◌}
use native.Mathlib.Numerals.{add-one}
use native.Mathlib.Omega.{arith}
use Rattle.disambiguation.specs.Below.{first_below}
use Rattle.disambiguation.proofs.FirstBelow.{first_only}
use Rattle.relation.specs.Words.{with_bit, word_where}

module _ (p : ℕ → Bool) (n : ℕ) where
  -- no number before a passes, and a does
  pub first_here : (a : ℕ) → a < n → ((c : ℕ) → c < a → p c ≡ false) → p a ≡ true → a ≡ first_below n p
  first_here a l before e = sym (first_only n p a (record { inside = omega arith; before = before; holds = λ _. e }))

  -- none below n does
  pub first_none : ((c : ℕ) → c < n → p c ≡ false) → first_below n p ≡ n
  first_none before = first_only n p n (record { inside = omega arith; before = before; holds = λ h. absurd (omega arith) })

-- the set of none, and of one number more
module _ (p : ℕ → Bool) where
  pub set_starts : 0 ≡ word_where p 0
  unfolding word_where
  set_starts = refl

  pub set_more : {x y : ℕ} {told : Bool} (a : ℕ) → x ≡ word_where p a → told ≡ p a → y ≡ with_bit x a told → y ≡ word_where p (a + 1)
  unfolding word_where
  set_more a e t f = rw (add-one, f, e, t)
