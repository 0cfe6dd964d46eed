-- Laws of a test over the numbers below n, as a loop from 0 up meets them. Assumes nothing.
use mathlib.Core.Path.{◌≡◌, refl, sym, ap, ◌∙◌}
use mathlib.Core.Bool.{Bool, true, false, and-false}
use mathlib.Core.Logic.{⊎_elim}
use Prim.Native.Nat.{ℕ, zero, suc, ◌+◌, ◌<◌, ◌≤◌}
use native.Mathlib.Nat.{not-suc-le-zero, le_of_suc-le-suc, eq-or-lt_of_le, le_antisymm}
use native.Mathlib.Numerals.{add-one}
use Rattle.disambiguation.specs.Below.{all_below}

-- before the first number
pub all_none : (f : ℕ → Bool) → all_below 0 f ≡ true
unfolding all_below
all_none f = refl

-- one number more, of which the test holds
pub all_more : (f : ℕ → Bool) (a : ℕ) → all_below a f ≡ true → f a ≡ true → all_below (a + 1) f ≡ true
unfolding all_below
all_more f a p q = rw (add-one, p, q)

-- a number of which it does not hold
pub all_fails : (f : ℕ → Bool) (n a : ℕ) → a < n → f a ≡ false → all_below n f ≡ false
unfolding all_below
all_fails f zero a l e = absurd (not-suc-le-zero l)
all_fails f (suc n) a l e =
    ⊎_elim (λ q. let z : f n ≡ false = ap f (sym q) ∙ e in rw (z, and-false)) (λ k. rw (all_fails f n a k e))
    (eq-or-lt_of_le (le_of_suc-le-suc l))

-- past the last number
pub all_done : (f : ℕ → Bool) (n a : ℕ) → all_below a f ≡ true → a ≤ n → n ≤ a → all_below n f ≡ true
all_done f n a p l k = rw (le_antisymm k l) p
