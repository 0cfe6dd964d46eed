-- Of how many numbers below n a test holds. Assumes nothing.
use Prim.Native.Nat.{ℕ, zero, suc, ◌+◌, ◌<◌, ◌≤◌}
use native.Mathlib.Omega.{arith}
use native.Mathlib.Decide.{ℕ_discrete}
use mathlib.Core.Path.{◌≡◌, refl, ap, ap₂, sym, ◌∙◌}
use mathlib.Core.Bool.{Bool, true, false}
use Rattle.expression.specs.Lists.{one_if}
use Rattle.expression.proofs.Tests.{at_most_one}
use Rattle.disambiguation.specs.Below.{count_below}

-- tests that agree
pub count_same : (n : ℕ) (p q : ℕ → Bool) → ((c : ℕ) → c < n → p c ≡ q c) → count_below n p ≡ count_below n q
unfolding count_below
count_same zero p q h = refl
count_same (suc n) p q h = ap₂ (λ (x y : ℕ). x + y) (count_same n p q (λ c l. h c (omega arith))) (ap one_if (h n (omega arith)))

one_within : (a b : Bool) → (a ≡ true → b ≡ true) → one_if a ≤ one_if b
one_within true b h = rw (h refl) (omega arith)
one_within false b h = omega arith

-- a test within another,
pub count_within : (n : ℕ) (p q : ℕ → Bool) → ((c : ℕ) → p c ≡ true → q c ≡ true) → count_below n p ≤ count_below n q
unfolding count_below
count_within zero p q h = omega arith
count_within (suc n) p q h = omega (arith, count_within n p q h, one_within (p n) (q n) (h n))

-- and strictly so
pub count_less : (n : ℕ) (p q : ℕ → Bool) → ((c : ℕ) → p c ≡ true → q c ≡ true) → (b : ℕ) → b < n → p b ≡ false → q b ≡ true → count_below n p < count_below n q
unfolding count_below
count_less zero p q h b l x y = absurd (omega arith)
count_less (suc n) p q h b l x y = go (ℕ_discrete b n) (count_less n p q h b)
  where
    go : Dec (b ≡ n) → (b < n → p b ≡ false → q b ≡ true → count_below n p < count_below n q) → count_below n p + one_if (p n) < count_below n q + one_if (q n)
    go (yes e) f = omega (arith, count_within n p q h, ap one_if (ap p (sym e) ∙ x), ap one_if (ap q (sym e) ∙ y))
    go (no ne) f = omega (arith, f (omega (arith, ne)) x y, one_within (p n) (q n) (h n))

-- it holds of n at most
pub count_most : (n : ℕ) (p : ℕ → Bool) → count_below n p ≤ n
unfolding count_below
count_most zero p = omega arith
count_most (suc n) p = omega (arith, count_most n p, at_most_one (p n))
