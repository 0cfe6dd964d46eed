-- What the tests over the numbers below n tell. Assumes nothing.
use Prim.Native.Nat.{ℕ, zero, suc, ◌<◌}
use native.Mathlib.Omega.{arith}
use native.Mathlib.Decide.{ℕ_discrete}
use mathlib.Core.Path.{◌≡◌, refl}
use mathlib.Core.Bool.{Bool, true, false, ◌&&◌, ◌||◌, true≢false, false≢true}
use mathlib.Core.Logic.{◌⊎◌, inl, inr}
use Rattle.disambiguation.specs.Below.{all_below, all_pairs}

pub and_true : (a b : Bool) → (a && b) ≡ true → (a ≡ true) × (b ≡ true)
and_true true b e = (refl, e)
and_true false b e = absurd (false≢true e)

pub and_false : (a b : Bool) → (a && b) ≡ false → (a ≡ false) ⊎ (b ≡ false)
and_false true b e = inr e
and_false false b e = inl refl

pub or_either : (a b : Bool) → (a || b) ≡ true → (a ≡ true) ⊎ (b ≡ true)
or_either true b e = inl refl
or_either false b e = inr e

pub all_below_at : (n : ℕ) (p : ℕ → Bool) → all_below n p ≡ true → (a : ℕ) → a < n → p a ≡ true
unfolding all_below
all_below_at zero p e a h = absurd (omega arith)
all_below_at (suc n) p e a h = go (ℕ_discrete a n) (all_below_at n p (and_true (all_below n p) (p n) e).0)
  where
    go : Dec (a ≡ n) → ((b : ℕ) → b < n → p b ≡ true) → p a ≡ true
    go (yes q) f = rw q (and_true (all_below n p) (p n) e).1
    go (no q) f = f a (omega arith)

pub all_below_fails : (n : ℕ) (p : ℕ → Bool) → all_below n p ≡ false → (a : ℕ) × (a < n) × (p a ≡ false)
unfolding all_below
all_below_fails zero p e = absurd (true≢false e)
all_below_fails (suc n) p e = go (and_false (all_below n p) (p n) e) (all_below_fails n p)
  where
    go : (all_below n p ≡ false) ⊎ (p n ≡ false) → (all_below n p ≡ false → (a : ℕ) × (a < n) × (p a ≡ false)) → (a : ℕ) × (a < suc n) × (p a ≡ false)
    go (inl q) f = let (a, h, g) = f q in (a, omega arith, g)
    go (inr q) f = (n, omega arith, q)

pub all_below_of : (n : ℕ) (p : ℕ → Bool) → ((a : ℕ) → a < n → p a ≡ true) → all_below n p ≡ true
unfolding all_below
all_below_of zero p f = refl
all_below_of (suc n) p f = rw (all_below_of n p (λ a h. f a (omega arith)), f n (omega arith))

-- tests that agree below n
pub all_same : (f g : ℕ → Bool) (n : ℕ) → ((a : ℕ) → a < n → f a ≡ g a) → all_below n f ≡ all_below n g
unfolding all_below
all_same f g zero h = refl
all_same f g (suc n) h = rw (all_same f g n (λ a l. h a (omega arith)), h n (omega arith))

pub all_pairs_at : (n : ℕ) (p : ℕ → ℕ → Bool) → all_pairs n p ≡ true → (a b : ℕ) → a < n → b < n → p a b ≡ true
all_pairs_at n p e a b ha hb = all_below_at n (p a) (all_below_at n (λ a. all_below n (p a)) e a ha) b hb
