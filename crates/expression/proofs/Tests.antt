-- Laws of tests, and of tests over the elements of a list. Assumes nothing.
use Prim.Native.Nat.{ℕ, zero, suc, ◌≤◌, ◌<◌}
use native.Mathlib.Omega.{arith}
use mathlib.Core.Path.{◌≡◌, refl, ap₂, sym}
use mathlib.Core.Bool.{Bool, true, false, ◌||◌, true≢false, or-true}
use mathlib.Core.List.{List, [], ◌∷◌, ◌++◌}
use lib.ListN.{length, get_or}
use Rattle.expression.specs.Lists.{any_holds, one_if}

pub at_most_one : (b : Bool) → one_if b ≤ 1
at_most_one true = omega arith
at_most_one false = omega arith

pub or_middle : (a b c : Bool) → (a || (b || c)) ≡ (b || (a || c))
or_middle true true c = refl
or_middle true false c = refl
or_middle false b c = refl

pub both_false : (a b : Bool) → (a || b) ≡ false → (a ≡ false) × (b ≡ false)
both_false true b e = absurd (true≢false e)
both_false false b e = (refl, e)

pub any_append : (p : ℕ → Bool) (xs ys : List ℕ) → any_holds p (xs ++ ys) ≡ (any_holds p xs || any_holds p ys)
any_append p [] ys = refl
any_append p (x ∷ xs) ys = go (p x) (any_append p xs ys)
  where
    go : (b : Bool) → any_holds p (xs ++ ys) ≡ (any_holds p xs || any_holds p ys) → (b || any_holds p (xs ++ ys)) ≡ ((b || any_holds p xs) || any_holds p ys)
    go true e = refl
    go false e = e

pub any_same : (p q : ℕ → Bool) → ((c : ℕ) → p c ≡ q c) → (xs : List ℕ) → any_holds p xs ≡ any_holds q xs
any_same p q same [] = refl
any_same p q same (x ∷ xs) = ap₂ ◌||◌ (same x) (any_same p q same xs)

pub any_none : (p q : ℕ → Bool) → ((c : ℕ) → p c ≡ false → q c ≡ false) → (xs : List ℕ) → any_holds p xs ≡ false → any_holds q xs ≡ false
any_none p q none [] e = refl
any_none p q none (x ∷ xs) e = let (a, b) = both_false (p x) (any_holds p xs) e in rw (none x a) (any_none p q none xs b)

pub none_at : (p : ℕ → Bool) (xs : List ℕ) → any_holds p xs ≡ false → (i : ℕ) → i < length xs → p (get_or xs i 0) ≡ false
none_at p [] e i h = absurd (omega arith)
none_at p (x ∷ xs) e zero h = (both_false (p x) (any_holds p xs) e).0
none_at p (x ∷ xs) e (suc i) h = none_at p xs (both_false (p x) (any_holds p xs) e).1 i (omega arith)

pub any_or : (p q : ℕ → Bool) (xs : List ℕ) → any_holds (λ c. p c || q c) xs ≡ (any_holds p xs || any_holds q xs)
any_or p q [] = refl
any_or p q (x ∷ xs) = go (p x) (q x) (any_or p q xs)
  where
    go : (a b : Bool) → any_holds (λ c. p c || q c) xs ≡ (any_holds p xs || any_holds q xs)
        → ((a || b) || any_holds (λ c. p c || q c) xs) ≡ ((a || any_holds p xs) || (b || any_holds q xs))
    go true b e = refl
    go false true e = sym (or-true (any_holds p xs))
    go false false e = e
