-- The first number below n of which a test holds is what its name says, and the only such. Assumes nothing.
use Prim.Native.Nat.{ℕ, zero, suc, ◌<◌, ◌≤◌}
use native.Mathlib.Omega.{arith}
use native.Mathlib.Decide.{ℕ_discrete, dec_lt}
use mathlib.Core.Path.{◌≡◌, refl, sym, ap, ◌∙◌}
use mathlib.Core.Bool.{Bool, true, false, not, cond, true≢false}
use borrow.Author.Tests.{lt-ltb, le-ltb, ltb-true, ltb-false}
use lib.Dec.{ltb}
use Rattle.disambiguation.specs.Below.{all_below, first_below, some_below}
use Rattle.disambiguation.proofs.Free.{is_false}
use Rattle.disambiguation.proofs.BelowLaws.{all_below_at, all_below_of}

-- c is the first below n; or n, and there is none
pub record IsFirst (n : ℕ) (p : ℕ → Bool) (c : ℕ) : Type 0 where
  pub inside : c ≤ n
  pub before : (a : ℕ) → a < c → p a ≡ false
  pub holds : c < n → p c ≡ true

pub first_is : (n : ℕ) (p : ℕ → Bool) → IsFirst n p (first_below n p)
unfolding first_below
first_is zero p = record { inside = omega arith; before = λ a h. absurd (omega arith); holds = λ h. absurd (omega arith) }
first_is (suc n) p = go (first_below n p) (first_is n p) (dec_lt (first_below n p) n)
  where
    none : (f : ℕ) → IsFirst n p f → n ≤ f → (a : ℕ) → a < n → p a ≡ false
    none f h l a k = h.before a (omega (arith, h.inside))

    at_end : (f : ℕ) → IsFirst n p f → n ≤ f → (b : Bool) → p n ≡ b → IsFirst (suc n) p (cond b n (suc n))
    at_end f h l true e = record { inside = omega arith; before = none f h l; holds = λ _. e }
    at_end f h l false e = record { inside = omega arith; before = λ a k. last a k (ℕ_discrete a n); holds = λ k. absurd (omega arith) }
      where
        last : (a : ℕ) → a < suc n → Dec (a ≡ n) → p a ≡ false
        last a k (yes q) = ap p q ∙ e
        last a k (no q) = none f h l a (omega (arith, q))

    go : (f : ℕ) → IsFirst n p f → Dec (f < n) → IsFirst (suc n) p (cond (ltb f n) f (cond (p n) n (suc n)))
    go f h (yes l) = rw (lt-ltb f n l) (record { inside = omega arith; before = h.before; holds = λ _. h.holds l })
    go f h (no l) = rw (le-ltb f n (omega (arith, l))) (at_end f h (omega (arith, l)) (p n) refl)

-- there is only one
pub first_only : (n : ℕ) (p : ℕ → Bool) (c : ℕ) → IsFirst n p c → first_below n p ≡ c
first_only n p c h = go (dec_lt (first_below n p) c) (dec_lt c (first_below n p))
  where
    never : (c d : ℕ) → IsFirst n p c → IsFirst n p d → c < d → ⊥
    never c d h k l = true≢false (sym (h.holds (omega (arith, k.inside))) ∙ k.before c l)

    go : Dec (first_below n p < c) → Dec (c < first_below n p) → first_below n p ≡ c
    go (yes l) _ = absurd (never (first_below n p) c (first_is n p) h l)
    go (no l) (yes k) = absurd (never c (first_below n p) h (first_is n p) k)
    go (no l) (no k) = omega (arith, l, k)

-- where there is one, it is below n, and the test holds of it
pub first_below_lem : (n : ℕ) (p : ℕ → Bool) → some_below n p ≡ true → first_below n p < n
first_below_lem n p e = ltb-true (first_below n p) n e

pub first_holds : (n : ℕ) (p : ℕ → Bool) → some_below n p ≡ true → p (first_below n p) ≡ true
first_holds n p e = (first_is n p).holds (first_below_lem n p e)

-- tests that agree below n
pub first_same : (n : ℕ) (p q : ℕ → Bool) → ((a : ℕ) → a < n → p a ≡ q a) → first_below n p ≡ first_below n q
first_same n p q same =
    let f = first_is n q in
    first_only n p (first_below n q)
    (record {
      inside = f.inside;
      before = λ a h. same a (omega (arith, f.inside)) ∙ f.before a h;
      holds = λ h. same (first_below n q) h ∙ f.holds h;
    })

-- of none exactly if not of some
pub none_below : (n : ℕ) (p : ℕ → Bool) → all_below n (λ a. not (p a)) ≡ not (some_below n p)
none_below n p = go (some_below n p) refl
  where
    go : (b : Bool) → some_below n p ≡ b → all_below n (λ a. not (p a)) ≡ not b
    go true e =
        is_false (all_below n (λ a. not (p a)))
        (λ all. true≢false (sym (all_below_at n (λ a. not (p a)) all (first_below n p) (first_below_lem n p e)) ∙ ap not (first_holds n p e)))
    go false e =
        all_below_of n (λ a. not (p a)) (λ a h. ap not ((first_is n p).before a (omega (arith, ltb-false (first_below n p) n e))))
