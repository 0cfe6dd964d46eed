-- Going through the operators one after the other finds every chain. Assumes nothing.
use mathlib.Core.Path.{◌≡◌, subst}
use mathlib.Core.Bool.{Bool, true, ◌&&◌, ◌||◌, or-true}
use mathlib.Core.Logic.{◌↔◌, ◌⊎◌, inl, inr, ⊎_elim}
use Prim.Native.Nat.{ℕ, zero, suc, ◌<◌}
use native.Mathlib.Nat.{not-suc-le-zero, le_of_suc-le-suc, eq-or-lt_of_le}
use Rattle.disambiguation.specs.Chains.{Chain, one, more}
use Rattle.disambiguation.proofs.BelowLaws.{and_true, or_either}
use Rattle.disambiguation.proofs.Chains.{chain_on}

module _ (steps : ℕ → ℕ → Bool) where
  -- a leads to c through operators below k alone
  abbrev pub through : ℕ → ℕ → ℕ → Bool
  through zero a c = steps a c
  through (suc k) a c = through k a c || (through k a k && through k k c)

  -- as before, or through k
  by_last : (k a c : ℕ) → through (suc k) a c ≡ true → (through k a c ≡ true) ⊎ ((through k a k ≡ true) × (through k k c ≡ true))
  by_last k a c e = ⊎_elim inl (λ q. inr (and_true (through k a k) (through k k c) q)) (or_either (through k a c) _ e)

  as_before : (k a c : ℕ) → through k a c ≡ true → through (suc k) a c ≡ true
  as_before k a c e = rw e

  through_last : (k a c : ℕ) → through k a k ≡ true → through k k c ≡ true → through (suc k) a c ≡ true
  through_last k a c p q = rw (p, q, or-true (through k a c))

  -- to the last operator and from it, as before
  to_last : (k a : ℕ) → through (suc k) a k ≡ true → through k a k ≡ true
  to_last k a e = ⊎_elim (λ q. q) (λ q. q.0) (by_last k a k e)

  from_last : (k c : ℕ) → through (suc k) k c ≡ true → through k k c ≡ true
  from_last k c e = ⊎_elim (λ q. q) (λ q. q.1) (by_last k k c e)

  -- what leads to an operator below k leads on from there
  through_on : (k a b c : ℕ) → b < k → through k a b ≡ true → through k b c ≡ true → through k a c ≡ true
  through_on zero a b c h p q = absurd (not-suc-le-zero h)
  through_on (suc k) a b c h p q = go (eq-or-lt_of_le (le_of_suc-le-suc h)) (through_on k)
    where
      below : ((a b c : ℕ) → b < k → through k a b ≡ true → through k b c ≡ true → through k a c ≡ true) → b < k
          → (through k a b ≡ true) ⊎ ((through k a k ≡ true) × (through k k b ≡ true)) → (through k b c ≡ true) ⊎ ((through k b k ≡ true) × (through k k c ≡ true))
          → through (suc k) a c ≡ true
      below on l (inl x) (inl y) = as_before k a c (on a b c l x y)
      below on l (inl x) (inr (y, z)) = through_last k a c (on a b k l x y) z
      below on l (inr (w, x)) (inl y) = through_last k a c w (on k b c l x y)
      below on l (inr (w, x)) (inr (y, z)) = through_last k a c w z

      go : (b ≡ k) ⊎ (b < k) → ((a b c : ℕ) → b < k → through k a b ≡ true → through k b c ≡ true → through k a c ≡ true) → through (suc k) a c ≡ true
      go (inl e) on = through_last k a c (to_last k a (subst (λ x. through (suc k) a x ≡ true) e p)) (from_last k c (subst (λ x. through (suc k) x c ≡ true) e q))
      go (inr l) on = below on l (by_last k a b p) (by_last k b c q)

  step_through : (k a c : ℕ) → steps a c ≡ true → through k a c ≡ true
  step_through zero a c e = e
  step_through (suc k) a c e = as_before k a c (step_through k a c e)

  found : (n : ℕ) → ((a b : ℕ) → steps a b ≡ true → b < n) → {a c : ℕ} → Chain steps a c → through n a c ≡ true
  found n few (one a c s) = step_through n a c s
  found n few (more a b c s k) = through_on n a b c (few a b s) (step_through n a b s) (found n few k)

  chain_of : (k a c : ℕ) → through k a c ≡ true → Chain steps a c
  chain_of zero a c e = one a c e
  chain_of (suc k) a c e = go (by_last k a c e) (chain_of k)
    where
      go : (through k a c ≡ true) ⊎ ((through k a k ≡ true) × (through k k c ≡ true)) → ((a c : ℕ) → through k a c ≡ true → Chain steps a c) → Chain steps a c
      go (inl q) before = before a c q
      go (inr (p, q)) before = chain_on (before a k p) (before k c q)

  -- Where every step leads to an operator below n, going through these is enough.
  pub through_exactly_if : (n : ℕ) → ((a b : ℕ) → steps a b ≡ true → b < n) → (a c : ℕ) → (through n a c ≡ true) ↔ Chain steps a c
  through_exactly_if n few a c = (chain_of n a c, found n few)
