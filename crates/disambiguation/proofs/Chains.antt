-- Laws of chains. Assumes nothing.
use Prim.Native.Nat.{ℕ}
use mathlib.Core.Path.{◌≡◌}
use mathlib.Core.Bool.{Bool, true}
use Rattle.disambiguation.specs.Chains.{Chain, one, more}

module _ {steps : ℕ → ℕ → Bool} where
  -- one chain after the other
  pub chain_on : {a b c : ℕ} → Chain steps a b → Chain steps b c → Chain steps a c
  chain_on (one a b s) k = more a b _ s k
  chain_on (more a x b s j) k = more a x _ s (chain_on j k)

  -- with steps that are steps of another relation
  pub chain_within : (other : ℕ → ℕ → Bool) → ((a b : ℕ) → steps a b ≡ true → other a b ≡ true) → {a c : ℕ} → Chain steps a c → Chain other a c
  chain_within other h (one a c s) = one a c (h a c s)
  chain_within other h (more a b c s k) = more a b c (h a b s) (chain_within other h k)

-- read the other way round
pub chain_turned : {steps : ℕ → ℕ → Bool} {a c : ℕ} → Chain steps a c → Chain (λ x y. steps y x) c a
chain_turned (one a c s) = one c a s
chain_turned {steps} (more a b c s k) = chain_on (chain_turned k) (one b a s)
