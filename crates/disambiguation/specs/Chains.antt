-- Chains: from a to c in one or more steps of a relation. Assumes nothing.
use Rattle.std.specs.Prelude.{ℕ, ◌≡◌, Bool, true}

-- One step leads from a to c; or a step leads to b, and a chain from b to c.
pub data Chain (steps : ℕ → ℕ → Bool) : ℕ → ℕ → Type 0 where
  one : (a c : ℕ) → steps a c ≡ true → Chain steps a c
  more : (a b c : ℕ) → steps a b ≡ true → Chain steps b c → Chain steps a c
