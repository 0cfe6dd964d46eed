-- A sheet whose kinds and rules come as two lists: the checks of n and of the kinds, and the buffer for its bytes. Assumes nothing.
use Rattle.std.specs.Prelude.{ℕ, ◌+◌, ◌-◌, ◌≡◌, not, List, [], ◌∷◌, ◌++◌, eqb, ltb, length, take, drop}
use Rattle.expression.specs.Limits.{most_operators, most_rule_bytes}
use Rattle.expression.specs.Refusal.{Check, first, oversize, torn}

-- 1 and 2: n is over its most, or there are other than n kinds
abbrev pub kind_checks : ℕ → ℕ → List Check
kind_checks n kinds = (ltb most_operators n, oversize) ∷ (not (eqb kinds n), torn) ∷ []

unfoldable pub kinds_number : ℕ → ℕ → ℕ
kinds_number n kinds = first (kind_checks n kinds)

-- the buffer: room for a kind byte of every operator, and then for the bytes of the most rules
abbrev pub buffer_bytes : ℕ
buffer_bytes = most_operators + most_rule_bytes

-- The kinds were put right before the rules' bytes: from their beginning on the buffer holds them, and then as many of the rules' bytes as are asked for.
pub record PutsKinds (kinds before : List ℕ) (from : ℕ) (after : List ℕ) : Type 0 where
  pub begins : from ≡ most_operators - length kinds
  pub holds : (count : ℕ) → take (most_operators + count - from) (drop from after) ≡ kinds ++ take count (drop most_operators before)
