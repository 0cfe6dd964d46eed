-- The verdict on a sheet's rules, computed. Operator a stands left of b in a row, so b is infix: R(a,b) makes a close before b, and L(b,a) makes a yield to b. Assumes nothing.
use Rattle.std.specs.Prelude.{ℕ, Bool, not, ◌&&◌, ◌||◌, cond, List, [], ◌∷◌, eqb}
use Rattle.expression.specs.Refusal.{Check, first, dead, double}
use Rattle.expression.specs.Token.{prefix_kind, Operators, kind_of}
use Rattle.disambiguation.specs.Rules.{Rule, L, R}
use Rattle.disambiguation.specs.Below.{all_below, all_pairs}

-- an operator that may stand right of another: not a prefix one
abbrev pub comes : Operators → ℕ → Bool
comes ops b = not (eqb (kind_of ops b) prefix_kind)

-- of those that the test holds of, these
abbrev pub comers : Operators → (ℕ → Bool) → ℕ → Bool
comers ops p b = p b && comes ops b

-- For relations L and R over a sheet's operators.
module _ (ops : Operators) (L R : ℕ → ℕ → Bool) where
  -- no pair is excluded both ways
  unfoldable pub safe : Bool
  safe = all_pairs ops.count (λ a b. not (comers ops (R a) b && L b a))

  -- every pair is excluded one way at least
  unfoldable pub total : Bool
  total = all_pairs ops.count (λ a b. (R a b || not (comes ops b)) || L b a)

-- all that p holds of below n, q holds of
unfoldable pub within : ℕ → (ℕ → Bool) → (ℕ → Bool) → Bool
within n p q = all_below n (λ c. not (p c) || q c)

-- for each pair, what one of them closes before, the other does too: b's if a closes before b, else a's
unfoldable pub level : Operators → (ℕ → ℕ → Bool) → Bool
level ops R =
    all_pairs ops.count (λ a b.
    not (comes ops b) || cond (R a b) (within ops.count (comers ops (R b)) (R a)) (within ops.count (comers ops (R a)) (R b)))

-- 4 and 5, in this order
abbrev pub rule_checks : Operators → (ℕ → ℕ → Bool) → (ℕ → ℕ → Bool) → List Check
rule_checks ops L R = (not (safe ops L R), dead) ∷ (not (total ops L R && level ops R), double) ∷ []

-- The number of a sheet for its rules: 4, 5 or 0.
unfoldable pub verdict : Operators → List Rule → ℕ
verdict ops rules = first (rule_checks ops (L rules) (R rules))
