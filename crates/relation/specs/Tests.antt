-- The tests of the verdict, one operator or one pair at a time, and their number. Assumes nothing.
use Rattle.std.specs.Prelude.{ℕ, Bool, not, ◌&&◌, ◌||◌, cond}
use Rattle.expression.specs.Refusal.{first}
use Rattle.expression.specs.Token.{Operators}
use Rattle.disambiguation.specs.Below.{all_below}
use Rattle.disambiguation.specs.Verdict.{comes, comers, within, rule_checks}

-- no number below n of which both hold
unfoldable pub none_in_both : ℕ → (ℕ → Bool) → (ℕ → Bool) → Bool
none_in_both n p q = all_below n (λ c. not (p c && q c))

-- of each number below n one holds at least
unfoldable pub each_in_one : ℕ → (ℕ → Bool) → (ℕ → Bool) → Bool
each_in_one n p q = all_below n (λ c. p c || q c)

module _ (ops : Operators) (L R : ℕ → ℕ → Bool) where
  -- a with every b: not excluded both ways
  unfoldable pub safe_for : ℕ → Bool
  safe_for a = none_in_both ops.count (comers ops (R a)) (λ b. L b a)

  -- a with every b: excluded one way at least
  unfoldable pub total_for : ℕ → Bool
  total_for a = each_in_one ops.count (λ b. R a b || not (comes ops b)) (λ b. L b a)

module _ (ops : Operators) (R : ℕ → ℕ → Bool) where
  -- what one of a and b closes before, the other does too
  unfoldable pub level_pair : ℕ → ℕ → Bool
  level_pair a b = not (comes ops b) || cond (R a b) (within ops.count (comers ops (R b)) (R a)) (within ops.count (comers ops (R a)) (R b))

  -- a with every b
  unfoldable pub level_for : ℕ → Bool
  level_for a = all_below ops.count (level_pair a)

-- 4 and 5: the checks of the rules
unfoldable pub rules_number : Operators → (ℕ → ℕ → Bool) → (ℕ → ℕ → Bool) → ℕ
rules_number ops L R = first (rule_checks ops L R)
