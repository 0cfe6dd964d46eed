-- Tests over the numbers below n, counted from 0 up. Assumes nothing.
use Rattle.std.specs.Prelude.{ℕ, zero, suc, ◌+◌, Bool, true, ◌&&◌, cond, ltb}
use Rattle.expression.specs.Lists.{one_if}

-- the test holds of every number below n
unfoldable pub all_below : ℕ → (ℕ → Bool) → Bool
all_below zero p = true
all_below (suc n) p = all_below n p && p n

-- of every pair of them
abbrev pub all_pairs : ℕ → (ℕ → ℕ → Bool) → Bool
all_pairs n p = all_below n (λ a. all_below n (p a))

-- of how many numbers below n it holds
unfoldable pub count_below : ℕ → (ℕ → Bool) → ℕ
count_below zero p = 0
count_below (suc n) p = count_below n p + one_if (p n)

-- the first number below n of which it holds; n, where it holds of none
unfoldable pub first_below : ℕ → (ℕ → Bool) → ℕ
first_below zero p = 0
first_below (suc n) p = cond (ltb (first_below n p) n) (first_below n p) (cond (p n) n (suc n))

-- it holds of some number below n
abbrev pub some_below : ℕ → (ℕ → Bool) → Bool
some_below n p = ltb (first_below n p) n
