-- A number below n, or none. Assumes nothing.
use Rattle.std.specs.Prelude.{ℕ, cond, ltb, Option, Some, None}

-- the number, where it is below n
unfoldable pub if_below : ℕ → ℕ → Option ℕ
if_below n a = cond (ltb a n) (Some a) None
