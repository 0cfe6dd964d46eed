-- A part of a buffer moved to its front. Assumes nothing.
use Rattle.std.specs.Prelude.{ℕ, ◌-◌, cond, List, ◌++◌, leb, length, take, drop}

-- the buffer with the bytes from one place up to another at its front, and the rest as before
unfoldable pub moved_to_front : ℕ → ℕ → List ℕ → List ℕ
moved_to_front from to s = cond (leb to (length s)) (take (to - from) (drop from s) ++ drop (to - from) s) s
