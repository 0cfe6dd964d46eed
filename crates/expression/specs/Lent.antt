-- What a call leaves in a lent output, and the length that it names. Assumes nothing.
use Rattle.std.specs.Prelude.{ℕ, cond, List, ◌++◌, eqb, length, drop}
use Rattle.expression.specs.Refusal.{accepted}

-- The whole output after a call with this number: the answer's bytes, then what stood there before; after a refusal all of it as before.
abbrev pub output_after : ℕ → List ℕ → List ℕ → List ℕ
output_after number answer before = cond (eqb number accepted) (answer ++ drop (length answer) before) before

-- the answer's length; 0 after a refusal
abbrev pub length_after : ℕ → List ℕ → ℕ
length_after number answer = cond (eqb number accepted) (length answer) 0
