-- What the checks of a record find: strangers, and the tokens of its row. Assumes nothing.
use Rattle.std.specs.Prelude.{ℕ, ◌+◌, Bool, List, eqb, length}
use Rattle.expression.specs.Lists.{any_holds, how_many}
use Rattle.expression.specs.Token.{opening, Operators, class}
use Rattle.expression.specs.Checks.{strange_in_record}

-- some byte stands in no record under the operators
unfoldable pub stranger_in_record : Operators → List ℕ → Bool
stranger_in_record ops bytes = any_holds (λ c. strange_in_record (class ops c)) bytes

-- the tokens of a tree's row, from its record: one for each byte, and one more for each bracket
abbrev pub row_length : List ℕ → ℕ
row_length bytes = length bytes + how_many (λ c. eqb c opening) bytes
