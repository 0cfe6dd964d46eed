-- The words of a lent sheet: those of `relation`, and others that only this crate knows. All above speak of a sheet's operators and of "closes before".
-- Assumes nothing.
--     word a, below 32: bit b is set where operator a closes before b
--     word 32: the count of operators, in its lowest byte
--     word 33: bit c is set where operator c is a prefix operator
--     word 34: 1 in a sheet that was loaded, so that one of no operators and no rules is told from none
--     word 35: set aside, 0
use Rattle.std.specs.Prelude.{ℕ, ◌+◌, ◌%◌, Bool, not, ◌&&◌, List, eqb, ltb, get_or}
use Rattle.expression.specs.Limits.{most_operators}
use Rattle.expression.specs.Token.{Operators}
use Rattle.relation.specs.Relation.{bit_of}
use Rattle.relation.specs.Words.{operators_by}
-- the fresh sheet has no operators and no rules, and none was loaded: all words are 0
pub use Rattle.relation.specs.Relation.{sheet_words, fresh}

-- the place of the count
abbrev pub count_word : ℕ
count_word = most_operators

-- the place of the prefix operators
abbrev pub prefix_word_at : ℕ
prefix_word_at = most_operators + 1

-- the place of the mark of a loaded sheet
abbrev pub loaded_word : ℕ
loaded_word = most_operators + 2

-- The operators of a sheet.
unfoldable pub operators_of : List ℕ → Operators
operators_of sheet = operators_by (get_or sheet count_word 0 % 256) (get_or sheet prefix_word_at 0)

-- The sheet has operator c as a prefix operator, if it has it at all. No operator is 32 or more.
unfoldable pub prefix_in : List ℕ → ℕ → Bool
prefix_in sheet c = ltb c most_operators && bit_of (get_or sheet prefix_word_at 0) c

-- it has some prefix operator, of those below 32
unfoldable pub some_prefix : List ℕ → Bool
some_prefix sheet = not (eqb (get_or sheet prefix_word_at 0) 0)

-- A sheet was loaded into the words.
unfoldable pub is_loaded : List ℕ → Bool
is_loaded sheet = not (eqb (get_or sheet loaded_word 0) 0)
