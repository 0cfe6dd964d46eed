-- The relation "a closes before b" in words: bit b of word a. Assumes nothing.
use Rattle.std.specs.Prelude.{ℕ, ◌+◌, ◌/◌, ◌%◌, ◌^◌, Bool, ◌&&◌, List, eqb, ltb, get_or, replicate}
use Rattle.expression.specs.Limits.{most_operators}

-- bit c of the word x is set
unfoldable pub bit_of : ℕ → ℕ → Bool
bit_of x c = eqb (x / 2 ^ c % 2) 1

-- The sheet says that operator a closes before b. No operator is 32 or more.
unfoldable pub closes_in : List ℕ → ℕ → ℕ → Bool
closes_in sheet a b = ltb a most_operators && (ltb b most_operators && bit_of (get_or sheet a 0) b)

-- the relation read the other way round
abbrev pub turned : (ℕ → ℕ → Bool) → ℕ → ℕ → Bool
turned relation a b = relation b a

-- all words of a sheet: one for each operator, and four others, which are known to the crate `sheet` alone
abbrev pub sheet_words : ℕ
sheet_words = most_operators + 4

-- the empty relation; all other words are 0 too
abbrev pub fresh : List ℕ
fresh = replicate sheet_words 0
