-- Sets of operators as the bits of a word. Assumes nothing.
use Rattle.std.specs.Prelude.{ℕ, zero, suc, ◌-◌, ◌^◌, ◌<◌, ◌≡◌, Bool, not, ◌&&◌, cond, List, [], ◌∷◌, ◌++◌, ltb}
use Rattle.std.specs.Int.Bits.{bit_and, bit_or}
use Rattle.expression.specs.Lists.{one_if}
use Rattle.expression.specs.Limits.{most_operators}
use Rattle.expression.specs.Token.{Operators, operators}
use Rattle.relation.specs.Relation.{bit_of}

-- The word is the set of the operators of which the test holds.
pub record SetOf (test : ℕ → Bool) (word : ℕ) : Type 0 where
  pub bit : (c : ℕ) → c < most_operators → bit_of word c ≡ test c

-- the word, with bit c set if told so
unfoldable pub with_bit : ℕ → ℕ → Bool → ℕ
with_bit x c told = cond told (bit_or x (2 ^ c)) x

-- the word of the numbers below k of which the test holds
unfoldable pub word_where : (ℕ → Bool) → ℕ → ℕ
word_where test zero = 0
word_where test (suc c) = with_bit (word_where test c) c (test c)

-- the bits of x that y has not, in words of 32 bits
unfoldable pub without : ℕ → ℕ → ℕ
without x y = bit_and x ((2 ^ 32 - 1) - y)

-- a number below n that is not in the set
unfoldable pub outside_of : ℕ → ℕ → ℕ → Bool
outside_of n set c = ltb c n && not (bit_of set c)

-- the kinds of n operators, of which those in the word are prefix operators
abbrev pub kinds_below : ℕ → ℕ → List ℕ
kinds_below zero w = []
kinds_below (suc n) w = kinds_below n w ++ (one_if (bit_of w n) ∷ [])

abbrev pub operators_by : ℕ → ℕ → Operators
operators_by n w = operators n (kinds_below n w)
