-- Hexadecimal digits: their values in either letter case, and their characters in lower case. Assumes nothing.
use Rattle.std.specs.Prelude.{ℕ, ◌+◌, ◌*◌, ◌-◌, ◌<◌, ◌≡◌, Bool, true, ◌&&◌, ◌||◌, cond, List, [], ◌∷◌, ltb, leb}

-- the character is one from low to high
abbrev pub between : ℕ → ℕ → ℕ → Bool
between low high c = leb low c && leb c high

-- 0 to 9 (30 to 39 in hexadecimal), A to F (41 to 46), a to f (61 to 66)
unfoldable pub is_digit : ℕ → Bool
is_digit c = between 48 57 c || between 65 70 c || between 97 102 c

-- the value of a digit; 0 for a character that is none
unfoldable pub digit_of : ℕ → ℕ
digit_of c = cond (between 48 57 c) (c - 48) (cond (between 65 70 c) (c - 65 + 10) (cond (between 97 102 c) (c - 97 + 10) 0))

-- r is the value of the digit c
pub record Valued (c r : ℕ) : Type 0 where
  pub value : r ≡ digit_of c
  pub small : r < 16

unfoldable pub all_digits : List ℕ → Bool
all_digits [] = true
all_digits (c ∷ s) = is_digit c && all_digits s

-- the byte of two digits, the high one first
unfoldable pub byte_of : ℕ → ℕ → ℕ
byte_of high low = digit_of high * 16 + digit_of low

-- the character of a digit's value: 0 to 9, a to f
unfoldable pub character_of : ℕ → ℕ
character_of v = cond (ltb v 10) (v + 48) (v - 10 + 97)
