-- The bytes that a line of digit pairs stands for, the text of bytes, and what reading and writing them answer. Assumes nothing.
use Rattle.std.specs.Prelude.{ℕ, ◌/◌, ◌%◌, ◌≤◌, ◌≡◌, Bool, ◌&&◌, cond, List, [], ◌∷◌, ◌++◌, leb, eqb, length, drop, Result, Ok, Err, IfOk, Some, None, IfSome}
use Rattle.std.specs.Prelude as code
use Rattle.std.proofs.Math.Option.{Option, none, some}
use Rattle.hexadecimal.specs.Digits.{all_digits, byte_of, character_of}
use Rattle.hexadecimal.specs.declared.DecodeError.{DecodeError}
use Rattle.hexadecimal.specs.declared.DecodeError.TheVariants.{NotPairs, NoRoom}

-- the byte of each pair of characters
unfoldable pub pair_bytes : List ℕ → List ℕ
pair_bytes [] = []
pair_bytes (c ∷ []) = []
pair_bytes (c ∷ d ∷ s) = byte_of c d ∷ pair_bytes s

-- a line made of digit pairs: its characters are even in number, and all of them digits
abbrev pub is_text : List ℕ → Bool
is_text line = eqb (length line % 2) 0 && all_digits line

-- The bytes that a line stands for; none where it is not made of digit pairs.
unfoldable pub bytes_of : List ℕ → Option (List ℕ)
bytes_of line = cond (is_text line) (some (pair_bytes line)) none

-- the bytes as digit pairs, in lower case
unfoldable pub text_of : List ℕ → List ℕ
text_of [] = []
text_of (b ∷ bytes) = character_of (b / 16) ∷ character_of (b % 16) ∷ text_of bytes

-- an output with the bytes at its front, and the rest as before
abbrev pub with_front : List ℕ → List ℕ → List ℕ
with_front bytes before = bytes ++ drop (length bytes) before

-- The line's bytes, where an output of this length has room for them.
unfoldable pub bytes_within : ℕ → List ℕ → Option (List ℕ)
bytes_within room line = cond (leb (length line / 2) room) (bytes_of line) none

-- what is answered of a line, by whether it is made of digit pairs and the bytes that it is read into
abbrev pub answer_of : Bool → Option (List ℕ) → Result ℕ DecodeError
answer_of pairs none = Err (cond pairs NoRoom NotPairs)
answer_of pairs (some bytes) = Ok (length bytes)

abbrev pub output_of : Option (List ℕ) → List ℕ → List ℕ
output_of none before = before
output_of (some bytes) before = with_front bytes before

-- A line read into an output: the answer, and the whole output after it.
pub record Decodes (line before after : List ℕ) (r : Result ℕ DecodeError) : Type 0 where
  pub answer : r ≡ answer_of (is_text line) (bytes_within (length before) line)
  pub output : after ≡ output_of (bytes_within (length before) line) before
  pub inside : IfOk r (λ n. n ≤ length before)

-- The bytes' text, or nothing where an output of this length has no room for it.
unfoldable pub text_within : ℕ → List ℕ → List ℕ
text_within room bytes = cond (leb (length (text_of bytes)) room) (text_of bytes) []

-- Bytes written as text into an output: the text's length where it has room, and the whole output after it.
pub record Encodes (bytes before after : List ℕ) (r : code.Option ℕ) : Type 0 where
  pub answer : r ≡ cond (leb (length (text_of bytes)) (length before)) (Some (length (text_of bytes))) None
  pub output : after ≡ with_front (text_within (length before) bytes) before
  pub inside : IfSome r (λ n. n ≤ length before)
