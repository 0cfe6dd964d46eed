-- Laws of the text form for callers: letter case, lines that are read, and outputs with room. Assumes nothing.
use mathlib.Core.Path.{◌≡◌, refl, ap, ◌∙◌}
use mathlib.Core.Bool.{Bool, true, false, ◌&&◌, cond}
use mathlib.Core.List.{List, []}
use mathlib.Core.Option.{none, some}
use Prim.Native.Nat.{ℕ, ◌+◌, ◌*◌, ◌-◌, ◌/◌, ◌%◌, ◌≤◌}
use native.Mathlib.Omega.{arith}
use borrow.Author.Tests.{le-leb, lt-leb, eqb-true}
use lib.Dec.{eqb}
use lib.ListN.{length}
use Rattle.hexadecimal.specs.Digits.{digit_of, is_digit, all_digits}
use Rattle.std.specs.Prelude as code
use Rattle.std.specs.Prelude.{Some}
use Rattle.hexadecimal.specs.Text.{pair_bytes, bytes_of, text_of, bytes_within, text_within, Encodes}
use Rattle.hexadecimal.proofs.TextWays.{length_pair_bytes, length_text_of}

-- ---- digits
-- the value of a letter
upper_digit : (c : ℕ) → 65 ≤ c → c ≤ 70 → digit_of c ≡ c - 65 + 10
unfolding digit_of
upper_digit c l h = simp (lt-leb c 57 (omega arith), le-leb 48 c (omega arith), le-leb 65 c l, le-leb c 70 h)

lower_digit : (c : ℕ) → 97 ≤ c → c ≤ 102 → digit_of c ≡ c - 97 + 10
unfolding digit_of
lower_digit c l h =
    simp (le-leb 48 c (omega arith), lt-leb c 57 (omega arith), le-leb 65 c (omega arith), lt-leb c 70 (omega arith), le-leb 97 c l, le-leb c 102 h)

-- A letter stands for the same value in either case.
pub either_case : (c : ℕ) → 65 ≤ c → c ≤ 70 → digit_of (c + 32) ≡ digit_of c
either_case c l h =
    let p = upper_digit c l h in
    let q = lower_digit (c + 32) (omega arith) (omega arith) in
    omega arith

-- A carriage return is no digit.
pub carriage_return : is_digit 13 ≡ false
unfolding is_digit
carriage_return = refl

-- ---- lines
-- the empty line stands for no bytes
pub bytes_of_empty : bytes_of [] ≡ some []
unfolding bytes_of all_digits pair_bytes
bytes_of_empty = refl

-- What a line that is read is: an even number of characters, all of them digits, and its bytes are its pairs'.
pub record Line (line bytes : List ℕ) : Type 0 where
  pub even : length line ≡ length bytes * 2
  pub digits : all_digits line ≡ true
  pub pairs : bytes ≡ pair_bytes line

pub line_read : (line bytes : List ℕ) → bytes_of line ≡ some bytes → Line line bytes
unfolding bytes_of
line_read line bytes e = by_test (eqb (length line % 2) 0) (all_digits line) refl refl e
  where
    by_test : (p d : Bool) → eqb (length line % 2) 0 ≡ p → all_digits line ≡ d → cond (p && d) (some (pair_bytes line)) none ≡ some bytes → Line line bytes
    by_test true true p d e =
        let m = eqb-true (length line % 2) 0 p in
        let n = length_pair_bytes line in
        let q : bytes ≡ pair_bytes line = cc in
        record { even = omega (arith, ap length q); digits = d; pairs = q }
    by_test true false p d e = let z : ◌≡◌ {A = ℕ} 0 1 = cc in absurd (omega arith)
    by_test false d p f e = let z : ◌≡◌ {A = ℕ} 0 1 = cc in absurd (omega arith)

-- ---- outputs with room
pub bytes_within_room : (room : ℕ) (line : List ℕ) → length line / 2 ≤ room → bytes_within room line ≡ bytes_of line
unfolding bytes_within
bytes_within_room room line h = rw (le-leb (length line / 2) room h)

pub text_within_room : (room : ℕ) (bytes : List ℕ) → length bytes * 2 ≤ room → text_within room bytes ≡ text_of bytes
unfolding text_within
text_within_room room bytes h = let n = length_text_of bytes in rw (le-leb (length (text_of bytes)) room (omega arith))

-- Bytes whose text has room are written.
pub encodes_room : {bytes before after : List ℕ} {r : code.Option ℕ} → Encodes bytes before after r → length bytes * 2 ≤ length before → r ≡ Some (length bytes * 2)
encodes_room {bytes} {before} e h = let n = length_text_of bytes in let l = le-leb (length (text_of bytes)) (length before) (omega arith) in e.answer ∙ rw (l, n)
