-- What each way through the loops over pairs of digits gives, from what is known on it. Assumes nothing.
use mathlib.Core.Path.{◌≡◌, refl, sym, ap, ◌∙◌}
use mathlib.Core.Bool.{true, ◌&&◌, and_assoc, and-true}
use mathlib.Core.List.{List, [], ◌∷◌, ◌++◌}
use Prim.Native.Nat.{ℕ, zero, suc, ◌+◌, ◌*◌, ◌/◌, ◌%◌, ◌<◌, ◌≤◌}
use native.Mathlib.Numerals.{add-one}
use native.Mathlib.Omega.{arith}
use mir.Syntax.{w8}
use mir.Val.{Fits}
use borrow.Author.Rules.{rules}
use lib.ListN.{length, get_or, take, drop, set, length-drop, length-set, drop_of_length-le}
use lib.Seq.{sets, drop-cons, drop-drop}
use Rattle.std.specs.Char.{is_ascii_hexdigit}
use Rattle.std.specs.Simd.{first_chunks}
use Rattle.hexadecimal.specs.Digits.{is_digit, all_digits, byte_of, character_of}
use Rattle.hexadecimal.specs.Text.{pair_bytes, text_of}
use Rattle.hexadecimal.proofs.DigitWays.{both_true}

-- ---- all_digits
-- One character more is tested.
pub digits_more : (line : List ℕ) (c : ℕ) → all_digits (line ++ (c ∷ [])) ≡ (all_digits line && is_ascii_hexdigit c)
unfolding all_digits is_digit
digits_more [] c = and-true (is_ascii_hexdigit c)
digits_more (d ∷ s) c = ap (λ b. is_digit d && b) (digits_more s c) ∙ sym (and_assoc (is_digit d) (all_digits s) (is_ascii_hexdigit c))

-- ---- write_bytes
-- The bytes of the first i pairs are written.
pub record Reading (line before : List ℕ) (pairs : List (List ℕ)) (out : List ℕ) (i : ℕ) : Type 0 where
  pub written : sets before 0 (pair_bytes line) ≡ sets out i (pair_bytes (drop (i * 2) line))
  pub same_length : length out ≡ length before
  pub digits : all_digits line ≡ true
  pub room : length line ≤ length before * 2
  pub split : pairs ≡ first_chunks 2 (length line / 2) line
  pub inside : i ≤ length line / 2

-- a character of a line of digits
digit_at : (line : List ℕ) (i : ℕ) → all_digits line ≡ true → i < length line → is_digit (get_or line i 0) ≡ true
unfolding all_digits
digit_at [] i e h = absurd (omega arith)
digit_at (c ∷ s) zero e h = (both_true (is_digit c) (all_digits s) e).0
digit_at (c ∷ s) (suc i) e h = digit_at s i (both_true (is_digit c) (all_digits s) e).1 (omega arith)

-- a pair of a line
pair_at : (line : List ℕ) (n i : ℕ) → i < n → get_or (first_chunks 2 n line) i [] ≡ take 2 (drop (i * 2) line)
pair_at line zero i h = absurd (omega arith)
pair_at line (suc n) zero h = refl
pair_at line (suc n) (suc i) h =
    let two : suc i * 2 ≡ 2 + i * 2 = omega arith in
    pair_at (drop 2 line) n i (omega arith) ∙ ap (take 2) (drop-drop (i * 2) 2 line) ∙ rw two

bytes_more : (line : List ℕ) (i : ℕ) → i * 2 + 1 < length line
    → pair_bytes (drop (i * 2) line) ≡ byte_of (get_or line (i * 2) 0) (get_or line (i * 2 + 1) 0) ∷ pair_bytes (drop ((i + 1) * 2) line)
unfolding pair_bytes
bytes_more line i h =
    let two : (i + 1) * 2 ≡ suc (suc (i * 2)) = omega arith in
    ap pair_bytes (drop-cons line (i * 2) 0 (omega arith) ∙ ap (λ s. get_or line (i * 2) 0 ∷ s) (drop-cons line (suc (i * 2)) 0 (omega arith)))
    ∙ rw (two, add-one)

bytes_none : (line : List ℕ) (i : ℕ) → length line < i * 2 + 2 → pair_bytes (drop (i * 2) line) ≡ []
unfolding pair_bytes
bytes_none line i h = short (drop (i * 2) line) (rw length-drop (omega arith))
  where
    short : (s : List ℕ) → length s < 2 → pair_bytes s ≡ []
    short [] l = refl
    short (c ∷ []) l = refl
    short (c ∷ d ∷ s) l = absurd (omega arith)

pub reading_starts : (line out : List ℕ) (pairs : List (List ℕ)) → all_digits line ≡ true → length line ≤ length out * 2
    → pairs ≡ first_chunks 2 (length line / 2) line → Reading line out pairs out 0
reading_starts line out pairs d r e = record { written = refl; same_length = refl; digits = d; room = r; split = e; inside = omega arith }

module _ {line before : List ℕ} {pairs : List (List ℕ)} {out : List ℕ} {i : ℕ} (t : Reading line before pairs out i) where
  -- the characters of a pair
  pair_is : i < length line / 2 → get_or pairs i [] ≡ get_or line (i * 2) 0 ∷ get_or line (i * 2 + 1) 0 ∷ []
  pair_is h =
      ap (λ p. get_or p i []) t.split ∙ pair_at line (length line / 2) i h
      ∙ ap (take 2) (drop-cons line (i * 2) 0 (omega arith) ∙ ap (λ s. get_or line (i * 2) 0 ∷ s) (drop-cons line (suc (i * 2)) 0 (omega arith))) ∙ rw add-one

  pub high_digit : i < length line / 2 → is_digit (get_or (get_or pairs i []) 0 0) ≡ true
  high_digit h = ap (λ p. is_digit (get_or p 0 0)) (pair_is h) ∙ digit_at line (i * 2) t.digits (omega arith)

  pub low_digit : i < length line / 2 → is_digit (get_or (get_or pairs i []) 1 0) ≡ true
  low_digit h = ap (λ p. is_digit (get_or p 1 0)) (pair_is h) ∙ digit_at line (i * 2 + 1) t.digits (omega arith)

  pub reading_more : {b : ℕ} → i < length line / 2 → b ≡ byte_of (get_or (get_or pairs i []) 0 0) (get_or (get_or pairs i []) 1 0) → Reading line before pairs (set out i b) (i + 1)
  reading_more {b} h e =
      let f : b ≡ byte_of (get_or line (i * 2) 0) (get_or line (i * 2 + 1) 0) = e ∙ ap (λ p. byte_of (get_or p 0 0) (get_or p 1 0)) (pair_is h) in
      record {
        written = t.written ∙ ap (sets out i) (bytes_more line i (omega arith)) ∙ rw (add-one i, f);
        same_length = length-set out i b ∙ t.same_length;
        digits = t.digits;
        room = t.room;
        split = t.split;
        inside = omega arith;
      }

  pub reading_done : length line / 2 ≤ i → out ≡ sets before 0 (pair_bytes line)
  reading_done h = sym (t.written ∙ ap (sets out i) (bytes_none line i (omega arith)))

  pub reading_length : length out ≡ length before
  reading_length = t.same_length

pub ruleset read_ways = (reading_starts, high_digit, low_digit, reading_more, reading_done, reading_length, rules)

-- ---- write_text
-- The text of the first i bytes is written.
pub record Writing (bytes before out : List ℕ) (i : ℕ) : Type 0 where
  pub written : sets before 0 (text_of bytes) ≡ sets out (i * 2) (text_of (drop i bytes))
  pub same_length : length out ≡ length before
  pub room : length bytes * 2 ≤ length before
  pub inside : i ≤ length bytes

pub high_value : (s : List ℕ) (i : ℕ) → ((k : ℕ) → Fits w8 (get_or s k 0)) → get_or s i 0 / 16 < 16
high_value s i f = omega (arith, f i)

pub writing_starts : (bytes out : List ℕ) → length bytes * 2 ≤ length out → Writing bytes out out 0
writing_starts bytes out r = record { written = refl; same_length = refl; room = r; inside = omega arith }

module _ {bytes before out : List ℕ} {i : ℕ} (t : Writing bytes before out i) where
  pub low_inside : (h : ℕ) → i < length bytes → i * 2 + 1 < length (set out (i * 2) h)
  low_inside h less = rw length-set (omega arith)

  pub writing_more : {h l : ℕ} → i < length bytes → h ≡ character_of (get_or bytes i 0 / 16) → l ≡ character_of (get_or bytes i 0 % 16)
      → Writing bytes before (set (set out (i * 2) h) (i * 2 + 1) l) (i + 1)
  unfolding text_of
  writing_more {h} {l} less p q =
      let two : (i + 1) * 2 ≡ suc (suc (i * 2)) = omega arith in
      record {
        written = t.written ∙ ap (λ s. sets out (i * 2) (text_of s)) (drop-cons bytes i 0 less) ∙ rw (two, add-one i, add-one (i * 2), p, q);
        same_length = length-set (set out (i * 2) h) (i * 2 + 1) l ∙ length-set out (i * 2) h ∙ t.same_length;
        room = t.room;
        inside = omega arith;
      }

  pub writing_done : length bytes ≤ i → out ≡ sets before 0 (text_of bytes)
  unfolding text_of
  writing_done h = sym (t.written ∙ ap (λ s. sets out (i * 2) (text_of s)) (drop_of_length-le bytes h))

  pub writing_length : length out ≡ length before
  writing_length = t.same_length

pub ruleset write_ways = (high_value, low_inside, writing_starts, writing_more, writing_done, writing_length, rules)
