-- What the numbers of a line mean, in the words of docs/REFERENCE.md, section 4. Assumes nothing.
use Rattle.std.specs.Prelude.{ℕ, ◌%◌, ◌<◌, ◌≡◌, false, ◌⊎◌, List, [], ◌∷◌, length}
use Rattle.std.proofs.Math.Option.{some}
use Rattle.expression.specs.Refusal.{oversize, frame}
use Rattle.run.specs.Call.{Call}
use Rattle.run.specs.Book.{Book}
use Rattle.run.specs.Meaning.{When, SomeOf, Means}
use Rattle.hexadecimal.specs.Digits.{is_digit}
use Rattle.hexadecimal.specs.Text.{bytes_of}
use Rattle.frame.specs.Lines.{most_characters, line_call}

-- a line that is not made of digit pairs
abbrev pub NoPairs : List ℕ → Type 0
NoPairs line = (length line % 2 ≡ 0 → ⊥) ⊎ SomeOf (λ c. is_digit c ≡ false) line

-- Bytes that are no frame: no kind, or an unknown one; 01, 02 and 06 without the byte after the kind; 03, 04, 05 and 09 with more or fewer than that byte; 0A with any.
abbrev pub NoFrame : List ℕ → Type 0
NoFrame [] = Unit {0}
NoFrame (kind ∷ rest) =
    (kind < 1)
    ⊎ (10 < kind)
    ⊎ (((kind ≡ 1) ⊎ (kind ≡ 2) ⊎ (kind ≡ 6)) × (length rest ≡ 0))
    ⊎ (((kind ≡ 3) ⊎ (kind ≡ 4) ⊎ (kind ≡ 5) ⊎ (kind ≡ 9)) × (length rest ≡ 1 → ⊥))
    ⊎ ((kind ≡ 10) × (length rest ≡ 0 → ⊥))

-- the number of the line's call
abbrev pub OfCall : Book → List ℕ → ℕ → Type 0
OfCall b line number = (c : Call) × (line_call line ≡ some c) × Means b c number

-- 12: no digit pairs, or the bytes of no frame
abbrev pub WithFrame : Book → List ℕ → ℕ → Type 0
WithFrame b line = When (NoPairs line ⊎ ((bytes : List ℕ) × (bytes_of line ≡ some bytes) × NoFrame bytes)) frame (OfCall b line)

-- 1: over 12,356 characters; then 12; then the call's numbers.
abbrev pub MeansLine : Book → List ℕ → ℕ → Type 0
MeansLine b line = When (most_characters < length line) oversize (WithFrame b line)
