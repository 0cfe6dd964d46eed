-- The reply to a line that has a sheet's frame. Assumes nothing.
use Rattle.std.specs.Prelude.{ℕ, cond, List, [], ◌∷◌, eqb}
use Rattle.std.proofs.Math.Option.{Option, none, some}
use Rattle.expression.specs.Refusal.{accepted, oversize, frame, first}
use Rattle.disambiguation.specs.SheetChecks.{order_checks}
use Rattle.hexadecimal.specs.Text.{bytes_of, text_of}
use Rattle.frame.specs.Lines.{is_long}
use Rattle.witness.specs.Explaining.{explained}

-- the number, then on success the answer's bytes
abbrev pub numbered : ℕ → List ℕ → List ℕ
numbered number answer = number ∷ cond (eqb number accepted) answer []

-- To a sheet of n operators with the bytes after n: 1, 2, 3, or 0 and what shows the verdict. (10 is not among the numbers: every answer has room.)
unfoldable pub sheet_bytes : ℕ → List ℕ → List ℕ
sheet_bytes n bytes = numbered (first (order_checks n bytes)) (explained n bytes)

-- to the bytes after the kind of a sheet's frame: n comes first
abbrev pub named_bytes : List ℕ → List ℕ
named_bytes [] = frame ∷ []
named_bytes (n ∷ bytes) = sheet_bytes n bytes

-- to a frame: its first byte is the kind, and a sheet's is 01
unfoldable pub frame_bytes : List ℕ → List ℕ
frame_bytes [] = frame ∷ []
frame_bytes (kind ∷ rest) = cond (eqb kind 1) (named_bytes rest) (frame ∷ [])

-- a line that is not made of digit pairs has no frame
abbrev pub text_bytes : Option (List ℕ) → List ℕ
text_bytes none = frame ∷ []
text_bytes (some bytes) = frame_bytes bytes

-- A line tests 1, then 12, then the sheet's list.
unfoldable pub line_bytes : List ℕ → List ℕ
line_bytes line = cond (is_long line) (oversize ∷ []) (text_bytes (bytes_of line))

-- the characters of the reply, without a line end
abbrev pub line_reply : List ℕ → List ℕ
line_reply line = text_of (line_bytes line)
