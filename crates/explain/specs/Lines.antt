-- The input taken byte by byte: what is written, and what is kept of the unfinished line. Assumes nothing.
use Rattle.std.specs.Prelude.{ℕ, ◌+◌, ◌≡◌, Bool, true, false, cond, List, [], ◌∷◌, ◌++◌, eqb, ltb, length}
use Rattle.line_io.specs.Lines.{line_feed}
use Rattle.frame.specs.Lines.{most_characters}
use Rattle.explain.specs.Replies.{line_reply}

-- the reply to a line, with a line end
abbrev pub said : List ℕ → List ℕ
said line = line_reply line ++ line_feed ∷ []

-- of a line so many characters are kept: one more than a line may have
abbrev pub most_kept : ℕ
most_kept = most_characters + 1

-- What was written, and what is kept of the unfinished line.
pub record Progress : Type 0 where
  pub written : List ℕ
  pub kept : List ℕ

abbrev pub progress : List ℕ → List ℕ → Progress
progress written kept = record { written = written; kept = kept }

-- the kept characters and one more, while there is room
abbrev pub kept_with : List ℕ → ℕ → List ℕ
kept_with line c = cond (ltb (length line) most_kept) (line ++ c ∷ []) line

-- A line end has the line answered, and the next one begins; any other byte is kept.
abbrev pub with_byte : Progress → ℕ → Progress
with_byte p c = cond (eqb c line_feed) (progress (p.written ++ said p.kept) []) (progress p.written (kept_with p.kept c))

unfoldable pub with_bytes : Progress → List ℕ → Progress
with_bytes p [] = p
with_bytes p (c ∷ bytes) = with_bytes (with_byte p c) bytes

-- at the end of the input, a last line without line end counts if not empty
unfoldable pub last_said : List ℕ → List ℕ
last_said [] = []
last_said (c ∷ line) = said (c ∷ line)

-- After a read: what was written, what is kept, and whether to go on.
pub record Step : Type 0 where
  pub made : Progress
  pub goes : Bool

abbrev pub step : Progress → Bool → Step
step made goes = record { made = made; goes = goes }

-- A read behind the kept characters failed, and the line that it cut is not run; or gave nothing, and the input has ended; or gave bytes.
unfoldable pub after_read : (failed : Bool) → (kept bytes : List ℕ) → Step
after_read true kept bytes = step (progress [] []) false
after_read false kept [] = step (progress (last_said kept) []) false
after_read false kept (c ∷ bytes) = step (with_bytes (progress [] kept) (c ∷ bytes)) true

-- a read: whether it failed, and the bytes that it gave
abbrev pub Read : Type 0
Read = Bool × List ℕ

-- After reads, the last one first: each stands behind what the one before it kept.
unfoldable pub after_reads : List Read → Step
after_reads [] = step (progress [] []) true
after_reads (r ∷ reads) = after_read r.0 (after_reads reads).made.kept r.1

-- each read but the last one led to the next
unfoldable pub GoOn : List Read → Type 0
GoOn [] = Unit {0}
GoOn (r ∷ reads) = ((after_reads reads).goes ≡ true) × GoOn reads

-- ---- in lines
-- the characters of lines, each with its line end
unfoldable pub with_ends : List (List ℕ) → List ℕ
with_ends [] = []
with_ends (line ∷ lines) = (line ++ line_feed ∷ []) ++ with_ends lines

-- the replies to lines, each with a line end
unfoldable pub all_said : List (List ℕ) → List ℕ
all_said [] = []
all_said (line ∷ lines) = said line ++ all_said lines

-- no line end stands in a line
unfoldable pub Plain : List ℕ → Type 0
Plain [] = Unit {0}
Plain (c ∷ line) = (c ≡ line_feed → ⊥) × Plain line

unfoldable pub AllPlain : List (List ℕ) → Type 0
AllPlain [] = Unit {0}
AllPlain (line ∷ lines) = Plain line × AllPlain lines
