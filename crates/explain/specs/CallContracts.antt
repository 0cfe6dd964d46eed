-- What answering a line, and taking the bytes of a read, promise. Assumes nothing.
use Rattle.std.specs.Prelude.{ℕ, ◌+◌, ◌*◌, ◌≤◌, ◌≡◌, Bool, true, List, [], ◌++◌, length, take, Result, Ok, Err}
use Rattle.hexadecimal.specs.Text.{text_of, with_front}
use Rattle.frame.specs.CallContracts.{most_reply}
use Rattle.witness.specs.Explaining.{most_explained}
use Rattle.explain.specs.Lines.{said, last_said, Progress, Step, after_read, Read, after_reads, GoOn}

-- bytes of a read
abbrev pub block : ℕ
block = 1024

-- characters of the longest reply and its line end: the number and the longest answer, two a byte
abbrev pub most_said : ℕ
most_said = 2 * (1 + most_explained) + 1

-- the replies to a block, and the room that a reply is written into
abbrev pub out_bytes : ℕ
out_bytes = most_said * block + most_reply

-- The text of these bytes was written: the output was `before` and became `after`, and r is the text's length.
pub record Says (bytes before after : List ℕ) (r : ℕ) : Type 0 where
  pub measured : r ≡ length (text_of bytes)
  pub output : after ≡ with_front (text_of bytes) before
  pub inside : r + 1 ≤ most_said

-- A line was answered, behind what was there.
pub record Puts (line before after : List ℕ) : Type 0 where
  pub written : after ≡ before ++ said line
  pub inside : length after ≤ length before + most_said

-- The line and the output hold what is kept and what was written, with so many bytes written earlier and so many bytes of the input taken.
pub record Takes (p : Progress) (line out : List ℕ) (earlier count : ℕ) : Type 0 where
  pub keeps : line ≡ p.kept
  pub writes : out ≡ p.written
  pub inside : length out ≤ earlier + most_said * count

-- The last line was answered, where there is one, and none is kept.
pub record Ends (line after out : List ℕ) : Type 0 where
  pub keeps : after ≡ []
  pub writes : out ≡ last_said line
  pub inside : length out ≤ most_said

-- the bytes that a read gave
abbrev pub given : {E : Type 0} → Result ℕ E → List ℕ → List ℕ
given (Ok count) buf = take count buf
given (Err e) buf = []

-- What follows a read is in the line and the output, and tells whether to go on.
pub record Steps (s : Step) (line out : List ℕ) (go : Bool) : Type 0 where
  pub keeps : line ≡ s.made.kept
  pub writes : out ≡ s.made.written
  pub goes : go ≡ s.goes

-- A turn: some read was made, and what follows it is in the line and the output. The program goes on only if the write succeeds.
pub record Turns (before line out : List ℕ) (go : Bool) : Type 0 where
  pub failed : Bool
  pub bytes : List ℕ
  pub keeps : line ≡ (after_read failed before bytes).made.kept
  pub writes : out ≡ (after_read failed before bytes).made.written
  pub goes : go ≡ true → (after_read failed before bytes).goes ≡ true

-- A run: reads were made, one after the other, and what follows the last one is in the line and the output. (That what they gave is the input is the read call's.)
pub record Runs (line out : List ℕ) (go : Bool) : Type 0 where
  pub reads : List Read
  pub keeps : line ≡ (after_reads reads).made.kept
  pub writes : out ≡ (after_reads reads).made.written
  pub in_turn : GoOn reads
  pub goes : go ≡ true → (after_reads reads).goes ≡ true
