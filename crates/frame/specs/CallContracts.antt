-- What answering a frame and a line promise. Assumes nothing.
use Rattle.std.specs.Prelude.{ℕ, ◌+◌, ◌*◌, ◌≤◌, ◌≡◌, List, [], ◌∷◌, length}
use Rattle.std.proofs.Math.Option.{Option}
use Rattle.expression.specs.Refusal.{accepted}
use Rattle.expression.specs.Lent.{output_after, length_after}
use Rattle.record.specs.declared.Answer.{Answer}
use Rattle.record.specs.declared.Judgement.{Judgement}
use Rattle.run.specs.Call.{Call}
use Rattle.places.specs.Memory.{Memory, panel_in}
use Rattle.hexadecimal.specs.Text.{text_of, with_front}
use Rattle.frame.specs.Frames.{most_answer, frame_number, frame_answer, frame_after}
use Rattle.frame.specs.Lines.{line_bytes, line_reply, line_after}

-- The call of a frame was run: the output was `before` and became `after`, and the panel's memory became `later`. A refusal leaves that as it was.
pub record Tells (m : Memory) (call : Option Call) (before after : List ℕ) (later : Memory) (r : Answer) : Type 0 where
  pub numbered : r.number ≡ frame_number (panel_in m) call
  pub measured : r.length ≡ length_after (frame_number (panel_in m) call) (frame_answer (panel_in m) call)
  pub output : after ≡ output_after (frame_number (panel_in m) call) (frame_answer (panel_in m) call) before
  pub stands : panel_in later ≡ frame_after (panel_in m) call
  pub kept : (r.number ≡ accepted → ⊥) → later ≡ m

-- characters of the longest reply: the number and the longest answer, two a byte
abbrev pub most_reply : ℕ
most_reply = 2 * (1 + most_answer)

-- bytes of a frame that is read into the small buffer: kind, place and as many as the longest answer has; and characters of its line
abbrev pub short_frame : ℕ
short_frame = 2 + most_answer

abbrev pub short_line : ℕ
short_line = 2 * short_frame

-- The answer to a judgement: its count, where it is accepted.
pub record TellsCount (j : Judgement) (before after : List ℕ) (r : Answer) : Type 0 where
  pub numbered : r.number ≡ j.number
  pub measured : r.length ≡ length_after j.number (j.count ∷ [])
  pub output : after ≡ output_after j.number (j.count ∷ []) before

-- A number and an answer written as text: the output was `before` and became `after`, and r is the text's length.
pub record Writes (number : ℕ) (answer before after : List ℕ) (r : ℕ) : Type 0 where
  pub measured : r ≡ length (text_of (number ∷ answer))
  pub output : after ≡ with_front (text_of (number ∷ answer)) before
  pub inside : r ≤ most_reply

-- A line was answered: the output was `before` and became `after`, the panel's memory became `later`, and r is the reply's length. A line that is refused, with
-- whatever number, leaves the memory as it was.
pub record Replies (m : Memory) (line before after : List ℕ) (later : Memory) (r : ℕ) : Type 0 where
  pub measured : r ≡ length (line_reply (panel_in m) line)
  pub output : after ≡ with_front (line_reply (panel_in m) line) before
  pub stands : panel_in later ≡ line_after (panel_in m) line
  pub kept : (number : ℕ) (answer : List ℕ) → line_bytes (panel_in m) line ≡ number ∷ answer → (number ≡ accepted → ⊥) → later ≡ m
  pub inside : r ≤ most_reply
