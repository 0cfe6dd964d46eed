-- Frames: the call that the bytes of a line stand for, and what is replied to it. Assumes nothing.
use Rattle.std.specs.Prelude.{ℕ, cond, List, [], ◌∷◌, eqb, replicate}
use Rattle.std.proofs.Math.Option.{Option, none, some}
use Rattle.expression.specs.Refusal.{frame}
use Rattle.run.specs.Image.{image_bytes}
use Rattle.run.specs.Call.{Question, Call, stage, stage_list, switch, put_row, put_record, put_claim, drop, ask, fetch_record, fetch_row, image, build, repair, judge, yield, operand, shortest_row}
use Rattle.run.specs.Panel.{Panel, if_accepted}
use Rattle.run.specs.Steps.{asked_outcome, outcome, after}

-- no answer of a line is longer: an image is the longest
abbrev pub most_answer : ℕ
most_answer = image_bytes

-- the output that a line's call gets has room for every answer
unfoldable pub room : List ℕ
room = replicate most_answer 0

-- a call that needs the byte after the kind, and takes all that follows it
abbrev pub named : (ℕ → List ℕ → Call) → List ℕ → Option Call
named call [] = none
named call (x ∷ rest) = some (call x rest)

-- a call that has that byte exactly
abbrev pub alone : (ℕ → Call) → List ℕ → Option Call
alone call [] = none
alone call (x ∷ []) = some (call x)
alone call (x ∷ y ∷ rest) = none

-- a call that has no byte after the kind
abbrev pub bare : Call → List ℕ → Option Call
bare call [] = some call
bare call (x ∷ rest) = none

-- the call of a kind and the bytes after it
unfoldable pub call_of : ℕ → List ℕ → Option Call
call_of kind rest =
    cond (eqb kind 1) (named stage rest)
    (cond (eqb kind 2) (named put_row rest)
    (cond (eqb kind 3) (alone drop rest)
    (cond (eqb kind 4) (alone (λ k. ask (fetch_record k room)) rest)
    (cond (eqb kind 5) (alone (λ k. ask (fetch_row k room)) rest)
    (cond (eqb kind 6) (named put_record rest)
    (cond (eqb kind 7) (some (ask (judge rest)))
    (cond (eqb kind 8) (some (ask (repair rest room)))
    (cond (eqb kind 9) (alone (λ k. ask (image k room)) rest)
    (cond (eqb kind 10) (bare switch rest) none)))))))))

-- the call of a frame
abbrev pub frame_call : List ℕ → Option Call
frame_call [] = none
frame_call (kind ∷ rest) = call_of kind rest

module _ (p : Panel) where
  -- the answer's bytes: a judge's is the count
  abbrev pub answer_bytes : Question → List ℕ
  answer_bytes (judge bytes) = (asked_outcome p (judge bytes)).count ∷ []
  answer_bytes (fetch_record k out) = (asked_outcome p (fetch_record k out)).answer
  answer_bytes (fetch_row k out) = (asked_outcome p (fetch_row k out)).answer
  answer_bytes (image k out) = (asked_outcome p (image k out)).answer
  answer_bytes (build row out) = (asked_outcome p (build row out)).answer
  answer_bytes (repair bytes out) = (asked_outcome p (repair bytes out)).answer
  answer_bytes (yield bytes out) = (asked_outcome p (yield bytes out)).answer
  answer_bytes (operand right bytes) = (asked_outcome p (operand right bytes)).answer
  answer_bytes (shortest_row bytes out) = (asked_outcome p (shortest_row bytes out)).answer

  abbrev pub answer_of : Call → List ℕ
  answer_of (stage n bytes) = []
  answer_of (stage_list n kinds rules) = []
  answer_of switch = []
  answer_of (put_row k row) = []
  answer_of (put_record k bytes) = []
  answer_of (put_claim k row bytes) = []
  answer_of (drop k) = []
  answer_of (ask q) = answer_bytes q

  -- a frame that is no call is 12 and changes nothing
  abbrev pub frame_number : Option Call → ℕ
  frame_number none = frame
  frame_number (some c) = (outcome p c).number

  abbrev pub frame_answer : Option Call → List ℕ
  frame_answer none = []
  frame_answer (some c) = answer_of c

  abbrev pub frame_after : Option Call → Panel
  frame_after none = p
  frame_after (some c) = after p c

  -- the number, then on success the answer's bytes
  abbrev pub frame_reply : Option Call → List ℕ
  frame_reply call = frame_number call ∷ if_accepted (frame_number call) (frame_answer call) []
