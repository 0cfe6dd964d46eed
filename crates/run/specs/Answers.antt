-- What the book answers to a call, in the terms of docs/REFERENCE.md, section 9. Assumes nothing.
use Rattle.std.specs.Prelude.{ℕ, ◌≡◌, List, [], ◌++◌, length, drop}
use Rattle.expression.specs.Refusal as refusal
use Rattle.expression.specs.Tree.{Tree}
use Rattle.expression.specs.Operand.{operand_record}
use Rattle.disambiguation.specs.Conflicts.{conflict_count}
use Rattle.run.specs.Call.{Question, Call, lent_before, stage, stage_list, switch, put_row, put_record, put_claim, ask, fetch_record, fetch_row, image, build, repair, judge, yield, operand, shortest_row, Reply}
use Rattle.run.specs.Call as call
use Rattle.run.specs.Book.{Book}
use Rattle.run.specs.AnswerBytes.{Records, AnswerIs}
use Rattle.run.specs.Meaning.{Means}

-- A lent output, of a call with this number: accepted, it is the answer's bytes, then what stood there before, and the length told is the answer's; refused, it is as before,
-- and the length is 0.
pub record Lent (number : ℕ) (Is : List ℕ → Type 0) (before : List ℕ) (size : ℕ) (after : List ℕ) : Type 0 where
  pub accepted : number ≡ refusal.accepted → (answer : List ℕ) × Is answer × (size ≡ length answer) × (after ≡ answer ++ drop (length answer) before)
  pub refused : (number ≡ refusal.accepted → ⊥) → (size ≡ 0) × (after ≡ before)

-- A value, of a call with this number: accepted, it is so; refused, it is the one given.
pub record Valued {A : Type 0} (number : ℕ) (Is : A → Type 0) (instead : A) (value : A) : Type 0 where
  pub accepted : number ≡ refusal.accepted → Is value
  pub refused : (number ≡ refusal.accepted → ⊥) → value ≡ instead

module _ (b : Book) where
  -- a judge's count
  abbrev pub Count : Question → (number : ℕ) → ℕ → Type 0
  Count (judge bytes) number count = Valued number (λ c. (t : Tree) × Records b bytes t × (c ≡ conflict_count b.rules t)) 0 count
  Count (fetch_record k out) number count = count ≡ 0
  Count (fetch_row k out) number count = count ≡ 0
  Count (image k out) number count = count ≡ 0
  Count (build row out) number count = count ≡ 0
  Count (repair bytes out) number count = count ≡ 0
  Count (yield bytes out) number count = count ≡ 0
  Count (operand right bytes) number count = count ≡ 0
  Count (shortest_row bytes out) number count = count ≡ 0

  -- an operand's part
  abbrev pub Part : Question → (number : ℕ) → List ℕ → Type 0
  Part (operand right bytes) number part = Valued number (λ x. (t : Tree) × Records b bytes t × (x ≡ operand_record right t)) [] part
  Part (fetch_record k out) number part = part ≡ []
  Part (fetch_row k out) number part = part ≡ []
  Part (image k out) number part = part ≡ []
  Part (build row out) number part = part ≡ []
  Part (repair bytes out) number part = part ≡ []
  Part (judge bytes) number part = part ≡ []
  Part (yield bytes out) number part = part ≡ []
  Part (shortest_row bytes out) number part = part ≡ []

  -- The reply to a question, beside its number: the whole lent output with the answer's length, the count and the part;
  pub record Answered (q : Question) (r : Reply) : Type 0 where
    pub output : Lent r.number (AnswerIs b q) (lent_before q) r.length r.output
    pub count : Count q r.number r.count
    pub part : Part q r.number r.part

  -- other calls have none of these.
  pub record Silent (r : Reply) : Type 0 where
    pub length : r.length ≡ 0
    pub output : r.output ≡ []
    pub count : r.count ≡ 0
    pub part : r.part ≡ []

  abbrev pub Rest : Call → Reply → Type 0
  Rest (stage n bytes) r = Silent r
  Rest (stage_list n kinds rules) r = Silent r
  Rest switch r = Silent r
  Rest (put_row k row) r = Silent r
  Rest (put_record k bytes) r = Silent r
  Rest (put_claim k row bytes) r = Silent r
  Rest (call.drop k) r = Silent r
  Rest (ask q) r = Answered q r

  -- The reply is the book's: its number is the one that the conditions give.
  pub record Answers (c : Call) (r : Reply) : Type 0 where
    pub number : Means b c r.number
    pub rest : Rest c r
