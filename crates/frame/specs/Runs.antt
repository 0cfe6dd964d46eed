-- Runs of lines from the fresh panel, and the replies that the book gives. A list of lines has the last one first. Assumes nothing.
use Rattle.std.specs.Prelude.{ℕ, ◌≡◌, Bool, true, false, List, [], ◌∷◌}
use Rattle.std.proofs.Math.Option.{Option, none, some}
use Rattle.expression.specs.Refusal.{accepted, oversize, frame}
use Rattle.expression.specs.Tree.{Tree}
use Rattle.disambiguation.specs.Conflicts.{conflict_count}
use Rattle.run.specs.Call.{Question, Call, stage, stage_list, switch, put_row, put_record, put_claim, drop, ask, fetch_record, fetch_row, image, build, repair, judge, yield, operand, shortest_row}
use Rattle.run.specs.Panel.{Panel, fresh}
use Rattle.run.specs.Book.{Book}
use Rattle.run.specs.Run.{book_after, Each}
use Rattle.run.specs.Promises.{Demand3}
use Rattle.run.specs.AnswerBytes.{Records, AnswerIs}
use Rattle.run.specs.Meaning.{Means}
use Rattle.run.specs.Answers.{Valued}
use Rattle.hexadecimal.specs.Text.{bytes_of, text_of}
use Rattle.frame.specs.Lines.{is_long, text_call, line_call, line_bytes, line_reply, line_after}
use Rattle.frame.specs.Meaning.{MeansLine}

-- each line gets the panel that the one before it left
unfoldable pub panel_after_lines : List (List ℕ) → Panel
panel_after_lines [] = fresh
panel_after_lines (line ∷ lines) = line_after (panel_after_lines lines) line

-- the calls that the lines make
abbrev pub with_call : Option Call → List Call → List Call
with_call none cs = cs
with_call (some c) cs = c ∷ cs

unfoldable pub calls_of : List (List ℕ) → List Call
calls_of [] = []
calls_of (line ∷ lines) = with_call (line_call line) (calls_of lines)

module _ (b : Book) where
  -- the bytes that the book answers to an accepted question in a line,
  abbrev pub SaidTo : Question → List ℕ → Type 0
  SaidTo (judge bytes) answer = (t : Tree) × Records b bytes t × (answer ≡ conflict_count b.rules t ∷ [])
  SaidTo (fetch_record k out) answer = AnswerIs b (fetch_record k out) answer
  SaidTo (fetch_row k out) answer = AnswerIs b (fetch_row k out) answer
  SaidTo (image k out) answer = AnswerIs b (image k out) answer
  SaidTo (build row out) answer = AnswerIs b (build row out) answer
  SaidTo (repair bytes out) answer = AnswerIs b (repair bytes out) answer
  SaidTo (yield bytes out) answer = AnswerIs b (yield bytes out) answer
  SaidTo (operand right bytes) answer = AnswerIs b (operand right bytes) answer
  SaidTo (shortest_row bytes out) answer = AnswerIs b (shortest_row bytes out) answer

  -- and to any call
  abbrev pub Said : Call → List ℕ → Type 0
  Said (stage n bytes) answer = answer ≡ []
  Said (stage_list n kinds rules) answer = answer ≡ []
  Said switch answer = answer ≡ []
  Said (put_row k row) answer = answer ≡ []
  Said (put_record k bytes) answer = answer ≡ []
  Said (put_claim k row bytes) answer = answer ≡ []
  Said (drop k) answer = answer ≡ []
  Said (ask q) answer = SaidTo q answer

  -- the number that the call's conditions give, then on success those bytes
  abbrev pub SaysFrame : Option Call → List ℕ → Type 0
  SaysFrame none bytes = bytes ≡ frame ∷ []
  SaysFrame (some c) bytes = (number : ℕ) × (answer : List ℕ) × (bytes ≡ number ∷ answer) × Means b c number × Valued number (Said c) [] answer

  abbrev pub SaysLine : (long : Bool) → List ℕ → List ℕ → Type 0
  SaysLine true line bytes = bytes ≡ oversize ∷ []
  SaysLine false line bytes = SaysFrame (text_call (bytes_of line)) bytes

  -- The reply to a line is the book's.
  abbrev pub Says : List ℕ → List ℕ → Type 0
  Says line reply = (bytes : List ℕ) × SaysLine (is_long line) line bytes × (reply ≡ text_of bytes)

-- Demand 1 of lines, for every panel value: a line that is refused, with whatever number, is answered by it alone and changes nothing.
pub record Demand1OfLines (p : Panel) (line : List ℕ) : Type 0 where
  pub unchanged : (number : ℕ) (answer : List ℕ) → line_bytes p line ≡ number ∷ answer → (number ≡ accepted → ⊥) → (answer ≡ []) × (line_after p line ≡ p)

-- After a run of lines, the last one first, from a fresh panel:
pub record Demand3OfLines (lines : List (List ℕ)) : Type 0 where
  -- demand 3 holds of the calls that the lines make;
  pub demand : Demand3 (calls_of lines)
  -- the reply to each is the one that the book gives after the lines before it;
  pub answered : Each (λ before line. Says (book_after (calls_of before)) line (line_reply (panel_after_lines before) line)) lines
  -- and its number is given under its condition, and under nothing else.
  pub numbers : Each (λ before line. (number : ℕ) (answer : List ℕ) → line_bytes (panel_after_lines before) line ≡ number ∷ answer → MeansLine (book_after (calls_of before)) line number) lines
