-- Runs of lines: the panel after them is the panel after their calls, and each reply is the book's. Assumes nothing.
use Prim.Native.Nat.{ℕ}
use mathlib.Core.Path.{◌≡◌, refl, ap, subst, sym, ◌∙◌}
use mathlib.Core.Bool.{Bool, true, false, cond}
use mathlib.Core.List.{List, [], ◌∷◌}
use mathlib.Core.Option.{Option, none, some}
use borrow.Author.Tests.{ne_eqb}
use Rattle.expression.specs.Refusal.{accepted, oversize}
use Rattle.run.specs.Call.{Question, Call, stage, stage_list, switch, put_row, put_record, put_claim, drop, ask, fetch_record, fetch_row, image, build, repair, judge, yield, operand, shortest_row}
use Rattle.run.specs.Panel.{Panel, if_accepted}
use Rattle.run.specs.Steps.{outcome, after}
use Rattle.run.specs.Book.{Book, asked_number, book_number}
use Rattle.run.specs.Run.{panel_after, book_after, Each}
use Rattle.run.proofs.Stands.{Stands, same_number}
use Rattle.run.proofs.Replies.{tells, answered}
use Rattle.run.proofs.Histories.{stands}
use Rattle.run.proofs.MeaningsBook.{reply_means}
use Rattle.run.proofs.Demand1.{demand_1}
use Rattle.run.proofs.Demand3.{demand_3}
use Rattle.hexadecimal.specs.Text.{bytes_of, text_of}
use Rattle.frame.specs.Frames.{answer_bytes, answer_of, frame_number, frame_after, frame_reply}
use Rattle.frame.specs.Lines.{is_long, text_call, line_call, line_bytes, line_reply, line_after}
use Rattle.frame.specs.Runs.{panel_after_lines, with_call, calls_of, SaidTo, Said, SaysFrame, SaysLine, Says, Demand1OfLines, Demand3OfLines}
use Rattle.frame.specs.Meaning.{MeansLine}
use Rattle.frame.proofs.Meanings.{line_means}

-- the first byte of a reply, and the others
abbrev head : List ℕ → ℕ
head [] = 0
head (x ∷ xs) = x

abbrev rest : List ℕ → List ℕ
rest [] = []
rest (x ∷ xs) = xs

-- The panel after the lines is the panel after their calls.
pub panel_after_lines_lem : (lines : List (List ℕ)) → panel_after_lines lines ≡ panel_after (calls_of lines)
unfolding panel_after_lines calls_of panel_after line_after
panel_after_lines_lem [] = refl
panel_after_lines_lem (line ∷ lines) = go (line_call line) (panel_after_lines_lem lines)
  where
    go : (call : Option Call) → panel_after_lines lines ≡ panel_after (calls_of lines) → frame_after (panel_after_lines lines) call ≡ panel_after (with_call call (calls_of lines))
    go none e = e
    go (some c) e = ap (λ p. after p c) e

-- Lines that are too long are all answered by 1 and change nothing.
pub long_line : (p : Panel) (line : List ℕ) → is_long line ≡ true → (line_reply p line ≡ text_of (oversize ∷ [])) × (line_after p line ≡ p)
unfolding line_reply line_bytes line_after line_call
long_line p line e = simp e (refl, refl)

-- A refused line is answered by its number alone, and changes nothing.
module _ (p : Panel) where
  frame_unchanged : (call : Option Call) (number : ℕ) (answer : List ℕ) → frame_reply p call ≡ number ∷ answer → (number ≡ accepted → ⊥) → (answer ≡ []) × (frame_after p call ≡ p)
  frame_unchanged none number answer e h = (sym (ap rest e), refl)
  frame_unchanged (some c) number answer e h =
      let first : (outcome p c).number ≡ number = ap head e in
      let refused : (outcome p c).number ≡ accepted → ⊥ = λ z. h (sym first ∙ z) in
      (sym (ap rest e) ∙ rw (ne_eqb (outcome p c).number accepted refused), ((demand_1 p c).unchanged refused).0)

  pub demand_1_of_lines : (line : List ℕ) → Demand1OfLines p line
  unfolding line_bytes line_after line_call
  demand_1_of_lines line = record { unchanged = go (is_long line) }
    where
      go : (long : Bool) (number : ℕ) (answer : List ℕ) → cond long (oversize ∷ []) (frame_reply p (text_call (bytes_of line))) ≡ number ∷ answer → (number ≡ accepted → ⊥)
          → (answer ≡ []) × (frame_after p (cond long none (text_call (bytes_of line))) ≡ p)
      go true number answer e h = (sym (ap rest e), refl)
      go false number answer e h = frame_unchanged (text_call (bytes_of line)) number answer e h

module _ (p : Panel) (b : Book) (s : Stands p b) where
  said_to : (q : Question) → asked_number b q ≡ accepted → SaidTo b q (answer_bytes p q)
  said_to (judge bytes) z = let (t, r, e) = (answered p b s (judge bytes)).count.accepted (same_number p b s (ask (judge bytes)) ∙ z) in (t, r, ap (λ n. n ∷ []) e)
  said_to (fetch_record k out) z = tells p b s (fetch_record k out) z
  said_to (fetch_row k out) z = tells p b s (fetch_row k out) z
  said_to (image k out) z = tells p b s (image k out) z
  said_to (build row out) z = tells p b s (build row out) z
  said_to (repair bytes out) z = tells p b s (repair bytes out) z
  said_to (yield bytes out) z = tells p b s (yield bytes out) z
  said_to (operand right bytes) z = tells p b s (operand right bytes) z
  said_to (shortest_row bytes out) z = tells p b s (shortest_row bytes out) z

  said : (c : Call) → book_number b c ≡ accepted → Said b c (answer_of p c)
  said (stage n bytes) z = refl
  said (stage_list n kinds rules) z = refl
  said switch z = refl
  said (put_row k row) z = refl
  said (put_record k bytes) z = refl
  said (put_claim k row bytes) z = refl
  said (drop k) z = refl
  said (ask q) z = said_to q z

  says_frame : (call : Option Call) → SaysFrame b call (frame_reply p call)
  says_frame none = refl
  says_frame (some c) =
      let number = (outcome p c).number in (
        number,
        if_accepted number (answer_of p c) [],
        refl,
        reply_means p b s c,
        record { accepted = λ z. rw z (said c (sym (same_number p b s c) ∙ z)); refused = λ h. rw (ne_eqb number 0 h) },
      )

  -- Where the panel stands for the book, the reply to a line is the book's.
  says : (line : List ℕ) → Says b line (line_reply p line)
  unfolding line_reply line_bytes
  says line = (line_bytes p line, go (is_long line), refl)
    where
      go : (long : Bool) → SaysLine b long line (cond long (oversize ∷ []) (frame_reply p (text_call (bytes_of line))))
      go true = refl
      go false = says_frame (text_call (bytes_of line))

pub lines_answered : (lines : List (List ℕ)) (line : List ℕ) → Says (book_after (calls_of lines)) line (line_reply (panel_after_lines lines) line)
lines_answered lines line =
    let cs = calls_of lines in
    subst (λ p. Says (book_after cs) line (line_reply p line)) (sym (panel_after_lines_lem lines)) (says (panel_after cs) (book_after cs) (stands cs) line)

-- the number of a line has its meaning
module _ (p : Panel) (b : Book) (s : Stands p b) (line : List ℕ) where
  number_means : (number : ℕ) (answer : List ℕ) → line_bytes p line ≡ number ∷ answer → MeansLine b line number
  unfolding line_bytes
  number_means number answer e = subst (MeansLine b line) (go (is_long line) e) (line_means p b s line)
    where
      go : (long : Bool) → cond long (oversize ∷ []) (frame_reply p (text_call (bytes_of line))) ≡ number ∷ answer → cond long oversize (frame_number p (text_call (bytes_of line))) ≡ number
      go true q = ap head q
      go false q = ap head q

lines_mean : (lines : List (List ℕ)) (line : List ℕ) (number : ℕ) (answer : List ℕ) → line_bytes (panel_after_lines lines) line ≡ number ∷ answer → MeansLine (book_after (calls_of lines)) line number
lines_mean lines line number answer e =
    let cs = calls_of lines in
    number_means (panel_after cs) (book_after cs) (stands cs) line number answer (ap (λ p. line_bytes p line) (sym (panel_after_lines_lem lines)) ∙ e)

each_answered : (lines : List (List ℕ)) → Each (λ before line. Says (book_after (calls_of before)) line (line_reply (panel_after_lines before) line)) lines
each_answered [] = tt
each_answered (line ∷ lines) = (lines_answered lines line, each_answered lines)

each_means : (lines : List (List ℕ))
    → Each (λ before line. (number : ℕ) (answer : List ℕ) → line_bytes (panel_after_lines before) line ≡ number ∷ answer → MeansLine (book_after (calls_of before)) line number) lines
each_means [] = tt
each_means (line ∷ lines) = (lines_mean lines line, each_means lines)

pub demand_3_of_lines : (lines : List (List ℕ)) → Demand3OfLines lines
demand_3_of_lines lines = record { demand = demand_3 (calls_of lines); answered = each_answered lines; numbers = each_means lines }
