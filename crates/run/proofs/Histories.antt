-- The book after a list of calls, said of the list. Assumes nothing.
use Prim.Native.Nat.{ℕ}
use mathlib.Core.Path.{◌≡◌, refl, ap, sym, ◌∙◌}
use mathlib.Core.Bool.{Bool, true, false, cond}
use mathlib.Core.Option.{Option, none, some}
use mathlib.Core.List.{List, [], ◌∷◌}
use lib.Dec.{eqb}
use Rattle.expression.specs.Refusal.{accepted}
use Rattle.expression.specs.Token.{class}
use Rattle.expression.specs.Decode.{tree_of}
use Rattle.expression.specs.Operand.{row_of}
use Rattle.run.specs.Call.{Call, stage, stage_list, switch, put_row, put_record, put_claim, drop, ask}
use Rattle.run.specs.Book.{Sheet, sheet_by, Book, blank, ruled_by_note, entered, next}
use Rattle.run.specs.Run.{panel_after, book_after, is_accepted, or_else, last_said, says_staged, last_staged, says_in_force, in_force, says_put, last_put}
use Rattle.run.proofs.Stands.{Stands, fresh_stands, same_number}
use Rattle.run.proofs.Keeping.{keeps}

-- After every list of calls the panel stands for the book.
pub stands : (cs : List Call) → Stands (panel_after cs) (book_after cs)
unfolding panel_after book_after
stands [] = fresh_stands
stands (c ∷ cs) = keeps (panel_after cs) (book_after cs) (stands cs) c

-- the book's next page, by the number that the panel gives
after_call : (c : Call) (cs : List Call) → book_after (c ∷ cs) ≡ cond (is_accepted cs c) (entered (book_after cs) c) (book_after cs)
unfolding book_after next
after_call c cs = ap (λ x. cond (eqb x accepted) (entered (book_after cs) c) (book_after cs)) (sym (same_number (panel_after cs) (book_after cs) (stands cs) c))

-- ---- a part of the book is what the last accepted call that changes it entered there
module _ {A : Type 0} (f : Book → A) (says : List Call → Call → Option A)
    (enters : (cs : List Call) (c : Call) → f (entered (book_after cs) c) ≡ or_else (says cs c) (f (book_after cs))) where
  by_call : (x : Bool) (c : Call) (cs : List Call) → f (cond x (entered (book_after cs) c) (book_after cs)) ≡ cond x (or_else (says cs c) (f (book_after cs))) (f (book_after cs))
  by_call true c cs = enters cs c
  by_call false c cs = refl

  last_entered : (cs : List Call) → f (book_after cs) ≡ last_said says (f blank) cs
  unfolding book_after last_said
  last_entered [] = refl
  last_entered (c ∷ cs) =
      ap f (after_call c cs) ∙ by_call (is_accepted cs c) c cs ∙ ap (λ x. cond (is_accepted cs c) (or_else (says cs c) x) x) (last_entered cs)

-- The book's note is the sheet of the last accepted staging, unless a switch was accepted since.
cleared : (b : Book) (note : Option Sheet) → b.note ≡ note → (ruled_by_note b note).note ≡ none
cleared b none e = e
cleared b (some s) e = refl

note_entered : (b : Book) (c : Call) → (entered b c).note ≡ or_else (says_staged c) b.note
note_entered b (stage n bytes) = refl
note_entered b (stage_list n kinds rules) = refl
note_entered b switch = cleared b b.note refl
note_entered b (put_row k row) = refl
note_entered b (put_record k bytes) = refl
note_entered b (put_claim k row bytes) = refl
note_entered b (drop k) = refl
note_entered b (ask q) = refl

pub book_note : (cs : List Call) → (book_after cs).note ≡ last_staged cs
unfolding last_staged
book_note = last_entered (λ b. b.note) (λ before c. says_staged c) (λ cs. note_entered (book_after cs))

-- The book's sheet is the one that was noted at the last accepted switch, or the fresh panel's.
abbrev rules_on : Book → Sheet
rules_on b = sheet_by b.operators b.rules

ruled_by_note_lem : (b : Book) (note : Option Sheet) → rules_on (ruled_by_note b note) ≡ or_else note (rules_on b)
ruled_by_note_lem b none = refl
ruled_by_note_lem b (some s) = refl

sheet_entered : (b : Book) (c : Call) → rules_on (entered b c) ≡ or_else (says_in_force b.note c) (rules_on b)
sheet_entered b (stage n bytes) = refl
sheet_entered b (stage_list n kinds rules) = refl
sheet_entered b switch = ruled_by_note_lem b b.note
sheet_entered b (put_row k row) = refl
sheet_entered b (put_record k bytes) = refl
sheet_entered b (put_claim k row bytes) = refl
sheet_entered b (drop k) = refl
sheet_entered b (ask q) = refl

pub book_in_force : (cs : List Call) → sheet_by (book_after cs).operators (book_after cs).rules ≡ in_force cs
unfolding in_force
book_in_force =
    last_entered rules_on (λ before c. says_in_force (last_staged before) c)
    (λ cs c. sheet_entered (book_after cs) c ∙ ap (λ note. or_else (says_in_force note c) (rules_on (book_after cs))) (book_note cs))

-- The book's slot is that of the last accepted put, unless a drop was accepted since.
slots_stay : (b : Book) (note : Option Sheet) (k : ℕ) → (ruled_by_note b note).slots k ≡ b.slots k
slots_stay b none k = refl
slots_stay b (some s) k = refl

at_place : (x : Bool) (slot old : Option (List ℕ)) → cond x slot old ≡ or_else (cond x (some slot) none) old
at_place true slot old = refl
at_place false slot old = refl

slot_entered : (k : ℕ) (b : Book) (c : Call) → (entered b c).slots k ≡ or_else (says_put k b.operators c) (b.slots k)
slot_entered k b (stage n bytes) = refl
slot_entered k b (stage_list n kinds rules) = refl
slot_entered k b switch = slots_stay b b.note k
slot_entered k b (put_row j row) = at_place (eqb k j) (some row) (b.slots k)
slot_entered k b (put_record j bytes) = at_place (eqb k j) (some (row_of (tree_of (class b.operators) bytes))) (b.slots k)
slot_entered k b (put_claim j row bytes) = at_place (eqb k j) (some row) (b.slots k)
slot_entered k b (drop j) = at_place (eqb k j) none (b.slots k)
slot_entered k b (ask q) = refl

pub book_slot : (k : ℕ) (cs : List Call) → (book_after cs).slots k ≡ last_put k cs
unfolding last_put
book_slot k =
    last_entered (λ b. b.slots k) (λ before c. says_put k (in_force before).operators c)
    (λ cs c. slot_entered k (book_after cs) c ∙ ap (λ (s : Sheet). or_else (says_put k s.operators c) ((book_after cs).slots k)) (book_in_force cs))
