-- The book (docs/REFERENCE.md, section 9): it is fed the calls alone, and finds their numbers itself. Assumes nothing.
use Rattle.std.specs.Prelude.{ℕ, Bool, true, false, cond, List, [], ◌∷◌, eqb, length}
use Rattle.std.proofs.Math.Option.{Option, none, some}
use Rattle.expression.specs.Refusal.{Check, first, empty, nothing_staged}
use Rattle.expression.specs.Token.{Operators, operators, class}
use Rattle.expression.specs.Tree.{Tree}
use Rattle.expression.specs.Decode.{tree_of}
use Rattle.expression.specs.Operand.{row_of}
use Rattle.expression.specs.Checks.{short_check, record_bytes, row_checks, record_checks, record_number, build_number, repair_number, yield_number}
use Rattle.disambiguation.specs.Rules.{Rule}
use Rattle.disambiguation.specs.Conflicts.{ConflictFreeTree}
use Rattle.disambiguation.specs.SheetChecks.{rules_in, operators_in, sheet_number, list_number}
use Rattle.brackets.specs.Shortest.{shortest_by, shortest_number}
use Rattle.claims.specs.Claims.{pair_checks_by}
use Rattle.run.specs.Image.{image_bytes}
use Rattle.run.specs.Call.{Question, Call, stage, stage_list, switch, put_row, put_record, put_claim, drop, ask, fetch_record, fetch_row, image, build, repair, judge, yield, operand, shortest_row}
use Rattle.run.specs.Panel.{place_check, in_use_check, if_accepted}

-- a sheet as it is written down: n and the kinds, and the rules
pub record Sheet : Type 0 where
  pub operators : Operators
  pub rules : List Rule

abbrev pub sheet_by : Operators → List Rule → Sheet
sheet_by ops rules = record { operators = ops; rules = rules }

-- n and the kinds, the rules, the note beside, which may have one sheet, and the slots, each blank or with one row
pub record Book : Type 0 where
  pub operators : Operators
  pub rules : List Rule
  pub note : Option Sheet
  pub slots : ℕ → Option (List ℕ)

abbrev pub blank : Book
blank = record { operators = operators 0 []; rules = []; note = none; slots = λ k. none }

-- a slot's row; a blank slot has none
abbrev pub row_in : Option (List ℕ) → List ℕ
row_in none = []
row_in (some row) = row

-- 9: the slot is blank
abbrev pub is_blank : Option (List ℕ) → Bool
is_blank none = true
is_blank (some row) = false

abbrev pub blank_check : Option (List ℕ) → Check
blank_check slot = (is_blank slot, empty)

module _ (b : Book) where
  -- the row of a place's slot
  abbrev pub slot_row : ℕ → List ℕ
  slot_row k = row_in (b.slots k)

  -- a slot's tree: its row's conflict-free tree under the book's operators and rules
  abbrev pub SlotTree : ℕ → Tree → Type 0
  SlotTree k t = ConflictFreeTree b.operators b.rules (slot_row k) t

  -- The number of each question: the first that applies, with the sheet in force, the empty places and the held trees read off the book.
  abbrev pub asked_number : Question → ℕ
  asked_number (fetch_record k out) = first (place_check k ∷ blank_check (b.slots k) ∷ short_check (record_bytes (slot_row k)) (length out) ∷ [])
  asked_number (fetch_row k out) = first (place_check k ∷ blank_check (b.slots k) ∷ short_check (length (slot_row k)) (length out) ∷ [])
  asked_number (image k out) = first (place_check k ∷ short_check image_bytes (length out) ∷ [])
  asked_number (build row out) = build_number b.operators row (length out)
  asked_number (repair bytes out) = repair_number b.operators bytes (length out)
  asked_number (judge bytes) = record_number b.operators bytes
  asked_number (yield bytes out) = yield_number b.operators bytes (length out)
  asked_number (operand right bytes) = record_number b.operators bytes
  asked_number (shortest_row bytes out) = shortest_number b.operators bytes (shortest_by b.operators b.rules (tree_of (class b.operators) bytes)) (length out)

  -- 15: no sheet is noted; 11 by the noted one
  abbrev pub noted_number : Option Sheet → ℕ
  noted_number none = nothing_staged
  noted_number (some s) = first (in_use_check b.operators s.operators slot_row ∷ [])

  -- and of each call
  abbrev pub book_number : Call → ℕ
  book_number (stage n bytes) = sheet_number n bytes
  book_number (stage_list n kinds rules) = list_number n kinds rules
  book_number switch = noted_number b.note
  book_number (put_row k row) = first (place_check k ∷ row_checks b.operators row)
  book_number (put_record k bytes) = first (place_check k ∷ record_checks b.operators bytes)
  book_number (put_claim k row bytes) = first (place_check k ∷ pair_checks_by b.operators b.rules row bytes)
  book_number (drop k) = first (place_check k ∷ blank_check (b.slots k) ∷ [])
  book_number (ask q) = asked_number q

  -- the note is the sheet given
  abbrev pub with_note : Sheet → Book
  with_note s = record { operators = b.operators; rules = b.rules; note = some s; slots = b.slots }

  -- what is noted becomes the book's n, kinds and rules, and the note is cleared
  abbrev pub ruled_by_note : Option Sheet → Book
  ruled_by_note none = b
  ruled_by_note (some s) = record { operators = s.operators; rules = s.rules; note = none; slots = b.slots }

  -- the place's slot gets what is given
  abbrev pub with_slot : ℕ → Option (List ℕ) → Book
  with_slot k slot = record { operators = b.operators; rules = b.rules; note = b.note; slots = λ j. cond (eqb j k) slot (b.slots j) }

  -- Staging: the call's sheet is noted. Switch: the noted one is put in force and the note cleared; slots stay. Put of a row, alone or with a claimed record: the slot gets
  -- the row; of a record: its yield. Drop: the slot goes blank.
  abbrev pub entered : Call → Book
  entered (stage n bytes) = with_note (sheet_by (operators_in n bytes) (rules_in n bytes))
  entered (stage_list n kinds rules) = with_note (sheet_by (operators n kinds) rules)
  entered switch = ruled_by_note b.note
  entered (put_row k row) = with_slot k (some row)
  entered (put_record k bytes) = with_slot k (some (row_of (tree_of (class b.operators) bytes)))
  entered (put_claim k row bytes) = with_slot k (some row)
  entered (drop k) = with_slot k none
  entered (ask q) = b

  -- Only number 0 changes the book.
  unfoldable pub next : Call → Book
  next c = if_accepted (book_number c) (entered c) b
