-- Runs of calls from the fresh panel, and demand 3's words for them. A list of calls has the last one first. Assumes nothing.
use Rattle.std.specs.Prelude.{ℕ, ◌≤◌, ◌≡◌, Bool, cond, List, [], ◌∷◌, ◌++◌, eqb, length}
use Rattle.std.proofs.Math.Option.{Option, none, some}
use Rattle.std.proofs.Math.ListN as lists
use Rattle.expression.specs.Refusal.{accepted}
use Rattle.expression.specs.Token.{Operators, operators, class}
use Rattle.expression.specs.Tree.{Tree, record_of}
use Rattle.expression.specs.Tree as tree
use Rattle.expression.specs.Decode.{tree_of}
use Rattle.expression.specs.Operand.{row_of}
use Rattle.disambiguation.specs.SheetChecks.{rules_in, operators_in}
use Rattle.run.specs.Image.{image_of}
use Rattle.run.specs.Call.{Call, stage, stage_list, switch, put_row, put_record, put_claim, drop, ask, fetch_record, fetch_row, image, repair, Reply}
use Rattle.run.specs.Panel.{Panel, fresh}
use Rattle.run.specs.Steps.{after, reply}
use Rattle.run.specs.Book.{Sheet, sheet_by, Book, blank, next}

-- each call gets the panel that the one before it left
unfoldable pub panel_after : List Call → Panel
panel_after [] = fresh
panel_after (c ∷ cs) = after (panel_after cs) c

-- what a call answers after the calls of a list
abbrev pub answer : List Call → Call → Reply
answer cs c = reply (panel_after cs) c

-- the book is fed the calls alone
unfoldable pub book_after : List Call → Book
book_after [] = blank
book_after (c ∷ cs) = next (book_after cs) c

-- accepted means number 0
abbrev pub is_accepted : List Call → Call → Bool
is_accepted cs c = eqb (answer cs c).number accepted

-- what is said, or else the other
abbrev pub or_else : {A : Type 0} → Option A → A → A
or_else none other = other
or_else (some x) other = x

-- What the last accepted call that says something of a matter said of it; where there is none, what holds at first. `says cs c` is what c says of it after the calls cs,
-- and none where it says nothing.
unfoldable pub last_said : {A : Type 0} → (List Call → Call → Option A) → A → List Call → A
last_said says first [] = first
last_said says first (c ∷ cs) = cond (is_accepted cs c) (or_else (says cs c) (last_said says first cs)) (last_said says first cs)

-- Of the stage: a staging says that its sheet is staged, a switch that nothing is.
abbrev pub says_staged : Call → Option (Option Sheet)
says_staged (stage n bytes) = some (some (sheet_by (operators_in n bytes) (rules_in n bytes)))
says_staged (stage_list n kinds rules) = some (some (sheet_by (operators n kinds) rules))
says_staged switch = some none
says_staged (put_row k row) = none
says_staged (put_record k bytes) = none
says_staged (put_claim k row bytes) = none
says_staged (drop k) = none
says_staged (ask q) = none

-- what is staged: the sheet of the last accepted staging, unless a switch was accepted since
unfoldable pub last_staged : List Call → Option Sheet
last_staged cs = last_said (λ before c. says_staged c) none cs

-- Of the sheet in force: a switch says that what was staged then, which is never nothing, is in force.
abbrev pub says_in_force : Option Sheet → Call → Option Sheet
says_in_force staged switch = staged
says_in_force staged (stage n bytes) = none
says_in_force staged (stage_list n kinds rules) = none
says_in_force staged (put_row k row) = none
says_in_force staged (put_record k bytes) = none
says_in_force staged (put_claim k row bytes) = none
says_in_force staged (drop k) = none
says_in_force staged (ask q) = none

-- the sheet in force: what was staged at the last accepted switch, or the fresh panel's
unfoldable pub in_force : List Call → Sheet
in_force cs = last_said (λ before c. says_in_force (last_staged before) c) (sheet_by (operators 0 []) []) cs

-- Of the place k: a put there says that its row, or its record's row under the operators in force, was put, a drop there that nothing is.
abbrev pub says_put : ℕ → Operators → Call → Option (Option (List ℕ))
says_put k ops (put_row j row) = cond (eqb k j) (some (some row)) none
says_put k ops (put_record j bytes) = cond (eqb k j) (some (some (row_of (tree_of (class ops) bytes)))) none
says_put k ops (put_claim j row bytes) = cond (eqb k j) (some (some row)) none
says_put k ops (drop j) = cond (eqb k j) (some none) none
says_put k ops (stage n bytes) = none
says_put k ops (stage_list n kinds rules) = none
says_put k ops switch = none
says_put k ops (ask q) = none

-- the row, or the record's row, of the last accepted put at the place k; none where there was no such put, or a drop there was accepted since
unfoldable pub last_put : ℕ → List Call → Option (List ℕ)
last_put k cs = last_said (λ before c. says_put k (in_force before).operators c) none cs

-- the statement holds of each element of a list, with those before it: they follow it in the list
abbrev pub Each : {A : Type 0} → (List A → A → Type 0) → List A → Type 0
Each P [] = Unit {0}
Each P (c ∷ cs) = P cs c × Each P cs

-- a staging in either form
abbrev pub IsStaging : Call → Type 0
IsStaging (stage n bytes) = Unit {0}
IsStaging (stage_list n kinds rules) = Unit {0}
IsStaging switch = ⊥
IsStaging (put_row k row) = ⊥
IsStaging (put_record k bytes) = ⊥
IsStaging (put_claim k row bytes) = ⊥
IsStaging (drop k) = ⊥
IsStaging (ask q) = ⊥

module _ (cs : List Call) where
  -- the call is accepted, its answer is as long as the bytes, and its output is the bytes, then what stood there before
  abbrev pub AnsweredBy : Call → List ℕ → List ℕ → Type 0
  AnsweredBy c out bytes = ((answer cs c).number ≡ accepted) × ((answer cs c).length ≡ length bytes) × ((answer cs c).output ≡ bytes ++ lists.drop (length bytes) out)

  -- A place holds a tree: any fetch or image with room enough, called there next, would be accepted and answer from that tree.
  pub record HoldsTree (k : ℕ) (t : Tree) : Type 0 where
    pub fetches_record : (out : List ℕ) → length (record_of t) ≤ length out → AnsweredBy (ask (fetch_record k out)) out (record_of t)
    pub fetches_row : (out : List ℕ) → length (tree.yield t) ≤ length out → AnsweredBy (ask (fetch_row k out)) out (tree.yield t)
    pub images : (out : List ℕ) → length (image_of (record_of t)) ≤ length out → AnsweredBy (ask (image k out)) out (image_of (record_of t))

  -- and so is filled
  abbrev pub Filled : ℕ → Type 0
  Filled k = (t : Tree) × HoldsTree k t

  -- A tree repairs to bytes: a repair of its record with room for one of its length is accepted, and every accepted one, whatever the room, answers the bytes and leaves the rest.
  pub record RepairsTo (t : Tree) (bytes : List ℕ) : Type 0 where
    pub accepts : (out : List ℕ) → length (record_of t) ≤ length out → (answer cs (ask (repair (record_of t) out))).number ≡ accepted
    pub answers : (out : List ℕ) → (answer cs (ask (repair (record_of t) out))).number ≡ accepted → AnsweredBy (ask (repair (record_of t) out)) out bytes
