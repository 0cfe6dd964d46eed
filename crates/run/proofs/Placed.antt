-- What a place holds after a list of calls: the tree of the last accepted put there. Assumes nothing.
use Prim.Native.Nat.{ℕ, ◌≤◌, ◌<◌}
use native.Mathlib.Omega.{arith}
use mathlib.Core.Path.{◌≡◌, refl, ap, sym, subst, ◌∙◌}
use mathlib.Core.Bool.{false}
use mathlib.Core.Option.{Option, some}
use mathlib.Core.List.{List, [], ◌∷◌, ◌++◌}
use lib.ListN.{length}
use lib.ListN as lists
use borrow.Author.Tests.{lt-ltb, le-ltb}
use Rattle.expression.specs.Refusal.{first, accepted}
use Rattle.expression.specs.Token.{class}
use Rattle.expression.specs.Tree.{Tree, record_of, Over}
use Rattle.expression.specs.Tree as tree
use Rattle.expression.specs.Operand.{row_of}
use Rattle.expression.specs.Decode.{tree_of}
use Rattle.expression.specs.Checks.{short_check, record_bytes, record_checks, record_number, repair_number}
use Rattle.expression.proofs.Numbers.{first_roomy, record_numbered, record_accepted}
use Rattle.disambiguation.specs.ExactlyOne.{EveryRowHasExactlyOne}
use Rattle.sheet.specs.InForce.{InForce}
use Rattle.sheet.proofs.Laws.{every_row_has_one}
use Rattle.run.specs.Image.{image_bytes, image_of}
use Rattle.run.specs.Places.{place_count, held}
use Rattle.run.proofs.Images.{length_image}
use Rattle.run.specs.Call.{Question, Call, lent_before, ask, fetch_record, fetch_row, image, repair}
use Rattle.run.specs.Panel.{place_check}
use Rattle.run.specs.Steps.{asked_outcome}
use Rattle.run.specs.Book.{Sheet, row_in, is_blank, blank_check, slot_row, book_number}
use Rattle.run.specs.Run.{panel_after, answer, book_after, last_put, AnsweredBy, HoldsTree}
use Rattle.run.specs.Promises.{Within, ops, rules}
use Rattle.run.proofs.Slots.{HeldTree, Holds, bytes_long, bytes_fit, row_back}
use Rattle.run.proofs.Stands.{same_number}
use Rattle.run.proofs.Histories.{stands, book_in_force, book_slot}

module _ (cs : List Call) where
  pub same_ops : (book_after cs).operators ≡ (ops cs)
  same_ops = ap (λ (r : Sheet). r.operators) (book_in_force cs)

  pub same_rules : (book_after cs).rules ≡ (rules cs)
  same_rules = ap (λ (r : Sheet). r.rules) (book_in_force cs)

  -- The panel's sheet is the one that the last accepted switch found staged.
  pub sheet_in_force : InForce (panel_after cs).sheet (ops cs) (rules cs)
  sheet_in_force = rw (← same_ops, ← same_rules) (stands cs).in_force_lem

  pub exactly_one : EveryRowHasExactlyOne (ops cs) (rules cs)
  exactly_one = every_row_has_one (panel_after cs).sheet (ops cs) (rules cs) sheet_in_force

  -- a tree within the lengths has a record that is accepted
  pub within_accepted : (t : Tree) → Over (class (ops cs)) t → Within t → record_number (ops cs) (record_of t) ≡ accepted
  within_accepted t over w = (record_accepted (ops cs) (record_of t)).1 (t, record { over = over; recorded = refl; bytes_fit = w.0; tokens_fit = w.1 })

  -- ---- a place with an accepted put
  pub slot_holds : (k : ℕ) → k < place_count → (row : List ℕ) → last_put k cs ≡ some row → (t : Tree) × HeldTree (ops cs) (rules cs) row (held (panel_after cs).places k) t
  slot_holds k h row q =
      rw (← same_ops, ← same_rules) (subst (λ slot. Holds (book_after cs).operators (book_after cs).rules slot (held (panel_after cs).places k)) (book_slot k cs ∙ q) ((stands cs).holds k h))

  -- an accepted question with these bytes as its answer
  pub answered_by : (q : Question) (bytes : List ℕ) → (asked_outcome (panel_after cs) q).number ≡ accepted → (asked_outcome (panel_after cs) q).answer ≡ bytes → AnsweredBy cs (ask q) (lent_before q) bytes
  answered_by q bytes z e = (z, rw z (ap length e), rw z (ap (λ x. x ++ lists.drop (length x) (lent_before q)) e))

  -- a repair of an accepted record, with room for one of its length, is accepted
  pub repair_accepted : (t : Tree) → record_number (ops cs) (record_of t) ≡ accepted → (out : List ℕ) → length (record_of t) ≤ length out → (answer cs (ask (repair (record_of t) out))).number ≡ accepted
  unfolding repair_number record_number
  repair_accepted t fits out room =
      ap (λ m. repair_number m (record_of t) (length out)) sheet_in_force.operators
      ∙ first_roomy (record_checks (ops cs) (record_of t)) (length (record_of t)) (length out) fits (record_numbered (ops cs) (record_of t)) room

  -- a list whose place is below 16 and whose slot is not blank
  fetch_number : (k : ℕ) (slot : Option (List ℕ)) (wanted room : ℕ) → k < place_count → is_blank slot ≡ false → wanted ≤ room
      → first (place_check k ∷ blank_check slot ∷ short_check wanted room ∷ []) ≡ accepted
  fetch_number k slot wanted room h e l = rw (lt-ltb k place_count h, e, le-ltb room wanted l)

  image_number_lem : (k room : ℕ) → k < place_count → image_bytes ≤ room → first (place_check k ∷ short_check image_bytes room ∷ []) ≡ accepted
  image_number_lem k room h l = rw (lt-ltb k place_count h, le-ltb room image_bytes l)

  module _ (k : ℕ) (h : k < place_count) (row : List ℕ) (q : last_put k cs ≡ some row) (t : Tree) (g : HeldTree (ops cs) (rules cs) row (held (panel_after cs).places k) t) where
    slot_is : (book_after cs).slots k ≡ some row
    slot_is = book_slot k cs ∙ q

    row_is : slot_row (book_after cs) k ≡ row
    row_is = ap row_in slot_is

    number_as : (c : Call) → book_number (book_after cs) c ≡ accepted → (answer cs c).number ≡ accepted
    number_as c e = same_number (panel_after cs) (book_after cs) (stands cs) c ∙ e

    holds_record : (out : List ℕ) → length (record_of t) ≤ length out → AnsweredBy cs (ask (fetch_record k out)) out (record_of t)
    holds_record out l =
        let z = number_as (ask (fetch_record k out))
        (fetch_number k ((book_after cs).slots k) (record_bytes (slot_row (book_after cs) k)) (length out) h (ap is_blank slot_is)
        (omega (arith, ap record_bytes row_is, bytes_long g, ap length g.recorded))) in
        answered_by (fetch_record k out) (record_of t) z g.recorded

    holds_row : (out : List ℕ) → length (tree.yield t) ≤ length out → AnsweredBy cs (ask (fetch_row k out)) out (tree.yield t)
    holds_row out l =
        let z = number_as (ask (fetch_row k out))
        (fetch_number k ((book_after cs).slots k) (length (slot_row (book_after cs) k)) (length out) h (ap is_blank slot_is)
        (omega (arith, ap length row_is, ap length g.tree.yields))) in
        answered_by (fetch_row k out) (tree.yield t) z
        (ap (λ o. row_of (tree_of (class o) (held (panel_after cs).places k))) sheet_in_force.operators ∙ row_back g ∙ sym g.tree.yields)

    holds_image : (out : List ℕ) → length (image_of (record_of t)) ≤ length out → AnsweredBy cs (ask (image k out)) out (image_of (record_of t))
    holds_image out l =
        let size : length (image_of (record_of t)) ≡ image_bytes = length_image (record_of t) (omega (arith, bytes_fit g, ap length g.recorded)) in
        let z = number_as (ask (image k out)) (image_number_lem k (length out) h (omega (arith, size))) in
        answered_by (image k out) (image_of (record_of t)) z (ap image_of g.recorded)

    pub holds_tree : HoldsTree cs k t
    holds_tree = record { fetches_record = holds_record; fetches_row = holds_row; images = holds_image }
