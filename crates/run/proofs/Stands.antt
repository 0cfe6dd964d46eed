-- A panel value stands for a book, and then each call has the book's number. Assumes nothing.
use Prim.Native.Nat.{ℕ, zero, suc, ◌<◌}
use native.Mathlib.Omega.{arith}
use native.Mathlib.Decide.{dec_lt}
use mathlib.Core.Path.{◌≡◌, refl, ap, ap₂, sym, ◌∙◌}
use mathlib.Core.Bool.{Bool, true, false, not, ◌&&◌, cond}
use mathlib.Core.Option.{Option, none, some}
use mathlib.Core.List.{List, [], ◌∷◌, ◌++◌}
use lib.ListN.{length}
use borrow.Author.Tests.{lt-ltb, le-ltb}
use Rattle.expression.specs.Refusal.{Check, first}
use Rattle.expression.specs.Token.{Operators, class}
use Rattle.expression.specs.Decode.{tree_of}
use Rattle.expression.specs.Checks.{short_check, record_bytes, row_tokens, row_checks, record_checks, record_number, build_number, repair_number, yield_number}
use Rattle.expression.proofs.Numbers.{passed_first, first_append, record_numbered}
use Rattle.disambiguation.specs.Below.{all_below}
use Rattle.sheet.specs.Layout.{is_loaded}
use Rattle.sheet.specs.InForce.{InForce}
use Rattle.sheet.proofs.Laws.{fresh_in_force, fresh_not_loaded}
use Rattle.brackets.specs.Shortest.{shortest_number}
use Rattle.brackets.proofs.InForceShortest.{shortest_by_rules}
use Rattle.claims.specs.Claims.{claim_number, claim_number_in}
use Rattle.claims.proofs.InForceClaims.{number_by_rules}
use Rattle.run.specs.Places.{place_count, held}
use Rattle.run.specs.Places as places
use Rattle.run.proofs.Places.{held_fresh}
use Rattle.run.specs.Call.{Question, Call, stage, stage_list, switch, put_row, put_record, put_claim, drop, ask, fetch_record, fetch_row, image, build, repair, judge, yield, operand, shortest_row}
use Rattle.run.specs.Panel.{Panel, fresh, place_check, is_empty, empty_check, uses_other, in_use_check}
use Rattle.run.specs.Steps.{ops, switch_number, put_row_number, put_record_number, put_claim_number, drop_number, fetch_record_number, fetch_row_number, image_number, asked_outcome, reply}
use Rattle.run.specs.Book.{Sheet, Book, blank, row_in, is_blank, blank_check, slot_row, asked_number, noted_number, book_number}
use Rattle.run.proofs.Slots.{Holds, same_empty, same_length, same_uses, held_accepted, read_back}

-- The words of a stage, where its note in the book has a sheet or none.
abbrev pub OnStage : List ℕ → Option Sheet → Type 0
OnStage staged none = is_loaded staged ≡ false
OnStage staged (some s) = (is_loaded staged ≡ true) × InForce staged s.operators s.rules

-- The panel's sheet is the book's, its stage has the noted one, and each place holds the tree of its slot's row.
pub record Stands (p : Panel) (b : Book) : Type 0 where
  pub in_force_lem : InForce p.sheet b.operators b.rules
  pub on_stage : OnStage p.staged b.note
  pub size : length p.places ≡ place_count
  pub holds : (k : ℕ) → k < place_count → Holds b.operators b.rules (b.slots k) (held p.places k)

pub fresh_stands : Stands fresh blank
unfolding places.fresh
fresh_stands = record { in_force_lem = fresh_in_force; on_stage = fresh_not_loaded; size = refl; holds = λ k h. held_fresh k }

-- ---- lists of checks
-- where the place is over 15, 8 is the number; below, the rest tells
pub by_place : (k : ℕ) (cs ds : List Check) → (k < place_count → first cs ≡ first ds) → first (place_check k ∷ cs) ≡ first (place_check k ∷ ds)
by_place k cs ds f = go (dec_lt k place_count)
  where
    go : Dec (k < place_count) → first (place_check k ∷ cs) ≡ first (place_check k ∷ ds)
    go (yes h) = rw (lt-ltb k place_count h) (f h)
    go (no h) = rw (le-ltb k place_count (omega arith))

pub by_empty : (xs : List ℕ) (slot : Option (List ℕ)) (cs ds : List Check) → is_empty xs ≡ is_blank slot → (is_blank slot ≡ false → first cs ≡ first ds)
    → first (empty_check xs ∷ cs) ≡ first (blank_check slot ∷ ds)
by_empty xs slot cs ds e f = go (is_blank slot) refl
  where
    go : (x : Bool) → is_blank slot ≡ x → first (empty_check xs ∷ cs) ≡ first (blank_check slot ∷ ds)
    go true q = rw (e, q)
    go false q = rw (e, q) (f q)

all_agree : (m : ℕ) (p q : ℕ → Bool) → ((k : ℕ) → k < m → p k ≡ q k) → all_below m p ≡ all_below m q
unfolding all_below
all_agree zero p q f = refl
all_agree (suc m) p q f = ap₂ ◌&&◌ (all_agree m p q (λ k h. f k (omega arith))) (f m (omega arith))

-- ---- the numbers
module _ (p : Panel) (b : Book) (s : Stands p b) where
  pub same_operators : ops p ≡ b.operators
  same_operators = s.in_force_lem.operators

  -- what a slot that is not blank holds
  pub filled : (k : ℕ) → k < place_count → is_blank (b.slots k) ≡ false
      → (row : List ℕ) × (b.slots k ≡ some row) × Holds b.operators b.rules (some row) (held p.places k)
  filled k h e = go (b.slots k) refl (s.holds k h) e
    where
      go : (slot : Option (List ℕ)) → b.slots k ≡ slot → Holds b.operators b.rules slot (held p.places k) → is_blank slot ≡ false
          → (row : List ℕ) × (b.slots k ≡ some row) × Holds b.operators b.rules (some row) (held p.places k)
      go none q g f = absurd (let z : ◌≡◌ {A = ℕ} 0 1 = cc in omega arith)
      go (some row) q g f = (row, q, g)

  empty_same : (k : ℕ) → k < place_count → is_empty (held p.places k) ≡ is_blank (b.slots k)
  empty_same k h = same_empty b.operators b.rules (b.slots k) (held p.places k) (s.holds k h)

  -- 11, of operators that come
  pub in_use_same : (new : Operators) → in_use_check (ops p) new (held p.places) ≡ in_use_check b.operators new (slot_row b)
  in_use_same new =
      ap (λ old. in_use_check old new (held p.places)) same_operators
      ∙ ap (λ x. (not x, 11))
      (all_agree place_count (λ k. not (uses_other b.operators new (held p.places k))) (λ k. not (uses_other b.operators new (slot_row b k)))
      (λ k h. ap not (same_uses b.operators b.rules b.operators new (b.slots k) (held p.places k) (s.holds k h))))

  switch_same : switch_number p ≡ noted_number b b.note
  unfolding switch_number
  switch_same = go b.note s.on_stage
    where
      go : (note : Option Sheet) → OnStage p.staged note → switch_number p ≡ noted_number b note
      go none e = rw e
      go (some new) (e, f) = rw (e, f.operators) (ap (λ (c : Check). first (c ∷ [])) (in_use_same new.operators))

  fetch_record_same : (k : ℕ) (out : List ℕ) → fetch_record_number p k (length out) ≡ asked_number b (fetch_record k out)
  unfolding fetch_record_number
  fetch_record_same k out =
      by_place k (empty_check (held p.places k) ∷ short_check (length (held p.places k)) (length out) ∷ [])
      (blank_check (b.slots k) ∷ short_check (record_bytes (slot_row b k)) (length out) ∷ [])
      (λ h. by_empty (held p.places k) (b.slots k) (short_check (length (held p.places k)) (length out) ∷ []) (short_check (record_bytes (slot_row b k)) (length out) ∷ [])
      (empty_same k h)
      (λ e. ap (λ x. first (short_check x (length out) ∷ [])) (same_length b.operators b.rules (b.slots k) (held p.places k) (s.holds k h))))

  drop_same : (k : ℕ) → drop_number p k ≡ book_number b (drop k)
  unfolding drop_number
  drop_same k = by_place k (empty_check (held p.places k) ∷ []) (blank_check (b.slots k) ∷ []) (λ h. by_empty (held p.places k) (b.slots k) [] [] (empty_same k h) (λ e. refl))

  fetch_row_same : (k : ℕ) (out : List ℕ) → fetch_row_number p k (length out) ≡ asked_number b (fetch_row k out)
  unfolding fetch_row_number record_number
  fetch_row_same k out =
      by_place k (empty_check (held p.places k) ∷ here) (blank_check (b.slots k) ∷ there)
      (λ h. by_empty (held p.places k) (b.slots k) here there (empty_same k h) (λ e. rest h (filled k h e)))
    where
      here : List Check
      here = record_checks (ops p) (held p.places k) ++ (short_check (row_tokens (tree_of (class (ops p)) (held p.places k))) (length out) ∷ [])

      there : List Check
      there = short_check (length (slot_row b k)) (length out) ∷ []

      rest : k < place_count → (row : List ℕ) × (b.slots k ≡ some row) × Holds b.operators b.rules (some row) (held p.places k)
          → first (record_checks (ops p) (held p.places k) ++ (short_check (row_tokens (tree_of (class (ops p)) (held p.places k))) (length out) ∷ []))
          ≡ first (short_check (length (slot_row b k)) (length out) ∷ [])
      rest h (row, q, (t, g)) =
          ap (λ n. first (record_checks n (held p.places k) ++ (short_check (row_tokens (tree_of (class n) (held p.places k))) (length out) ∷ []))) same_operators
          ∙ first_append (record_checks b.operators (held p.places k)) (short_check (row_tokens (tree_of (class b.operators) (held p.places k))) (length out) ∷ [])
          (passed_first (record_checks b.operators (held p.places k)) (record_numbered b.operators (held p.places k)) (held_accepted g))
          ∙ ap (λ x. first (short_check x (length out) ∷ [])) (ap row_tokens (read_back g) ∙ ap length (g.tree.yields ∙ sym (ap row_in q)))

  pub same_asked : (q : Question) → (asked_outcome p q).number ≡ asked_number b q
  unfolding image_number
  same_asked (fetch_record k out) = fetch_record_same k out
  same_asked (fetch_row k out) = fetch_row_same k out
  same_asked (image k out) = refl
  same_asked (build row out) = ap (λ o. build_number o row (length out)) same_operators
  same_asked (repair bytes out) = ap (λ o. repair_number o bytes (length out)) same_operators
  same_asked (judge bytes) = ap (λ o. record_number o bytes) same_operators
  same_asked (yield bytes out) = ap (λ o. yield_number o bytes (length out)) same_operators
  same_asked (operand right bytes) = ap (λ o. record_number o bytes) same_operators
  same_asked (shortest_row bytes out) =
      ap₂ (λ o answer. shortest_number o bytes answer (length out)) same_operators (shortest_by_rules p.sheet b.operators b.rules s.in_force_lem bytes)

  pub same_number : (c : Call) → (reply p c).number ≡ book_number b c
  unfolding put_row_number put_record_number put_claim_number claim_number_in claim_number
  same_number (stage n bytes) = refl
  same_number (stage_list n kinds rules) = refl
  same_number switch = switch_same
  same_number (put_row k row) = ap (λ o. first (place_check k ∷ row_checks o row)) same_operators
  same_number (put_record k bytes) = ap (λ o. first (place_check k ∷ record_checks o bytes)) same_operators
  same_number (put_claim k row bytes) = ap (cond (place_check k).0 (place_check k).1) (number_by_rules p.sheet b.operators b.rules s.in_force_lem row bytes)
  same_number (drop k) = drop_same k
  same_number (ask q) = same_asked q
