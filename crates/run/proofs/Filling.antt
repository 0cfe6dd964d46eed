-- A place over 15 is never filled, and a place is filled exactly if a put there was accepted and no drop since. Assumes nothing.
use Prim.Native.Nat.{ℕ, ◌≤◌, ◌<◌}
use native.Mathlib.Omega.{arith}
use native.Mathlib.Decide.{dec_lt}
use mathlib.Core.Path.{◌≡◌, refl, sym, ◌∙◌}
use mathlib.Core.Bool.{Bool, true, false, cond, true≢false}
use mathlib.Core.Logic.{◌↔◌}
use mathlib.Core.Option.{Option, none, some, none-ne-some}
use mathlib.Core.List.{List, [], ◌∷◌}
use lib.Dec.{eqb}
use lib.ListN.{length}
use borrow.Author.Tests.{le-ltb, eqb-true}
use Rattle.expression.specs.Refusal.{Check, first, accepted}
use Rattle.expression.specs.Tree.{Tree, record_of}
use Rattle.expression.specs.Checks.{short_check, record_bytes, row_checks, record_checks}
use Rattle.disambiguation.specs.Conflicts.{ConflictFreeTree}
use Rattle.claims.specs.Claims.{pair_checks_in}
use Rattle.expression.proofs.Cond.{by_cond}
use Rattle.run.specs.Places.{place_count}
use Rattle.run.specs.Call.{Call, stage, stage_list, switch, put_row, put_record, put_claim, drop, ask, fetch_record}
use Rattle.run.specs.Panel.{place_check}
use Rattle.run.specs.Steps.{ops, put_row_number, put_record_number, put_claim_number}
use Rattle.run.specs.Book.{blank_check, slot_row}
use Rattle.run.specs.Run.{panel_after, book_after, is_accepted, or_else, last_said, in_force, last_put, HoldsTree, Filled}
use Rattle.run.proofs.Slots.{not_blank}
use Rattle.run.proofs.Stands.{same_number}
use Rattle.run.proofs.Replies.{place_passed, blank_passed}
use Rattle.run.proofs.Histories.{stands, book_slot}
use Rattle.run.proofs.Placed.{slot_holds, holds_tree}

-- no put at a place over 15 is accepted
over : (k : ℕ) (checks : List Check) → place_count ≤ k → eqb (first (place_check k ∷ checks)) accepted ≡ false
over k checks h = rw (le-ltb k place_count h)

row_refused : (k : ℕ) (row : List ℕ) (cs : List Call) → place_count ≤ k → is_accepted cs (put_row k row) ≡ false
unfolding put_row_number
row_refused k row cs h = over k (row_checks (ops (panel_after cs)) row) h

record_refused : (k : ℕ) (bytes : List ℕ) (cs : List Call) → place_count ≤ k → is_accepted cs (put_record k bytes) ≡ false
unfolding put_record_number
record_refused k bytes cs h = over k (record_checks (ops (panel_after cs)) bytes) h

claim_refused : (k : ℕ) (row bytes : List ℕ) (cs : List Call) → place_count ≤ k → is_accepted cs (put_claim k row bytes) ≡ false
unfolding put_claim_number
claim_refused k row bytes cs h = over k (pair_checks_in (panel_after cs).sheet row bytes) h

-- so no call says that something was put there
nothing_said : (x y : Bool) (slot old : Option (List ℕ)) → (y ≡ true → x ≡ false) → old ≡ none → cond x (or_else (cond y (some slot) none) old) old ≡ none
nothing_said true true slot old f e = absurd (true≢false (f refl))
nothing_said true false slot old f e = e
nothing_said false y slot old f e = e

either_none : (x y : Bool) (old : Option (List ℕ)) → old ≡ none → cond x (or_else (cond y (some none) none) old) old ≡ none
either_none true true old e = refl
either_none true false old e = e
either_none false y old e = e

beyond : (k : ℕ) → place_count ≤ k → (cs : List Call) → last_put k cs ≡ none
unfolding last_put last_said
beyond k h [] = refl
beyond k h (stage n bytes ∷ cs) = by_cond (λ slot. slot ≡ none) (is_accepted cs (stage n bytes)) (λ _. beyond k h cs) (λ _. beyond k h cs)
beyond k h (stage_list n kinds rules ∷ cs) = by_cond (λ slot. slot ≡ none) (is_accepted cs (stage_list n kinds rules)) (λ _. beyond k h cs) (λ _. beyond k h cs)
beyond k h (switch ∷ cs) = by_cond (λ slot. slot ≡ none) (is_accepted cs switch) (λ _. beyond k h cs) (λ _. beyond k h cs)
beyond k h (put_row j row ∷ cs) =
    nothing_said (is_accepted cs (put_row j row)) (eqb k j) _ _ (λ e. row_refused j row cs (omega (arith, eqb-true k j e))) (beyond k h cs)
beyond k h (put_record j bytes ∷ cs) =
    nothing_said (is_accepted cs (put_record j bytes)) (eqb k j) _ _ (λ e. record_refused j bytes cs (omega (arith, eqb-true k j e))) (beyond k h cs)
beyond k h (put_claim j row bytes ∷ cs) =
    nothing_said (is_accepted cs (put_claim j row bytes)) (eqb k j) _ _ (λ e. claim_refused j row bytes cs (omega (arith, eqb-true k j e))) (beyond k h cs)
beyond k h (drop j ∷ cs) = either_none (is_accepted cs (drop j)) (eqb k j) _ (beyond k h cs)
beyond k h (ask q ∷ cs) = by_cond (λ slot. slot ≡ none) (is_accepted cs (ask q)) (λ _. beyond k h cs) (λ _. beyond k h cs)

pub put_below : (k : ℕ) (cs : List Call) (row : List ℕ) → last_put k cs ≡ some row → k < place_count
put_below k cs row q = go (dec_lt k place_count)
  where
    go : Dec (k < place_count) → k < place_count
    go (yes h) = h
    go (no h) = absurd (none-ne-some row (sym (beyond k (omega arith) cs) ∙ q))

module _ (cs : List Call) (k : ℕ) where
  -- It then holds the conflict-free tree of that row under the sheet in force.
  pub holds_last_put : (row : List ℕ) → last_put k cs ≡ some row → (t : Tree) × ConflictFreeTree (in_force cs).operators (in_force cs).rules row t × HoldsTree cs k t
  holds_last_put row q =
      let h = put_below k cs row q in
      let (t, g) = slot_holds cs k h row q in
      (t, g.tree, holds_tree cs k h row q t g)

  pub filled_exactly_if_put : Filled cs k ↔ ((row : List ℕ) × (last_put k cs ≡ some row))
  filled_exactly_if_put = (
    λ f.
        let (t, h) = f in
        let z = (h.fetches_record (record_of t) (omega arith)).0 in
        let (l, e) = place_passed k (blank_check ((book_after cs).slots k) ∷ short_check (record_bytes (slot_row (book_after cs) k)) (length (record_of t)) ∷ []) (sym (same_number (panel_after cs) (book_after cs) (stands cs) (ask (fetch_record k (record_of t)))) ∙ z) in
        let (row, q) = not_blank ((book_after cs).slots k) (blank_passed ((book_after cs).slots k) (short_check (record_bytes (slot_row (book_after cs) k)) (length (record_of t)) ∷ []) e) in
        (row, sym (book_slot k cs) ∙ q),
    λ f. let (row, q) = f in let (t, c, h) = holds_last_put row q in (t, h),
  )
