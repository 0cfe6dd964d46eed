-- Each call leaves a panel value that stands for the book after the call. Assumes nothing.
use Prim.Native.Nat.{ℕ, ◌<◌}
use native.Mathlib.Omega.{arith}
use native.Mathlib.Decide.{ℕ_discrete}
use mathlib.Core.Path.{◌≡◌, refl, ap, sym, ◌∙◌}
use mathlib.Core.Bool.{Bool, true, false, not, cond}
use mathlib.Core.Option.{Option, none, some}
use mathlib.Core.List.{List, [], ◌∷◌}
use lib.Dec.{eqb}
use borrow.Author.Tests.{eq-eqb, ne_eqb, not-true, not-false}
use Rattle.expression.specs.Refusal.{Check, first, accepted}
use Rattle.expression.specs.Token.{operators, class}
use Rattle.expression.specs.Decode.{tree_of}
use Rattle.expression.specs.Operand.{row_of}
use Rattle.expression.specs.Checks.{row_checks, record_checks, row_number, record_number}
use Rattle.disambiguation.specs.Rules.{Rule}
use Rattle.disambiguation.specs.Below.{all_below}
use Rattle.disambiguation.specs.SheetChecks.{kinds_in, rules_in}
use Rattle.disambiguation.proofs.BelowLaws.{all_below_at}
use Rattle.sheet.specs.Relation.{closes_in}
use Rattle.sheet.specs.Loading.{sheet_of}
use Rattle.sheet.specs.InForce.{InForce}
use Rattle.sheet.proofs.Laws.{fresh_not_loaded, loaded_made, made_in_force}
use Rattle.parser.specs.Build.{built}
use Rattle.claims.specs.Claims.{pair_checks_by, claim_number}
use Rattle.run.specs.Places.{place_count, held, stored}
use Rattle.run.proofs.Places.{held_stored_same, held_stored_other, length_stored}
use Rattle.run.specs.Call.{Call, stage, stage_list, switch, put_row, put_record, put_claim, drop, ask}
use Rattle.run.specs.Panel.{Panel, panel, none_staged, uses_other, in_use_check, if_accepted, rebuilt, rebuilt_to}
use Rattle.run.specs.Steps.{ops, switch_number, staged_after, after_switch, places_after_row, places_after_record, places_after_claim, places_after_drop, with_staged, with_places, after, outcome}
use Rattle.run.specs.Book.{Sheet, sheet_by, Book, blank_check, noted_number, book_number, with_note, ruled_by_note, with_slot, entered, next}
use Rattle.run.proofs.Slots.{Holds, put_row_holds, put_record_holds, put_claim_holds}
use Rattle.run.proofs.Rebuilding.{rebuilt_size, rebuilt_holds}
use Rattle.run.proofs.ListSheets.{list_in_force}
use Rattle.run.proofs.Stands.{OnStage, Stands, same_operators, in_use_same, same_number}
use Rattle.run.proofs.Replies.{place_passed}

module _ (p : Panel) (b : Book) (s : Stands p b) where
  -- a place that gets bytes stands for a slot that gets what they hold
  stored_stands : (k : ℕ) → k < place_count → (slot : Option (List ℕ)) (bytes : List ℕ) → Holds b.operators b.rules slot bytes
      → Stands (with_places p (stored p.places k bytes)) (with_slot b k slot)
  stored_stands k h slot bytes g =
      record {
        in_force_lem = s.in_force_lem;
        on_stage = s.on_stage;
        size = length_stored p.places k bytes ∙ s.size;
        holds = λ j l. go j l (ℕ_discrete j k);
      }
    where
      go : (j : ℕ) → j < place_count → Dec (j ≡ k) → Holds b.operators b.rules (cond (eqb j k) slot (b.slots j)) (held (stored p.places k bytes) j)
      go j l (yes e) = rw (eq-eqb j k e, e, held_stored_same p.places k bytes (omega (arith, s.size))) g
      go j l (no e) = rw (ne_eqb j k e, held_stored_other p.places k bytes j (λ q. e (sym q))) (s.holds j l)

  -- where the number is 0, and where it is not
  module _ (c : Call) where
    next_accepted : book_number b c ≡ accepted → next b c ≡ entered b c
    unfolding next
    next_accepted e = rw e

    next_refused : (book_number b c ≡ accepted → ⊥) → next b c ≡ b
    unfolding next
    next_refused h = rw (ne_eqb (book_number b c) 0 h)

  by_number : (c : Call) → (book_number b c ≡ accepted → Stands (after p c) (entered b c)) → ((book_number b c ≡ accepted → ⊥) → after p c ≡ p) → Stands (after p c) (next b c)
  by_number c f g = go (ℕ_discrete (book_number b c) 0)
    where
      go : Dec (book_number b c ≡ 0) → Stands (after p c) (next b c)
      go (yes e) = rw (next_accepted c e) (f e)
      go (no h) = rw (next_refused c h, g h) s

  -- a call that stores bytes at a place where its number is 0, and whose entry is what they hold, in the slot of that place
  store_stands : (c : Call) (k : ℕ) (slot : Option (List ℕ)) (bytes : List ℕ) → after p c ≡ with_places p (if_accepted (outcome p c).number (stored p.places k bytes) p.places)
      → entered b c ≡ with_slot b k slot → (book_number b c ≡ accepted → (k < place_count) × Holds b.operators b.rules slot bytes) → Stands (after p c) (next b c)
  store_stands c k slot bytes becomes page f =
      by_number c
      (λ e. let (h, g) = f e in rw (becomes, page, same_number p b s c ∙ e) (stored_stands k h slot bytes g))
      (λ h. becomes ∙ rw (ne_eqb (outcome p c).number 0 (λ z. h (sym (same_number p b s c) ∙ z))))

  row_stands : (k : ℕ) (row : List ℕ) → Stands (after p (put_row k row)) (next b (put_row k row))
  unfolding places_after_row row_number
  row_stands k row =
      store_stands (put_row k row) k (some row) (built (ops p) (closes_in p.sheet) row) refl refl
      (λ e. let (h, f) = place_passed k (row_checks b.operators row) e in (h, put_row_holds p.sheet b.operators b.rules s.in_force_lem row f))

  record_stands : (k : ℕ) (bytes : List ℕ) → Stands (after p (put_record k bytes)) (next b (put_record k bytes))
  unfolding places_after_record record_number
  record_stands k bytes =
      store_stands (put_record k bytes) k (some (row_of (tree_of (class b.operators) bytes))) (rebuilt p.sheet bytes) refl refl
      (λ e. let (h, f) = place_passed k (record_checks b.operators bytes) e in (h, put_record_holds p.sheet b.operators b.rules s.in_force_lem bytes f))

  claim_stands : (k : ℕ) (row bytes : List ℕ) → Stands (after p (put_claim k row bytes)) (next b (put_claim k row bytes))
  unfolding places_after_claim claim_number
  claim_stands k row bytes =
      store_stands (put_claim k row bytes) k (some row) bytes refl refl
      (λ e.
      let (h, f) = place_passed k (pair_checks_by b.operators b.rules row bytes) e in
      (h, put_claim_holds b.operators b.rules row bytes f))

  drop_stands : (k : ℕ) → Stands (after p (drop k)) (next b (drop k))
  unfolding places_after_drop
  drop_stands k = store_stands (drop k) k none [] refl refl (λ e. let (h, f) = place_passed k (blank_check (b.slots k) ∷ []) e in (h, refl))

  -- ---- staging
  -- a stage that gets the sheet of operators and rules stands for a note of them
  staged_stands : (c : Call) (n : ℕ) (kinds : List ℕ) (rules : List Rule) → after p c ≡ with_staged p (staged_after p (book_number b c) n kinds rules)
      → entered b c ≡ with_note b (sheet_by (operators n kinds) rules) → (book_number b c ≡ accepted → InForce (sheet_of n kinds rules) (operators n kinds) rules) → Stands (after p c) (next b c)
  unfolding staged_after
  staged_stands c n kinds rules becomes page made =
      by_number c
      (λ e. rw (becomes, page, e)
      (record { in_force_lem = s.in_force_lem; on_stage = (loaded_made n (made e).few kinds rules, made e); size = s.size; holds = s.holds }))
      (λ h. becomes ∙ rw (ne_eqb (book_number b c) 0 h))

  -- ---- switch
  -- the noted sheet has every operator that a held tree uses, as that kind: it is in force, and its trees are held
  module _ (new : Sheet) (loaded : InForce p.staged new.operators new.rules) where
    abbrev unfit : ℕ → Bool
    unfit k = uses_other (ops p) new.operators (held p.places k)

    switched_stands : (in_use_check (ops p) new.operators (held p.places)).0 ≡ false
        → Stands (panel p.staged none_staged (rebuilt_to p.staged place_count p.places)) (ruled_by_note b (some new))
    switched_stands e =
        record {
          in_force_lem = loaded;
          on_stage = fresh_not_loaded;
          size = rebuilt_size b.slots b.operators b.rules p.places s.size s.holds p.staged new.operators new.rules loaded under;
          holds = rebuilt_holds b.slots b.operators b.rules p.places s.size s.holds p.staged new.operators new.rules loaded under;
        }
      where
        all : all_below place_count (λ k. not (unfit k)) ≡ true
        all = not-false (all_below place_count (λ k. not (unfit k))) e

        under : (k : ℕ) → k < place_count → uses_other b.operators new.operators (held p.places k) ≡ false
        under k h =
            ap (λ old. uses_other old new.operators (held p.places k)) (sym (same_operators p b s))
            ∙ not-true (unfit k) (all_below_at place_count (λ k. not (unfit k)) all k h)

  switch_stands : Stands (after p switch) (next b switch)
  unfolding after_switch
  switch_stands =
      by_number switch (λ e. rw (same_number p b s switch ∙ e) (go b.note s.on_stage e)) (λ h. rw (ne_eqb (switch_number p) 0 (λ z. h (sym (same_number p b s switch) ∙ z))))
    where
      go : (note : Option Sheet) → OnStage p.staged note → noted_number b note ≡ accepted
          → Stands (panel p.staged none_staged (rebuilt_to p.staged place_count p.places)) (ruled_by_note b note)
      go none g e = absurd (omega arith)
      go (some new) (_, loaded) e = switched_stands new loaded (unused (in_use_check (ops p) new.operators (held p.places)).0 (ap (λ (c : Check). first (c ∷ [])) (in_use_same p b s new.operators) ∙ e))
        where
          unused : (x : Bool) → cond x 11 0 ≡ accepted → x ≡ false
          unused true f = absurd (omega arith)
          unused false f = refl

  pub keeps : (c : Call) → Stands (after p c) (next b c)
  keeps (stage n bytes) = staged_stands (stage n bytes) n (kinds_in n bytes) (rules_in n bytes) refl refl (made_in_force n bytes)
  keeps (stage_list n kinds rules) = staged_stands (stage_list n kinds rules) n kinds rules refl refl (list_in_force n kinds rules)
  keeps switch = switch_stands
  keeps (put_row k row) = row_stands k row
  keeps (put_record k bytes) = record_stands k bytes
  keeps (put_claim k row bytes) = claim_stands k row bytes
  keeps (drop k) = drop_stands k
  keeps (ask q) = by_number (ask q) (λ _. s) (λ _. refl)
