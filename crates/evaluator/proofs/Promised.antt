-- W2 holds of every list of calls from the fresh panel: an evaluation works out the tree of the row last put at the place. Assumes nothing.
use Prim.Native.Nat.{ℕ, ◌≤◌, ◌<◌}
use native.Mathlib.Decide.{dec_lt}
use native.Mathlib.Omega.{arith}
use mathlib.Core.Path.{◌≡◌, refl, ap, sym, subst, ◌∙◌}
use mathlib.Core.Option.{Option, none, some, some-injective}
use mathlib.Core.List.{List, [], ◌∷◌, ◌++◌}
use lib.IntN.{ℤ, pos}
use lib.ListN.{length}
use borrow.Author.Tests.{ne_eqb}
use Rattle.expression.specs.Limits.{most_tokens}
use Rattle.expression.specs.Refusal.{Check, first, accepted, place, empty}
use Rattle.expression.specs.Token.{class}
use Rattle.expression.specs.Tree.{Tree}
use Rattle.expression.specs.Decode.{tree_of}
use Rattle.expression.specs.Checks.{row_tokens, record_checks, record_number}
use Rattle.expression.proofs.Numbers.{Numbered, first_passed, passed_first, first_refused, first_enough, record_numbered}
use Rattle.expression.proofs.RowsAndTrees.{row_exactly_if_yielded}
use Rattle.sheet.specs.Layout.{operators_of}
use Rattle.record.proofs.Trees.{record_positive}
use Rattle.record.proofs.Accepted.{accepted_tree}
use Rattle.run.specs.Promises.{ops, rules}
use Rattle.run.specs.Places.{place_count, held}
use Rattle.run.specs.Call.{Call, fetch_row}
use Rattle.run.specs.Panel.{Panel, place_check, empty_check, if_accepted}
use Rattle.run.specs.Steps.{fetch_row_number, asked_outcome}
use Rattle.run.specs.Run.{panel_after, book_after, last_put}
use Rattle.run.proofs.Slots.{HeldTree, Holds, read_back, held_accepted}
use Rattle.run.proofs.Histories.{stands, book_slot}
use Rattle.run.proofs.Placed.{sheet_in_force, exactly_one, slot_holds}
use Rattle.run.proofs.Filling.{put_below}
use Rattle.evaluator.specs.Value.{value, tree_checks}
use Rattle.evaluator.specs.Evaluation.{evaluated, evaluation_of_tree, checks_in, value_in, evaluation_of_record, evaluation}
use Rattle.evaluator.specs.Promises.{answer, TreeOfLastPut, Evaluates, RefusedAsFetched}
use Rattle.evaluator.specs.declared.Evaluation.{Evaluation}
use Rattle.evaluator.proofs.Evaluating.{refused, by_tree, over, none_held, held_valued}

module _ (cs : List Call) (k : ℕ) (meanings : List ℕ) (readings : List ℤ) where
  abbrev bytes : List ℕ
  bytes = held (panel_after cs).places k

  no_place : place_count ≤ k → answer cs k meanings readings ≡ evaluated place (pos 0)
  no_place h = sym ((over meanings readings (panel_after cs).sheet (panel_after cs).places k refl h refl).answers (panel_after cs).staged)

  nothing_held : k < place_count → last_put k cs ≡ none → answer cs k meanings readings ≡ evaluated empty (pos 0)
  nothing_held h q =
      let e : bytes ≡ [] = subst (λ slot. Holds (book_after cs).operators (book_after cs).rules slot bytes) (book_slot k cs ∙ q) ((stands cs).holds k h) in
      sym ((none_held meanings readings (panel_after cs).sheet (panel_after cs).places k refl h (ap length e) refl).answers (panel_after cs).staged)

  -- ---- a place that holds the tree of a row
  module _ (row : List ℕ) (q : last_put k cs ≡ some row) (t : Tree) (g : HeldTree (ops cs) (rules cs) row bytes t) where
    of_record : evaluation_of_record meanings readings (ops cs) bytes ≡ evaluation_of_tree meanings readings t
    unfolding evaluation_of_record
    of_record =
        let (u, a) = accepted_tree (ops cs) bytes (held_accepted g) in
        let same : u ≡ t = some-injective u t (sym a.read ∙ read_back g) in
        ap (λ n. evaluated n (value_in meanings readings (tree_of (class (ops cs)) bytes))) (by_tree meanings readings (ops cs) bytes u a ∙ ap (λ u. first (tree_checks meanings readings u)) same)
        ∙ ap (λ x. evaluated (first (tree_checks meanings readings t)) (value_in meanings readings x)) (read_back g)

    of_held : answer cs k meanings readings ≡ evaluation_of_tree meanings readings t
    of_held =
        sym ((held_valued meanings readings (panel_after cs).sheet (panel_after cs).places k refl (put_below k cs row q)
        (λ z. omega (arith, ap length g.recorded, record_positive t)) refl).answers (panel_after cs).staged)
        ∙ ap (λ o. evaluation_of_record meanings readings o bytes) (sheet_in_force cs).operators ∙ of_record

  of_tree : (t : Tree) → TreeOfLastPut cs k t → answer cs k meanings readings ≡ evaluation_of_tree meanings readings t
  of_tree t l =
      let (u, g) = slot_holds cs k (put_below k cs l.row l.put) l.row l.put in
      let (v, _, only) = exactly_one cs l.row ((row_exactly_if_yielded (ops cs) l.row).1 (t, l.tree.over, l.tree.yields)) in
      of_held l.row l.put u g ∙ ap (evaluation_of_tree meanings readings) (only u g.tree ∙ sym (only t l.tree))

  -- an accepted answer is that of a tree
  gives_value : (answer cs k meanings readings).number ≡ accepted → (t : Tree) × TreeOfLastPut cs k t × ((answer cs k meanings readings).value ≡ value meanings readings t)
  gives_value z = by_place (dec_lt k place_count)
    where
      clash : (number : ℕ) → answer cs k meanings readings ≡ evaluated number (pos 0) → (number ≡ accepted → ⊥) → ⊥
      clash number e h = h (sym (ap (λ (r : Evaluation). r.number) e) ∙ z)

      by_slot : k < place_count → (slot : Option (List ℕ)) → last_put k cs ≡ slot
          → (t : Tree) × TreeOfLastPut cs k t × ((answer cs k meanings readings).value ≡ value meanings readings t)
      by_slot h none q = absurd (clash empty (nothing_held h q) (λ e. omega arith))
      by_slot h (some row) q =
          let (t, g) = slot_holds cs k h row q in
          let e = of_held row q t g in
          let n : first (tree_checks meanings readings t) ≡ accepted = sym (ap (λ (r : Evaluation). r.number) e) ∙ z in
          (t, record { row = row; put = q; tree = g.tree }, ap (λ (r : Evaluation). r.value) e ∙ ap (λ m. if_accepted m (value meanings readings t) (pos 0)) n)

      by_place : Dec (k < place_count) → (t : Tree) × TreeOfLastPut cs k t × ((answer cs k meanings readings).value ≡ value meanings readings t)
      by_place (yes h) = by_slot h (last_put k cs) refl
      by_place (no h) = absurd (clash place (no_place (omega arith)) (λ e. omega arith))

pub evaluates : (cs : List Call) (k : ℕ) (meanings : List ℕ) (readings : List ℤ) → Evaluates cs k meanings readings
evaluates cs k meanings readings =
    record {
      no_place = no_place cs k meanings readings;
      nothing_held = nothing_held cs k meanings readings;
      of_tree = of_tree cs k meanings readings;
      gives_value = gives_value cs k meanings readings;
    }

-- ---- what a fetch of the row refuses
module _ (p : Panel) (k : ℕ) (meanings : List ℕ) (readings : List ℤ) where
  -- the checks that both make
  abbrev shared : List Check
  shared = place_check k ∷ empty_check (held p.places k) ∷ record_checks (operators_of p.sheet) (held p.places k)

  shared_numbered : Numbered shared
  shared_numbered = ((λ e. omega arith), ((λ e. omega arith), record_numbered (operators_of p.sheet) (held p.places k)))

  record_passed : first shared ≡ accepted → record_number (operators_of p.sheet) (held p.places k) ≡ accepted
  unfolding record_number
  record_passed z = first_passed (record_checks (operators_of p.sheet) (held p.places k)) (passed_first shared shared_numbered z).1.1

  module _ (out : List ℕ) (room : most_tokens ≤ length out) where
    fetch_number : (asked_outcome p (fetch_row k out)).number ≡ first shared
    unfolding fetch_row_number
    fetch_number =
        first_enough shared (row_tokens (tree_of (class (operators_of p.sheet)) (held p.places k))) (length out) shared_numbered
        (λ z. let (t, a) = accepted_tree (operators_of p.sheet) (held p.places k) (record_passed z) in omega (arith, ap row_tokens a.read, a.row_fits))

    same_number : ((asked_outcome p (fetch_row k out)).number ≡ accepted → ⊥) → evaluation meanings readings p k ≡ evaluated (asked_outcome p (fetch_row k out)).number (pos 0)
    unfolding evaluation
    same_number h =
        sym (refused (asked_outcome p (fetch_row k out)).number (first (shared ++ checks_in meanings readings (tree_of (class (operators_of p.sheet)) (held p.places k))))
        (value_in meanings readings (tree_of (class (operators_of p.sheet)) (held p.places k)))
        (first_refused shared (checks_in meanings readings (tree_of (class (operators_of p.sheet)) (held p.places k))) (λ z. h (fetch_number ∙ z)) ∙ sym fetch_number) h
        (rw (ne_eqb (asked_outcome p (fetch_row k out)).number accepted h)))

pub refused_as_fetched : (p : Panel) (k : ℕ) (meanings : List ℕ) (readings : List ℤ) → RefusedAsFetched p k meanings readings
refused_as_fetched p k meanings readings = record { same_number = same_number p k meanings readings }
