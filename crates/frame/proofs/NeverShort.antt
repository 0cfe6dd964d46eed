-- A line never meets 10: each call of a line has room for its answer. Assumes nothing.
use Prim.Native.Nat.{ℕ, ◌<◌, ◌≤◌}
use native.Mathlib.Omega.{arith}
use mathlib.Core.Path.{◌≡◌, refl, ap, subst, sym, ◌∙◌}
use mathlib.Core.Bool.{true, cond}
use mathlib.Core.List.{List, [], ◌∷◌, ◌++◌}
use mathlib.Core.Option.{Option, none, some}
use lib.Dec.{eqb, ltb}
use lib.ListN.{length}
use borrow.Author.Tests.{le-ltb, ltb-false}
use Rattle.expression.specs.Refusal.{Check, first, accepted, short}
use Rattle.expression.specs.Limits.{most_tokens, most_record_bytes}
use Rattle.expression.specs.Token.{Operators, class}
use Rattle.expression.specs.Decode.{tree_of}
use Rattle.expression.specs.Checks.{short_check, row_tokens, row_checks, record_checks, record_number, repair_number}
use Rattle.expression.proofs.Cond.{by_cond}
use Rattle.expression.proofs.Numbers.{lacks, never, passed_first, record_numbered}
use Rattle.disambiguation.specs.Rules.{L, R}
use Rattle.disambiguation.specs.Verdict.{rule_checks}
use Rattle.disambiguation.specs.SheetChecks.{rules_in, operators_in, order_checks, sheet_number}
use Rattle.sheet.specs.Layout.{operators_of}
use Rattle.run.specs.Image.{image_bytes}
use Rattle.run.specs.Places.{place_count, held}
use Rattle.run.specs.Call.{Call, stage, switch, put_row, put_record, drop, ask, fetch_record, fetch_row, image, repair}
use Rattle.run.specs.Panel.{Panel, place_check, empty_check, in_use_check, staged_check}
use Rattle.run.specs.Steps.{ops, outcome, switch_number, put_row_number, put_record_number, drop_number, fetch_record_number, fetch_row_number, image_number}
use Rattle.run.specs.Book.{book_number}
use Rattle.run.specs.Run.{panel_after, book_after}
use Rattle.run.proofs.Slots.{holds_fit}
use Rattle.run.proofs.Stands.{same_number}
use Rattle.run.proofs.Replies.{place_passed}
use Rattle.run.proofs.Histories.{stands}
use Rattle.hexadecimal.specs.Text.{bytes_of}
use Rattle.frame.specs.Frames.{most_answer, room, named, alone, bare, call_of}
use Rattle.frame.specs.Lines.{is_long, text_call, line_call}
use Rattle.frame.specs.Runs.{calls_of}
use Rattle.frame.proofs.KindWays.{length_room}

plain_only : (cs : List Check) → lacks short cs ≡ true → first (cs ++ []) ≡ short → ⊥
plain_only cs h = never short cs [] h (λ z e. omega arith)

-- 10 comes last, and not where the answer has room.
roomy : (cs : List Check) (answer : ℕ) → lacks short cs ≡ true → (first cs ≡ accepted → answer ≤ most_answer) → first (cs ++ (short_check answer (length room) ∷ [])) ≡ short → ⊥
roomy cs answer h f = never short cs (short_check answer (length room) ∷ []) h (λ z e. fits (f z) e)
  where
    fits : answer ≤ most_answer → cond (ltb (length room) answer) short accepted ≡ short → ⊥
    fits l e = let z : ◌≡◌ {A = ℕ} 0 10 = ap (λ b. cond b 10 0) (sym (le-ltb (length room) answer (omega (arith, length_room)))) ∙ e in omega arith

-- where no held record is too long,
module _ (p : Panel) (few : (k : ℕ) → k < place_count → length (held p.places k) ≤ most_record_bytes) where
  abbrev Fits : Option Call → Type 0
  Fits none = Unit {0}
  Fits (some c) = (outcome p c).number ≡ short → ⊥

  named_fits : (call : ℕ → List ℕ → Call) (rest : List ℕ) → ((x : ℕ) (l : List ℕ) → Fits (some (call x l))) → Fits (named call rest)
  named_fits call [] h = tt
  named_fits call (x ∷ l) h = h x l

  alone_fits : (call : ℕ → Call) (rest : List ℕ) → ((x : ℕ) → Fits (some (call x))) → Fits (alone call rest)
  alone_fits call [] h = tt
  alone_fits call (x ∷ []) h = h x
  alone_fits call (x ∷ y ∷ l) h = tt

  bare_fits : (call : Call) (rest : List ℕ) → Fits (some call) → Fits (bare call rest)
  bare_fits call [] h = h
  bare_fits call (x ∷ l) h = tt

  kind_fits : (kind : ℕ) (rest : List ℕ) → Fits (call_of kind rest)
  unfolding call_of sheet_number switch_number put_row_number put_record_number drop_number fetch_record_number fetch_row_number image_number record_number repair_number
  kind_fits kind rest =
      by_cond Fits (eqb kind 1) (λ _. named_fits stage rest (λ m l. plain_only (order_checks m l ++ rule_checks (operators_in m l) (L (rules_in m l)) (R (rules_in m l))) refl)) (λ _.
      by_cond Fits (eqb kind 2) (λ _. named_fits put_row rest (λ k l. plain_only (place_check k ∷ row_checks o l) refl)) (λ _.
      by_cond Fits (eqb kind 3) (λ _. alone_fits drop rest (λ k. plain_only (place_check k ∷ empty_check (at k) ∷ []) refl)) (λ _.
      by_cond Fits (eqb kind 4) (λ _. alone_fits (λ k. ask (fetch_record k room)) rest record_fits) (λ _.
      by_cond Fits (eqb kind 5) (λ _. alone_fits (λ k. ask (fetch_row k room)) rest row_fits) (λ _.
      by_cond Fits (eqb kind 6) (λ _. named_fits put_record rest (λ k l. plain_only (place_check k ∷ record_checks o l) refl)) (λ _.
      by_cond Fits (eqb kind 7) (λ _. plain_only (record_checks o rest) refl) (λ _.
      by_cond Fits (eqb kind 8) (λ _. repair_fits) (λ _.
      by_cond Fits (eqb kind 9) (λ _. alone_fits (λ k. ask (image k room)) rest (λ k. roomy (place_check k ∷ []) image_bytes refl (λ z. omega arith))) (λ _.
      by_cond Fits (eqb kind 10) (λ _. bare_fits switch rest (plain_only (staged_check p.staged ∷ in_use_check o (operators_of p.staged) at ∷ []) refl)) (λ _. tt))))))))))
    where
      o : Operators
      o = ops p

      at : ℕ → List ℕ
      at k = held p.places k

      record_fits : (k : ℕ) → Fits (some (ask (fetch_record k room)))
      record_fits k = roomy (place_check k ∷ empty_check (at k) ∷ []) (length (at k)) refl (λ z. omega (arith, few k (place_passed k (empty_check (at k) ∷ []) z).0))

      row_fits : (k : ℕ) → Fits (some (ask (fetch_row k room)))
      row_fits k =
          let cs = place_check k ∷ empty_check (at k) ∷ record_checks o (at k) in
          let tokens = row_tokens (tree_of (class o) (at k)) in
          roomy cs tokens refl (λ z. omega (arith, ltb-false most_tokens tokens (passed_first cs (λ e. omega arith, (λ e. omega arith, record_numbered o (at k))) z).1.1.1.1.1.0))

      repair_fits : Fits (some (ask (repair rest room)))
      repair_fits =
          roomy (record_checks o rest) (length rest) refl
          (λ z. omega (arith, ltb-false most_record_bytes (length rest) (passed_first (record_checks o rest) (record_numbered o rest) z).0))

  line_fits : (line : List ℕ) → Fits (line_call line)
  unfolding line_call
  line_fits line = by_cond Fits (is_long line) (λ _. tt) (λ _. go (bytes_of line))
    where
      go : (bytes : Option (List ℕ)) → Fits (text_call bytes)
      go none = tt
      go (some []) = tt
      go (some (kind ∷ rest)) = kind_fits kind rest

-- After a run of lines no held record is too long, and so no call that a line makes has the number 10.
held_few : (cs : List Call) (k : ℕ) → k < place_count → length (held (panel_after cs).places k) ≤ most_record_bytes
held_few cs k h = holds_fit (book_after cs).operators (book_after cs).rules ((book_after cs).slots k) (held (panel_after cs).places k) ((stands cs).holds k h)

pub never_short : (lines : List (List ℕ)) (line : List ℕ) (c : Call) → line_call line ≡ some c → book_number (book_after (calls_of lines)) c ≡ short → ⊥
never_short lines line c e z =
    let cs = calls_of lines in
    subst (Fits (panel_after cs) (held_few cs)) e (line_fits (panel_after cs) (held_few cs) line) (same_number (panel_after cs) (book_after cs) (stands cs) c ∙ z)
