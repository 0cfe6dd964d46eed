-- W6 holds of every list of calls from the fresh panel. Assumes nothing.
use Prim.Native.Nat.{ℕ}
use native.Mathlib.Omega.{arith}
use mathlib.Core.Path.{◌≡◌, refl, ap, sym, ◌∙◌}
use mathlib.Core.Logic.{◌↔◌}
use mathlib.Core.Option.{Option, none, some}
use mathlib.Core.List.{List, [], ◌∷◌, ◌++◌}
use Rattle.expression.specs.Refusal.{accepted, in_use, nothing_staged}
use Rattle.expression.specs.Token.{operators}
use Rattle.expression.proofs.Numbers.{never}
use Rattle.disambiguation.specs.Rules.{L, R}
use Rattle.disambiguation.specs.ExactlyOne.{EveryRowHasExactlyOne}
use Rattle.disambiguation.specs.Verdict.{rule_checks}
use Rattle.disambiguation.specs.SheetChecks.{rules_in, operators_in, order_checks, list_order_checks, sheet_number, list_number}
use Rattle.sheet.specs.InForce.{InForce}
use Rattle.sheet.proofs.Laws.{every_row_has_one}
use Rattle.run.specs.Call.{Question, Call, stage, stage_list, switch, put_row, put_record, put_claim, drop, ask, fetch_record, fetch_row, image, build, repair, judge, yield, operand, shortest_row}
use Rattle.run.specs.Panel.{Panel, in_use_check}
use Rattle.run.specs.Steps.{put_row_number, put_record_number, put_claim_number, drop_number, fetch_record_number, fetch_row_number, image_number, with_staged, asked_outcome, reply}
use Rattle.run.specs.Book.{Sheet, slot_row, noted_number}
use Rattle.run.specs.Run.{last_said, panel_after, answer, book_after, last_staged, in_force, IsStaging}
use Rattle.run.specs.Requests.{StageThenSwitch}
use Rattle.run.proofs.Stands.{same_number}
use Rattle.run.proofs.Histories.{stands, book_note}

-- ---- nothing but a switch looks at the stage
module _ (p : Panel) (staged : List ℕ) where
  same_told : (q : Question) → asked_outcome (with_staged p staged) q ≡ asked_outcome p q
  unfolding fetch_record_number fetch_row_number image_number
  same_told (fetch_record k out) = refl
  same_told (fetch_row k out) = refl
  same_told (image k out) = refl
  same_told (build row out) = refl
  same_told (repair bytes out) = refl
  same_told (judge bytes) = refl
  same_told (yield bytes out) = refl
  same_told (operand right bytes) = refl
  same_told (shortest_row bytes out) = refl

  same_reply : (c : Call) → (c ≡ switch → ⊥) → reply (with_staged p staged) c ≡ reply p c
  unfolding put_row_number put_record_number put_claim_number drop_number
  same_reply (stage n bytes) h = refl
  same_reply (stage_list n kinds rules) h = refl
  same_reply switch h = absurd (h refl)
  same_reply (put_row k row) h = refl
  same_reply (put_record k bytes) h = refl
  same_reply (put_claim k row bytes) h = refl
  same_reply (drop k) h = refl
  same_reply (ask q) h = rw (same_told q)

module _ (cs : List Call) where
  loaded : (s : Sheet) → last_staged cs ≡ some s → InForce (panel_after cs).staged s.operators s.rules
  loaded s e = (rw (book_note cs ∙ e) at (stands cs).on_stage).1

  one_tree : (s : Sheet) → last_staged cs ≡ some s → EveryRowHasExactlyOne s.operators s.rules
  one_tree s e = every_row_has_one (panel_after cs).staged s.operators s.rules (loaded s e)

  unseen : (c d : Call) → IsStaging c → (d ≡ switch → ⊥) → answer (c ∷ cs) d ≡ answer cs d
  unfolding panel_after
  unseen (stage n bytes) d is h = same_reply (panel_after cs) _ d h
  unseen (stage_list n kinds rules) d is h = same_reply (panel_after cs) _ d h
  unseen switch d is h = absurd is
  unseen (put_row k row) d is h = absurd is
  unseen (put_record k bytes) d is h = absurd is
  unseen (put_claim k row bytes) d is h = absurd is
  unseen (drop k) d is h = absurd is
  unseen (ask q) d is h = absurd is

  never_in_use : (c : Call) → IsStaging c → (answer cs c).number ≡ in_use → ⊥
  unfolding sheet_number list_number
  never_in_use (stage n bytes) is e =
      never in_use (order_checks n bytes ++ rule_checks (operators_in n bytes) (L (rules_in n bytes)) (R (rules_in n bytes))) [] refl (λ _ z. omega arith) e
  never_in_use (stage_list n kinds rules) is e =
      never in_use (list_order_checks n kinds rules ++ rule_checks (operators n kinds) (L rules) (R rules)) [] refl (λ _ z. omega arith) e
  never_in_use switch is e = is
  never_in_use (put_row k row) is e = is
  never_in_use (put_record k bytes) is e = is
  never_in_use (put_claim k row bytes) is e = is
  never_in_use (drop k) is e = is
  never_in_use (ask q) is e = is

  -- the number of a switch, by the list
  switch_number_lem : (answer cs switch).number ≡ noted_number (book_after cs) (last_staged cs)
  switch_number_lem = same_number (panel_after cs) (book_after cs) (stands cs) switch ∙ ap (noted_number (book_after cs)) (book_note cs)

  nothing : ((answer cs switch).number ≡ nothing_staged) ↔ (last_staged cs ≡ none)
  nothing = (λ z. to (last_staged cs) (sym switch_number_lem ∙ z), λ e. switch_number_lem ∙ ap (noted_number (book_after cs)) e)
    where
      to : (note : Option Sheet) → noted_number (book_after cs) note ≡ nothing_staged → note ≡ none
      to none z = refl
      to (some s) z = absurd (never nothing_staged (in_use_check (book_after cs).operators s.operators (slot_row (book_after cs)) ∷ []) [] refl (λ _ z. omega arith) z)

  -- an accepted switch found a note
  noted : (note : Option Sheet) → noted_number (book_after cs) note ≡ accepted → (s : Sheet) × (note ≡ some s)
  noted none e = absurd (omega arith)
  noted (some s) e = (s, refl)

  switched : (answer cs switch).number ≡ accepted → (s : Sheet) × (last_staged cs ≡ some s) × (in_force (switch ∷ cs) ≡ s) × (last_staged (switch ∷ cs) ≡ none)
  unfolding in_force last_staged last_said
  switched z = let (s, e) = noted (last_staged cs) (sym switch_number_lem ∙ z) in go s e
    where
      go : (s : Sheet) → last_staged cs ≡ some s → (s : Sheet) × (last_staged cs ≡ some s) × (in_force (switch ∷ cs) ≡ s) × (last_staged (switch ∷ cs) ≡ none)
      go s f = (s, f, rw (z, f) refl, rw z refl)

pub stage_then_switch : (cs : List Call) → StageThenSwitch cs
stage_then_switch cs = record { book_note = book_note cs; staged = loaded cs; one_tree = one_tree cs; unseen = unseen cs; never_in_use = never_in_use cs; nothing = nothing cs; switched = switched cs }
