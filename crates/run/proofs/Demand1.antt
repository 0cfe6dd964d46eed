-- Demand 1: after a refusal the panel and the lent output are as before, for every panel value and every call. Assumes nothing.
use mathlib.Core.Path.{◌≡◌, refl}
use borrow.Author.Tests.{ne_eqb}
use Rattle.expression.specs.Refusal.{accepted}
use Rattle.disambiguation.specs.SheetChecks.{sheet_number, list_number}
use Rattle.run.specs.Call.{Call, stage, stage_list, switch, put_row, put_record, put_claim, drop, ask}
use Rattle.run.specs.Panel.{Panel}
use Rattle.run.specs.Steps.{switch_number, put_row_number, put_record_number, put_claim_number, drop_number, staged_after, after_switch, places_after_row, places_after_record, places_after_claim, places_after_drop, after, outcome}
use Rattle.run.specs.Promises.{Demand1}

module _ (p : Panel) where
  panel_unchanged : (c : Call) → ((outcome p c).number ≡ accepted → ⊥) → after p c ≡ p
  unfolding staged_after after_switch places_after_row places_after_record places_after_claim places_after_drop
  panel_unchanged (stage n bytes) h = rw (ne_eqb (sheet_number n bytes) accepted h)
  panel_unchanged (stage_list n kinds rules) h = rw (ne_eqb (list_number n kinds rules) accepted h)
  panel_unchanged switch h = rw (ne_eqb (switch_number p) accepted h)
  panel_unchanged (put_row k row) h = rw (ne_eqb (put_row_number p k row) accepted h)
  panel_unchanged (put_record k bytes) h = rw (ne_eqb (put_record_number p k bytes) accepted h)
  panel_unchanged (put_claim k row bytes) h = rw (ne_eqb (put_claim_number p k row bytes) accepted h)
  panel_unchanged (drop k) h = rw (ne_eqb (drop_number p k) accepted h)
  panel_unchanged (ask q) h = refl

  pub demand_1 : (c : Call) → Demand1 p c
  demand_1 c = record { unchanged = λ h. (panel_unchanged c h, rw (ne_eqb (outcome p c).number accepted h)) }
