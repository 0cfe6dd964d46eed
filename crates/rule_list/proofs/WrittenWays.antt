-- What each way through `stage_written` gives. Assumes nothing.
use Prim.Native.Nat.{ℕ, ◌+◌, ◌-◌, ◌*◌, ◌≤◌}
use native.Mathlib.Omega.{arith}
use mathlib.Core.Path.{◌≡◌, sym, ap, subst, ◌∙◌}
use mathlib.Core.List.{List, ◌++◌}
use lib.ListN.{length, take, drop, length-take}
use borrow.Author.Rules.{rules}
use Rattle.expression.specs.Limits.{most_operators, most_rules}
use Rattle.expression.specs.Refusal.{accepted}
use Rattle.disambiguation.specs.SheetChecks.{rule_bytes}
use Rattle.disambiguation.proofs.RuleBytes.{length_rule_bytes}
use Rattle.sheet.specs.Lists.{kinds_number, PutsKinds}
use Rattle.sheet.proofs.ListLaws.{kinds_known, few_kinds, kinds_begin}
use Rattle.run.specs.Call.{stage}
use Rattle.run.specs.Panel.{panel}
use Rattle.places.specs.Store.{records_in}
use Rattle.monitor.specs.CallContracts.{Stages}
use Rattle.run.proofs.ListSheets.{list_same, list_after}
use Rattle.rule_list.specs.Records.{StagesList}
use Rattle.rule_list.proofs.Refusals.{other_kinds}

module _ {staged : List ℕ} {n : ℕ} {kinds bytes : List ℕ} {count number : ℕ} (number_is : number ≡ kinds_number n (length kinds)) where
  pub refuses_kinds : count ≤ most_rules → (number ≡ accepted → ⊥) → StagesList staged n kinds bytes count number staged
  refuses_kinds fit other =
      record {
        stages = λ list e.
            let few : length list ≤ most_rules = omega (arith, ap length e, length-take (count * 3) (drop most_operators bytes), length_rule_bytes list, fit) in
            other_kinds staged n kinds list number_is few other;
      }

  pub staged_written : {from r : ℕ} {after later : List ℕ} → number ≡ accepted → PutsKinds kinds bytes from after
      → Stages staged (stage n (take (most_operators + count * 3 - from) (drop from after))) r later → StagesList staged n kinds bytes count r later
  staged_written {from} {r} {after} {later} zero puts c =
      record {
        stages = λ list e.
            let all : List ℕ = kinds ++ rule_bytes list in
            let is = puts.holds (count * 3) ∙ ap (λ (s : List ℕ). kinds ++ s) e in
            let d : Stages staged (stage n all) r later = subst (λ (s : List ℕ). Stages staged (stage n s) r later) is c in
            record {
              changes = λ sheet store.
                  record {
                    numbered = (d.changes sheet store).numbered ∙ list_same n kinds list as_many;
                    stands = (d.changes sheet store).stands ∙ list_after n kinds list as_many (panel sheet staged (records_in store));
                    kept = (d.changes sheet store).kept;
                  };
            };
      }
    where
      as_many : length kinds ≡ n
      as_many = (kinds_known n (length kinds) (sym number_is ∙ zero)).1

pub ruleset stage_written_ways = (refuses_kinds, few_kinds, kinds_begin, staged_written, rules)
