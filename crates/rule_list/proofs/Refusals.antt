-- The staging of lists that is refused for their lengths: its number, and a stage as before. Assumes nothing.
use Prim.Native.Nat.{ℕ, ◌<◌, ◌≤◌}
use native.Mathlib.Omega.{arith}
use mathlib.Core.Path.{◌≡◌, refl, sym, ◌∙◌}
use mathlib.Core.Bool.{or-true}
use mathlib.Core.List.{List}
use lib.Dec.{ltb}
use lib.ListN.{length}
use borrow.Author.Tests.{lt-ltb, ne_eqb}
use Rattle.expression.specs.Limits.{most_operators, most_rules}
use Rattle.expression.specs.Refusal.{Check, accepted, oversize}
use Rattle.expression.specs.Token.{operators}
use Rattle.disambiguation.specs.Rules.{Rule, L, R}
use Rattle.disambiguation.specs.Verdict.{rule_checks}
use Rattle.disambiguation.specs.SheetChecks.{list_number}
use Rattle.sheet.specs.Lists.{kinds_number}
use Rattle.sheet.proofs.ListLaws.{kinds_refused}
use Rattle.run.specs.Call.{stage_list}
use Rattle.monitor.specs.CallContracts.{Stages}
use Rattle.run.specs.Steps.{staged_after}

module _ (staged : List ℕ) (n : ℕ) (kinds : List ℕ) (rules : List Rule) where
  -- a number but 0 leaves the stage
  refused : (number : ℕ) → list_number n kinds rules ≡ number → (number ≡ accepted → ⊥) → Stages staged (stage_list n kinds rules) number staged
  unfolding staged_after
  refused number e h =
      record {
        changes = λ sheet store. record { numbered = sym e; stands = rw (ne_eqb (list_number n kinds rules) accepted (λ z. h (sym e ∙ z))); kept = λ _. refl };
      }

  pub over_rules : most_rules < length rules → Stages staged (stage_list n kinds rules) oversize staged
  unfolding list_number
  over_rules many = refused oversize (rw (lt-ltb most_rules (length rules) many, or-true (ltb most_operators n))) (λ e. omega arith)

  pub other_kinds : {number : ℕ} → number ≡ kinds_number n (length kinds) → length rules ≤ most_rules → (number ≡ accepted → ⊥)
      → Stages staged (stage_list n kinds rules) number staged
  unfolding list_number
  other_kinds {number} number_is fit h = refused number (kinds_refused n kinds rules rest fit (λ z. h (number_is ∙ z)) ∙ sym number_is) h
    where
      rest : List Check
      rest = rule_checks (operators n kinds) (L rules) (R rules)
