-- The number of a sheet in bytes: in order it is the verdict on its rules, and so 4, 5 and 0 exactly if. Assumes nothing.
use Prim.Native.Nat.{ℕ, ◌≤◌}
use mathlib.Core.Path.{◌≡◌}
use mathlib.Core.Logic.{◌↔◌}
use mathlib.Core.List.{List}
use lib.Dec.{ltb}
use lib.ListN.{length, drop}
use borrow.Author.Tests.{ltb-false}
use Rattle.expression.specs.Limits.{most_operators, most_rule_bytes}
use Rattle.expression.specs.Refusal.{accepted, dead, double}
use Rattle.expression.proofs.Numbers.{first_append}
use Rattle.disambiguation.specs.Rules.{L, R}
use Rattle.disambiguation.specs.ExactlyOne.{SomeRowHasNone, EveryRowHasOne, SomeRowHasTwo, EveryRowHasExactlyOne}
use Rattle.disambiguation.specs.Verdict.{rule_checks, verdict}
use Rattle.disambiguation.specs.SheetChecks.{rules_in, operators_in, order_checks, InOrder, sheet_number}
use Rattle.expression.proofs.Tests.{both_false}
use Rattle.disambiguation.proofs.VerdictDecides.{dead_exactly_if, double_exactly_if, accepted_exactly_if}

module _ (n : ℕ) (bytes : List ℕ) where
  module _ (order : InOrder n bytes) where
    pub operators_fit : n ≤ most_operators
    operators_fit = ltb-false most_operators n (both_false (ltb most_operators n) (ltb most_rule_bytes (length (drop n bytes))) order.0).0

    pub sheet_number_verdict : sheet_number n bytes ≡ verdict (operators_in n bytes) (rules_in n bytes)
    unfolding sheet_number verdict
    sheet_number_verdict = first_append (order_checks n bytes) (rule_checks (operators_in n bytes) (L (rules_in n bytes)) (R (rules_in n bytes))) order

    pub sheet_dead_exactly_if : (sheet_number n bytes ≡ dead) ↔ SomeRowHasNone (operators_in n bytes) (rules_in n bytes)
    sheet_dead_exactly_if = rw sheet_number_verdict (dead_exactly_if (operators_in n bytes) (rules_in n bytes) operators_fit)

    pub sheet_double_exactly_if : (sheet_number n bytes ≡ double) ↔ (EveryRowHasOne (operators_in n bytes) (rules_in n bytes) × SomeRowHasTwo (operators_in n bytes) (rules_in n bytes))
    sheet_double_exactly_if = rw sheet_number_verdict (double_exactly_if (operators_in n bytes) (rules_in n bytes) operators_fit)

    pub sheet_accepted_exactly_if : (sheet_number n bytes ≡ accepted) ↔ EveryRowHasExactlyOne (operators_in n bytes) (rules_in n bytes)
    sheet_accepted_exactly_if = rw sheet_number_verdict (accepted_exactly_if (operators_in n bytes) (rules_in n bytes) operators_fit)
