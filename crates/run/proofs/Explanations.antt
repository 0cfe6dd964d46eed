-- Why a sheet is refused: what is promised holds after every list of calls. Assumes nothing.
use mathlib.Core.Path.{◌≡◌, sym, ◌∙◌}
use mathlib.Core.List.{List}
use Prim.Native.Nat.{ℕ}
use Rattle.expression.specs.Refusal.{first}
use Rattle.expression.specs.Token.{operators}
use Rattle.expression.proofs.Numbers.{passed_first, first_append, first_refused}
use Rattle.disambiguation.specs.Rules.{Rule, L, R}
use Rattle.disambiguation.specs.Verdict.{rule_checks, verdict}
use Rattle.disambiguation.specs.SheetChecks.{rules_in, operators_in, order_checks, InOrder, sheet_number, list_order_checks, ListInOrder, list_number}
use Rattle.disambiguation.proofs.FirstRow.{first_row}
use Rattle.sheet.proofs.Ordered.{order_numbered, ordered}
use Rattle.witness.proofs.Promised.{answer_brief, explains_refused, explains_short, explains_witness}
use Rattle.witness.proofs.Promised.{list_numbered, list_few, list_explains_refused, list_explains_short, list_explains_witness}
use Rattle.run.specs.Call.{Call}
use Rattle.run.specs.Requests.{Explanations}

-- the number of a sheet that is not in order, and of one that is
module _ (n : ℕ) (bytes : List ℕ) where
  by_order : (InOrder n bytes → ⊥) → sheet_number n bytes ≡ first (order_checks n bytes)
  unfolding sheet_number
  by_order h = first_refused (order_checks n bytes) (rule_checks (operators_in n bytes) (L (rules_in n bytes)) (R (rules_in n bytes))) (λ z. h (passed_first (order_checks n bytes) (order_numbered n bytes) z))

  by_verdict : InOrder n bytes → sheet_number n bytes ≡ verdict (operators_in n bytes) (rules_in n bytes)
  unfolding sheet_number verdict
  by_verdict h = first_append (order_checks n bytes) (rule_checks (operators_in n bytes) (L (rules_in n bytes)) (R (rules_in n bytes))) h

module _ (n : ℕ) (kinds : List ℕ) (rules : List Rule) where
  list_by_order : (ListInOrder n kinds rules → ⊥) → list_number n kinds rules ≡ first (list_order_checks n kinds rules)
  unfolding list_number
  list_by_order h =
      first_refused (list_order_checks n kinds rules) (rule_checks (operators n kinds) (L rules) (R rules)) (λ z. h (passed_first (list_order_checks n kinds rules) (list_numbered n kinds rules) z))

  list_by_verdict : ListInOrder n kinds rules → list_number n kinds rules ≡ verdict (operators n kinds) rules
  unfolding list_number verdict
  list_by_verdict h = first_append (list_order_checks n kinds rules) (rule_checks (operators n kinds) (L rules) (R rules)) h

pub explanations : (cs : List Call) → Explanations cs
explanations cs =
    record {
      refused_alike = λ m bytes out later r k h. explains_refused m bytes out later r k h ∙ sym (by_order m bytes h);
      refused_alike_list = λ m kinds given out later r k h. list_explains_refused m kinds given out later r k h ∙ sym (list_by_order m kinds given h);
      explained = explains_witness;
      explained_list = list_explains_witness;
      most_bytes = answer_brief;
      too_short = explains_short;
      too_short_list = list_explains_short;
      first_row = λ m bytes h. first_row (operators_in m bytes) (rules_in m bytes) (ordered m bytes h).few;
      first_row_list = λ m kinds given h. first_row (operators m kinds) given (list_few m kinds given h);
      as_staged = by_verdict;
      as_staged_list = list_by_verdict;
    }
