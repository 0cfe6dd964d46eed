-- A sheet whose kinds and rules come as lists, by the sheet of their bytes: the same number and the same stage, where there are as many kinds as operators. Assumes nothing.
use Prim.Native.Nat.{ℕ}
use native.Mathlib.Omega.{arith}
use mathlib.Core.Path.{◌≡◌, ap, ap₂, sym, subst, ◌∙◌}
use mathlib.Core.List.{List, ◌++◌}
use lib.Dec.{eqb}
use lib.ListN.{length}
use borrow.Author.Tests.{eqb-true, not-false}
use Rattle.expression.specs.Refusal.{accepted}
use Rattle.expression.specs.Token.{operators}
use Rattle.expression.proofs.Numbers.{Numbered, passed_first}
use Rattle.disambiguation.specs.Rules.{Rule, L, R}
use Rattle.disambiguation.specs.Verdict.{rule_checks}
use Rattle.disambiguation.specs.SheetChecks.{rule_bytes, kinds_in, rules_in, list_order_checks, ListInOrder, sheet_number, list_number}
use Rattle.disambiguation.proofs.RuleBytes.{kinds_back, rules_in_lem, list_number_lem}
use Rattle.sheet.specs.Loading.{sheet_of}
use Rattle.sheet.specs.InForce.{InForce}
use Rattle.sheet.proofs.Laws.{made_in_force}
use Rattle.run.specs.Call.{stage, stage_list}
use Rattle.run.specs.Panel.{Panel}
use Rattle.run.specs.Steps.{staged_after, with_staged, after}

-- in order, there are as many kinds as operators
pub as_many_in_order : (n : ℕ) (kinds : List ℕ) (rules : List Rule) → ListInOrder n kinds rules → length kinds ≡ n
as_many_in_order n kinds rules h = eqb-true (length kinds) n (not-false (eqb (length kinds) n) h.1.0)

module _ (n : ℕ) (kinds : List ℕ) (rules : List Rule) (as_many : length kinds ≡ n) where
  abbrev pub bytes_of : List ℕ
  bytes_of = kinds ++ rule_bytes rules

  pub list_same : sheet_number n bytes_of ≡ list_number n kinds rules
  list_same = sym (list_number_lem n kinds rules as_many)

  pub list_after : (p : Panel) → after p (stage n bytes_of) ≡ after p (stage_list n kinds rules)
  list_after p =
      ap (λ m. with_staged p (staged_after p m n (kinds_in n bytes_of) (rules_in n bytes_of))) list_same
      ∙ ap₂ (λ (ks : List ℕ) (rs : List Rule). with_staged p (staged_after p (list_number n kinds rules) n ks rs)) (kinds_back n kinds rules as_many) (rules_in_lem n kinds rules as_many)

  in_force_of : list_number n kinds rules ≡ accepted → InForce (sheet_of n kinds rules) (operators n kinds) rules
  in_force_of z =
      subst (λ (rs : List Rule). InForce (sheet_of n kinds rs) (operators n kinds) rs) (rules_in_lem n kinds rules as_many)
      (subst (λ (ks : List ℕ). InForce (sheet_of n ks (rules_in n bytes_of)) (operators n ks) (rules_in n bytes_of)) (kinds_back n kinds rules as_many)
      (made_in_force n bytes_of (list_same ∙ z)))

-- The sheet of lists that are accepted is that of their operators and rules.
pub list_in_force : (n : ℕ) (kinds : List ℕ) (rules : List Rule) → list_number n kinds rules ≡ accepted → InForce (sheet_of n kinds rules) (operators n kinds) rules
unfolding list_number
list_in_force n kinds rules z =
    let passed = passed_first (list_order_checks n kinds rules ++ rule_checks (operators n kinds) (L rules) (R rules)) numbered z in
    in_force_of n kinds rules (eqb-true (length kinds) n (not-false (eqb (length kinds) n) passed.1.0)) z
  where
    numbered : Numbered (list_order_checks n kinds rules ++ rule_checks (operators n kinds) (L rules) (R rules))
    numbered = (λ e. omega arith, (λ e. omega arith, (λ e. omega arith, (λ e. omega arith, (λ e. omega arith, tt)))))
