-- Rules as a list of records and as their bytes: read back they are the same rules, and the sheet's number is the same. Assumes nothing.
use Prim.Native.Nat.{ℕ, ◌*◌, ◌%◌}
use native.Mathlib.Omega.{arith}
use mathlib.Core.Path.{◌≡◌, refl, ap, sym, ◌∙◌, subst}
use mathlib.Core.Bool.{Bool, true, false, not}
use mathlib.Core.Logic.{◌↔◌}
use mathlib.Core.List.{List, [], ◌∷◌, ◌++◌}
use lib.Dec.{ltb, eqb}
use lib.ListN.{length, length-append, take, drop}
use lib.Seq.{take-append_seam, drop-append_seam}
use borrow.Author.Tests.{ltb-true, ltb-false, lt-ltb, le-ltb, eq-eqb}
use Rattle.expression.specs.Limits.{most_rules, most_rule_bytes, bytes_of_rule}
use Rattle.expression.specs.Refusal.{Check, Passed, first}
use Rattle.expression.specs.Token.{operators}
use Rattle.disambiguation.specs.Rules.{Rule, L, R}
use Rattle.disambiguation.specs.Verdict.{rule_checks}
use Rattle.disambiguation.specs.SheetChecks.{rules_of, rule_bytes, kinds_in, rules_in, operators_in, order_checks, InOrder, sheet_number, list_order_checks, ListInOrder, list_number}

-- The bytes of rules list these rules.
pub rules_back : (rules : List Rule) → rules_of (rule_bytes rules) ≡ rules
unfolding rule_bytes
rules_back [] = refl
rules_back (r ∷ rs) = ap (λ (l : List Rule). r ∷ l) (rules_back rs)

-- Three bytes a rule.
pub length_rule_bytes : (rules : List Rule) → length (rule_bytes rules) ≡ length rules * 3
unfolding rule_bytes
length_rule_bytes [] = refl
length_rule_bytes (r ∷ rs) = omega (arith, length_rule_bytes rs)

module _ (rules : List Rule) where
  -- 1: a list is over its most exactly if its bytes are over theirs
  pub list_oversize : ltb most_rules (length rules) ≡ ltb most_rule_bytes (length (rule_bytes rules))
  list_oversize = go (ltb most_rules (length rules)) refl
    where
      go : (b : Bool) → ltb most_rules (length rules) ≡ b → ltb most_rules (length rules) ≡ ltb most_rule_bytes (length (rule_bytes rules))
      go true e = e ∙ sym (lt-ltb most_rule_bytes (length (rule_bytes rules)) (omega (arith, length_rule_bytes rules, ltb-true most_rules (length rules) e)))
      go false e = e ∙ sym (le-ltb most_rule_bytes (length (rule_bytes rules)) (omega (arith, length_rule_bytes rules, ltb-false most_rules (length rules) e)))

  -- 2: no rule is torn
  pub list_whole : not (eqb (length (rule_bytes rules) % bytes_of_rule) 0) ≡ false
  list_whole = ap not (eq-eqb (length (rule_bytes rules) % bytes_of_rule) 0 (omega (arith, length_rule_bytes rules)))

-- With n kinds before them.
module _ (n : ℕ) (kinds : List ℕ) (rules : List Rule) (as_many : length kinds ≡ n) where
  pub kinds_back : kinds_in n (kinds ++ rule_bytes rules) ≡ kinds
  kinds_back = ap (λ m. take m (kinds ++ rule_bytes rules)) (sym as_many) ∙ take-append_seam kinds (rule_bytes rules)

  pub after_kinds : drop n (kinds ++ rule_bytes rules) ≡ rule_bytes rules
  after_kinds = ap (λ m. drop m (kinds ++ rule_bytes rules)) (sym as_many) ∙ drop-append_seam kinds (rule_bytes rules)

  pub rules_in_lem : rules_in n (kinds ++ rule_bytes rules) ≡ rules
  rules_in_lem = ap rules_of after_kinds ∙ rules_back rules

  -- The checks of a sheet with lists are those of their bytes.
  pub list_checks : list_order_checks n kinds rules ≡ order_checks n (kinds ++ rule_bytes rules)
  list_checks =
      rw (
        after_kinds,
        kinds_back,
        rules_back rules,
        sym (list_oversize rules),
        list_whole rules,
        eq-eqb (length kinds) n as_many,
        le-ltb (length (kinds ++ rule_bytes rules)) n (omega (arith, length-append kinds (rule_bytes rules), as_many)),
      )

  -- So the number is the same.
  pub list_number_lem : list_number n kinds rules ≡ sheet_number n (kinds ++ rule_bytes rules)
  unfolding list_number sheet_number
  list_number_lem =
      ap (λ (cs : List Check). first (cs ++ rule_checks (operators n kinds) (L rules) (R rules))) list_checks
      ∙ ap (λ (ks : List ℕ). first (order_checks n (kinds ++ rule_bytes rules) ++ rule_checks (operators n ks) (L rules) (R rules))) (sym kinds_back)
      ∙ ap (λ (rs : List Rule). first (order_checks n (kinds ++ rule_bytes rules) ++ rule_checks (operators_in n (kinds ++ rule_bytes rules)) (L rs) (R rs))) (sym rules_in_lem)

  -- 1, 2 and 3 don't apply to the bytes exactly if they don't apply to the lists.
  pub list_order : ListInOrder n kinds rules ↔ InOrder n (kinds ++ rule_bytes rules)
  list_order = (λ h. subst (λ (cs : List Check). Passed cs) list_checks h, λ h. subst (λ (cs : List Check). Passed cs) (sym list_checks) h)
