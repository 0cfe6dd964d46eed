-- What callers learn from the number that the checks of n and of the kinds give, and of the buffer that the kinds were put into. Assumes nothing.
use Prim.Native.Nat.{ℕ, ◌+◌, ◌≤◌}
use native.Mathlib.Omega.{arith}
use mathlib.Core.Path.{◌≡◌, sym, ap, ◌∙◌}
use mathlib.Core.Bool.{◌||◌, or-false}
use mathlib.Core.List.{List, ◌∷◌, ◌++◌}
use borrow.Author.Tests.{le-ltb, ltb-false, eqb-true, not-false}
use lib.Dec.{eqb, ltb}
use lib.ListN.{length}
use Rattle.expression.specs.Lists.{any_holds}
use Rattle.expression.specs.Limits.{most_operators, most_rules}
use Rattle.expression.specs.Refusal.{Check, first, accepted, stranger}
use Rattle.expression.proofs.Numbers.{passed_first, first_refused}
use Rattle.disambiguation.specs.Rules.{Rule}
use Rattle.disambiguation.specs.SheetChecks.{strange_kind, strange_rule, list_order_checks}
use Rattle.sheet.specs.Lists.{kind_checks, kinds_number, PutsKinds}

-- ---- the number
-- Where it is 0 there are n kinds, and n is within its most.
pub kinds_known : (n kinds : ℕ) → kinds_number n kinds ≡ accepted → (n ≤ most_operators) × (kinds ≡ n)
unfolding kinds_number
kinds_known n kinds e =
    let (few, (as_many, _)) = passed_first (kind_checks n kinds) ((λ z. omega arith), ((λ z. omega arith), tt)) e in
    (ltb-false most_operators n few, eqb-true kinds n (not-false (eqb kinds n) as_many))

pub few_kinds : {number : ℕ} (n kinds : ℕ) → number ≡ kinds_number n kinds → number ≡ accepted → kinds ≤ most_operators
few_kinds n kinds number_is zero = let (few, as_many) = kinds_known n kinds (sym number_is ∙ zero) in omega arith

-- Where it is not, and the rules are within their most, it is the number of the two lists, whatever is checked after their order.
pub kinds_refused : (n : ℕ) (kinds : List ℕ) (rules : List Rule) (more : List Check) → length rules ≤ most_rules → (kinds_number n (length kinds) ≡ accepted → ⊥)
    → first (list_order_checks n kinds rules ++ more) ≡ kinds_number n (length kinds)
unfolding kinds_number
kinds_refused n kinds rules more few refused = ap first checks ∙ first_refused (kind_checks n (length kinds)) (strangers ∷ more) refused
  where
    strangers : Check
    strangers = (any_holds strange_kind kinds || any_holds (strange_rule n) rules, stranger)

    checks : list_order_checks n kinds rules ++ more ≡ kind_checks n (length kinds) ++ (strangers ∷ more)
    checks = rw (le-ltb most_rules (length rules) few, or-false (ltb most_operators n))

-- ---- the buffer
-- The kinds begin before any end of the rules' bytes.
pub kinds_begin : {from : ℕ} (kinds before after : List ℕ) (count : ℕ) → PutsKinds kinds before from after → from ≤ most_operators + count
kinds_begin kinds before after count puts = omega (arith, puts.begins)
