-- What the question answers of a sheet in order, and of one that is not: in bytes, and with kinds and rules as lists. Assumes nothing.
use mathlib.Core.Path.{◌≡◌, refl, ap, sym, ◌∙◌}
use mathlib.Core.Bool.{Bool, true, false, cond}
use mathlib.Core.Logic.{◌↔◌}
use mathlib.Core.List.{List, [], ◌∷◌}
use Prim.Native.Nat.{ℕ, ◌≤◌, ◌<◌}
use native.Mathlib.Omega.{arith}
use borrow.Author.Tests.{ltb-true, ltb-false}
use lib.Dec.{ltb}
use lib.ListN.{length}
use Rattle.expression.specs.Checks.{short_check}
use Rattle.expression.specs.Lent.{output_after, length_after}
use Rattle.expression.specs.Refusal.{Check, Passed, first, accepted, short}
use Rattle.expression.specs.Limits.{most_operators, most_rules}
use Rattle.expression.specs.Token.{Operators, operators}
use Rattle.expression.proofs.Numbers.{Numbered, first_passed, passed_first, first_refused, lacks, given_after, first_short, first_roomy}
use Rattle.expression.proofs.Tests.{both_false}
use Rattle.disambiguation.specs.Rules.{Rule, L, R}
use Rattle.disambiguation.specs.SheetChecks.{rules_in, operators_in, order_checks, InOrder, list_order_checks, ListInOrder}
use Rattle.disambiguation.proofs.Shown.{witness_shown}
use Rattle.record.specs.declared.Answer.{Answer}
use Rattle.sheet.proofs.Ordered.{order_numbered, ordered}
use Rattle.witness.specs.Explaining.{most_explained, AnswersWith, answer_of, explained, Explains, explained_list, ExplainsList, ExplainedBy}
use Rattle.witness.proofs.Brief.{witness_brief}

pub answer_brief : (ops : Operators) (rules : List Rule) → length (answer_of ops rules) ≤ most_explained
answer_brief ops rules = (witness_brief ops (L rules) (R rules)).0

-- checks that are passed, and the witness of the operators and rules as the answer, with room for it
given : (order : List Check) (ops : Operators) (rules : List Rule) (out later : List ℕ) (r : Answer) → Passed order → Numbered order → ops.count ≤ most_operators
    → length (answer_of ops rules) ≤ length out → AnswersWith order (answer_of ops rules) out later r → ExplainedBy ops rules out later r
given order ops rules out later r passed numbered few room k =
    record {
      answered = (zero, k.measured ∙ ap (λ n. length_after n answer) zero, k.output ∙ ap (λ n. output_after n answer out) zero);
      short = answer_brief ops rules;
      as_long = (witness_brief ops (L rules) (R rules)).1;
      shown = witness_shown ops rules few;
    }
  where
    answer : List ℕ
    answer = answer_of ops rules

    zero : r.number ≡ accepted
    zero = k.numbered ∙ first_roomy order (length answer) (length out) (first_passed order passed) numbered room

-- 10 exactly where they are passed, and the output is shorter than the answer
short_exactly : (order : List Check) (answer out later : List ℕ) (r : Answer) → Numbered order → lacks short order ≡ true
    → AnswersWith order answer out later r → (r.number ≡ short) ↔ (Passed order × (length out < length answer))
short_exactly order answer out later r numbered no_short k = (
  λ e.
      let (passed, last) = given_after short order (short_check (length answer) (length out) ∷ []) no_short (sym k.numbered ∙ e) in
      (passed, is_short (ltb (length out) (length answer)) refl last),
  λ (passed, h). k.numbered ∙ first_short order (length answer) (length out) (first_passed order passed) numbered h,
)
  where
    is_short : (b : Bool) → ltb (length out) (length answer) ≡ b → cond b short accepted ≡ short → length out < length answer
    is_short true e _ = ltb-true (length out) (length answer) e
    is_short false e q = absurd (omega arith)

-- checks that are not passed
refused : (order : List Check) (answer out later : List ℕ) (r : Answer) → Numbered order → (Passed order → ⊥) → AnswersWith order answer out later r → r.number ≡ first order
refused order answer out later r numbered failed k =
    k.numbered ∙ first_refused order (short_check (length answer) (length out) ∷ []) (λ z. failed (passed_first order numbered z))

-- in bytes
module _ (n : ℕ) (bytes out later : List ℕ) (r : Answer) (k : Explains n bytes out later r) where
  pub explains_refused : (InOrder n bytes → ⊥) → r.number ≡ first (order_checks n bytes)
  explains_refused h = refused (order_checks n bytes) (explained n bytes) out later r (order_numbered n bytes) h k

  pub explains_short : (r.number ≡ short) ↔ (InOrder n bytes × (length out < length (answer_of (operators_in n bytes) (rules_in n bytes))))
  unfolding explained
  explains_short = short_exactly (order_checks n bytes) (answer_of (operators_in n bytes) (rules_in n bytes)) out later r (order_numbered n bytes) refl k

  pub explains_witness : InOrder n bytes → length (answer_of (operators_in n bytes) (rules_in n bytes)) ≤ length out
      → ExplainedBy (operators_in n bytes) (rules_in n bytes) out later r
  unfolding explained
  explains_witness order room =
      given (order_checks n bytes) (operators_in n bytes) (rules_in n bytes) out later r order (order_numbered n bytes) (ordered n bytes order).few room k

-- as lists
pub list_numbered : (n : ℕ) (kinds : List ℕ) (rules : List Rule) → Numbered (list_order_checks n kinds rules)
list_numbered n kinds rules = ((λ e. omega arith), ((λ e. omega arith), ((λ e. omega arith), tt)))

pub list_few : (n : ℕ) (kinds : List ℕ) (rules : List Rule) → ListInOrder n kinds rules → n ≤ most_operators
list_few n kinds rules (size, _) = ltb-false most_operators n (both_false (ltb most_operators n) (ltb most_rules (length rules)) size).0

module _ (n : ℕ) (kinds : List ℕ) (rules : List Rule) (out later : List ℕ) (r : Answer) (k : ExplainsList n kinds rules out later r) where
  pub list_explains_refused : (ListInOrder n kinds rules → ⊥) → r.number ≡ first (list_order_checks n kinds rules)
  list_explains_refused h = refused (list_order_checks n kinds rules) (explained_list n kinds rules) out later r (list_numbered n kinds rules) h k

  pub list_explains_short : (r.number ≡ short) ↔ (ListInOrder n kinds rules × (length out < length (answer_of (operators n kinds) rules)))
  unfolding explained_list
  list_explains_short = short_exactly (list_order_checks n kinds rules) (answer_of (operators n kinds) rules) out later r (list_numbered n kinds rules) refl k

  pub list_explains_witness : ListInOrder n kinds rules → length (answer_of (operators n kinds) rules) ≤ length out
      → ExplainedBy (operators n kinds) rules out later r
  unfolding explained_list
  list_explains_witness order room =
      given (list_order_checks n kinds rules) (operators n kinds) rules out later r order (list_numbered n kinds rules) (list_few n kinds rules order) room k
