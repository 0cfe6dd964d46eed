-- Which operators rows, records and trees use, and what other operators make of a tree. Assumes nothing.
use Prim.Native.Nat.{ℕ, ◌<◌}
use mathlib.Core.Path.{◌≡◌, refl, ap, ap₂, sym, ◌∙◌}
use mathlib.Core.Bool.{Bool, false, ◌||◌, or-false}
use mathlib.Core.List.{[], ◌∷◌, ◌++◌}
use lib.Dec.{eqb, ltb}
use borrow.Author.Tests.{lt-ltb, ltb-true, eqb-true, not-false}
use Rattle.expression.specs.Lists.{any_holds}
use Rattle.expression.specs.Limits.{most_operators}
use Rattle.expression.specs.Token.{Reading, closing, Operators, kind_of, class_of_kind, class}
use Rattle.expression.specs.Tree.{Tree, reading, bracket, binary, prefix, yield, record_of, Over}
use Rattle.expression.proofs.Classes.{class_operator, class_reading, infix_byte, prefix_byte, reading_byte}
use Rattle.expression.proofs.Tests.{or_middle, both_false, any_append}
use Rattle.run.specs.Panel.{is_empty, beyond, changed, uses_other}

-- an operator that a new sheet has not, or has as another kind
abbrev unfit : Operators → Operators → ℕ → Bool
unfit n m c = beyond m c || changed n m c

-- ---- no record is empty
pub record_not_empty : (t : Tree) → is_empty (record_of t) ≡ false
record_not_empty (reading a) = refl
record_not_empty (bracket t) = refl
record_not_empty (binary o l r) = refl
record_not_empty (prefix p t) = refl

-- ---- a tree's row uses the operators that its record does
pub uses_yield : (n m : Operators) (t : Tree) → uses_other n m (record_of t) ≡ uses_other n m (yield t)
unfolding uses_other
uses_yield n m (reading a) = refl
uses_yield n m (bracket t) =
    uses_yield n m t ∙ sym (any_append (unfit n m) (yield t) (closing ∷ []) ∙ or-false (any_holds (unfit n m) (yield t)))
uses_yield n m (binary o l r) =
    ap (λ x. unfit n m o || x) (any_append (unfit n m) (record_of l) (record_of r) ∙ ap₂ ◌||◌ (uses_yield n m l) (uses_yield n m r))
    ∙ or_middle (unfit n m o) (any_holds (unfit n m) (yield l)) (any_holds (unfit n m) (yield r))
    ∙ sym (any_append (unfit n m) (yield l) (o ∷ yield r))
uses_yield n m (prefix p t) = ap (λ x. unfit n m p || x) (uses_yield n m t)

-- ---- a tree over some operators that uses none beyond others, and none of another kind, is over those
operator_under : (n m : Operators) (c : ℕ) → c < most_operators → c < n.count → unfit n m c ≡ false → class m c ≡ class n c
operator_under n m c small below e =
    let (far, other) = both_false (beyond m c) (changed n m c) e in
    let here : c < m.count = ltb-true c m.count (not-false (ltb c m.count) (rw (lt-ltb c most_operators small) at far)) in
    let same : kind_of n c ≡ kind_of m c = eqb-true (kind_of n c) (kind_of m c) (not-false (eqb (kind_of n c) (kind_of m c)) (rw (lt-ltb c most_operators small) at other)) in
    class_operator m c small here ∙ ap class_of_kind (sym same) ∙ sym (class_operator n c small below)

reading_under : (n m : Operators) (c : ℕ) → class n c ≡ Reading → class m c ≡ Reading
reading_under n m c h = let (low, high) = reading_byte n c h in class_reading m c low high

pub over_under : (n m : Operators) (t : Tree) → Over (class n) t → uses_other n m (record_of t) ≡ false → Over (class m) t
unfolding uses_other
over_under n m (reading a) h e = reading_under n m a h
over_under n m (bracket t) h e = over_under n m t h e
over_under n m (binary o l r) h e =
    let (p, q) = both_false (unfit n m o) (any_holds (unfit n m) (record_of l ++ record_of r)) e in
    let (x, y) = both_false (any_holds (unfit n m) (record_of l)) (any_holds (unfit n m) (record_of r)) (sym (any_append (unfit n m) (record_of l) (record_of r)) ∙ q) in
    let (small, below) = infix_byte n o h.0 in
    (operator_under n m o small below p ∙ h.0, over_under n m l h.1 x, over_under n m r h.2 y)
over_under n m (prefix o t) h e =
    let (p, q) = both_false (unfit n m o) (any_holds (unfit n m) (record_of t)) e in
    let (small, below) = prefix_byte n o h.0 in
    (operator_under n m o small below p ∙ h.0, over_under n m t h.1 q)
