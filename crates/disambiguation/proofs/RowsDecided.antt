-- The tests of pairs and triples hold exactly of those whose rows have no conflict-free tree, or at least two. Assumes nothing.
use Prim.Native.Nat.{ℕ, ◌<◌, ◌≤◌}
use mathlib.Core.Path.{◌≡◌, refl, sym, subst, ◌∙◌}
use mathlib.Core.Bool.{Bool, true, false, not, cond, true≢false}
use mathlib.Core.Logic.{◌↔◌}
use mathlib.Core.List.{List, [], ◌∷◌}
use Rattle.expression.specs.Limits.{most_operators}
use Rattle.expression.specs.Token.{Infix, Operators, class}
use Rattle.expression.specs.Tree.{Tree, yield, Over}
use Rattle.expression.proofs.Classes.{brackets, class_reading}
use Rattle.disambiguation.specs.Rules.{Rule, L, R}
use Rattle.disambiguation.specs.ExactlyOne.{HasNone, HasTwo}
use Rattle.disambiguation.specs.Verdict.{comes, safe, total}
use Rattle.disambiguation.specs.Witness.{first_over_pair, last_over_pair, first_over_triple, last_over_triple, both_exclude, none_excludes, uneven}
use Rattle.disambiguation.specs.Shown.{pair_row, triple_row}
use Rattle.disambiguation.proofs.Free.{is_true}
use Rattle.disambiguation.proofs.InTurn.{Triples, in_turn, same_in_turn}
use Rattle.disambiguation.proofs.Unique.{unique_in_row}
use Rattle.disambiguation.proofs.Converse.{Twins, first_over, three_over, not_safe, not_total, only_unsafe, only_untotal}
use Rattle.disambiguation.proofs.TestsDecide.{infix_below, infix_comes, total_total, is_left, both_exclude_lem, none_excludes_lem, is_uneven}
use Rattle.disambiguation.proofs.NoThird.{Same}
use Rattle.disambiguation.proofs.Witnesses.{uneven_twins}
use Rattle.disambiguation.proofs.VerdictDecides.{none_of_row, twin_trees}

-- The tests decide: of a and an infix b, exactly if their row has no conflict-free tree, or has at least two; and where no pair is in either, of a and infix b
-- and c, exactly if theirs has at least two.
pub record RowsDecided (ops : Operators) (rules : List Rule) : Type 0 where
  pub none : (a b : ℕ) → a < ops.count → class ops b ≡ Infix → (both_exclude ops (L rules) (R rules) a b ≡ true) ↔ HasNone ops rules (pair_row ops a b)
  pub two : (a b : ℕ) → a < ops.count → class ops b ≡ Infix → (none_excludes ops (L rules) (R rules) a b ≡ true) ↔ HasTwo ops rules (pair_row ops a b)
  pub two_of_three_lem : safe ops (L rules) (R rules) ≡ true → total ops (L rules) (R rules) ≡ true
      → (a b c : ℕ) → a < ops.count → class ops b ≡ Infix → class ops c ≡ Infix
      → (uneven ops (R rules) a b c ≡ true) ↔ HasTwo ops rules (triple_row ops a b c)

-- The rows written out are those of the trees.
pub pair_row_lem : (ops : Operators) (a b : ℕ) → yield (first_over_pair (not (comes ops a)) a b) ≡ pair_row ops a b
pair_row_lem ops a b = go (comes ops a)
  where
    go : (x : Bool) → yield (first_over_pair (not x) a b) ≡ cond x (0x80 ∷ a ∷ 0x81 ∷ b ∷ 0x82 ∷ []) (a ∷ 0x80 ∷ b ∷ 0x81 ∷ [])
    go true = refl
    go false = refl

pub triple_row_lem : (ops : Operators) (a b c : ℕ) → yield (first_over_triple (not (comes ops a)) a true b c) ≡ triple_row ops a b c
triple_row_lem ops a b c = go (comes ops a)
  where
    go : (x : Bool) → yield (first_over_triple (not x) a true b c) ≡ cond x (0x80 ∷ a ∷ 0x81 ∷ b ∷ 0x82 ∷ c ∷ 0x83 ∷ []) (a ∷ 0x80 ∷ b ∷ 0x81 ∷ c ∷ 0x82 ∷ [])
    go true = refl
    go false = refl

-- both ways of telling whether a closes before b give one row
pub one_triple_row : (p x : Bool) (a b c : ℕ) → yield (first_over_triple p a x b c) ≡ yield (first_over_triple p a true b c)
one_triple_row true true a b c = refl
one_triple_row true false a b c = refl
one_triple_row false true a b c = refl
one_triple_row false false a b c = refl

module _ (ops : Operators) (rules : List Rule) (small : ops.count ≤ most_operators) where
  below : (b : ℕ) → class ops b ≡ Infix → b < ops.count
  below = infix_below ops

  none_exactly : (a b : ℕ) → a < ops.count → class ops b ≡ Infix → (both_exclude ops (L rules) (R rules) a b ≡ true) ↔ HasNone ops rules (yield (first_over_pair (not (comes ops a)) a b))
  none_exactly a b ha hb = (
    λ e.
        let (_, r, l) = both_exclude_lem ops small (L rules) (R rules) a b (below b hb) e in
        (none_of_row ops rules (first_over_pair (not (comes ops a)) a b)
        (not_safe (L rules) (R rules) (class ops) (class_reading ops) a b hb (brackets ops) (not (comes ops a)) (is_left ops small a ha) r l)).1,
    λ none.
        let (r, l) = only_unsafe (L rules) (R rules) (class ops) (class_reading ops) a b hb (brackets ops) (not (comes ops a)) (is_left ops small a ha) (
          first_over (L rules) (R rules) (class ops) (class_reading ops) a b hb (not (comes ops a)) (is_left ops small a ha),
          λ t ht q c. none t (record { over = ht; yields = q; free = c }),
        ) in
        rw (r, infix_comes ops b hb, l),
  )

  two_exactly : (a b : ℕ) → a < ops.count → class ops b ≡ Infix → (none_excludes ops (L rules) (R rules) a b ≡ true) ↔ HasTwo ops rules (yield (first_over_pair (not (comes ops a)) a b))
  two_exactly a b ha hb = (
    λ e.
        let (_, r, l) = none_excludes_lem ops small (L rules) (R rules) a b (below b hb) e in
        let w = not_total (L rules) (R rules) (class ops) (class_reading ops) a b hb (not (comes ops a)) (is_left ops small a ha) r l in
        let (_, ht, hu) = twin_trees ops rules (first_over_pair (not (comes ops a)) a b) (last_over_pair (not (comes ops a)) a b) w in
        (first_over_pair (not (comes ops a)) a b, last_over_pair (not (comes ops a)) a b, ht, hu, w.different),
    λ (t, u, ht, hu, n).
        let (r, l) = only_untotal (L rules) (R rules) (class ops) (class_reading ops) a b hb (brackets ops) (not (comes ops a)) (is_left ops small a ha)
        t u ht.over hu.over ht.yields hu.yields ht.free hu.free n in
        rw (r, infix_comes ops b hb, l),
  )

  -- ---- three operators
  two_on : (t u : Tree) (row : List ℕ) → yield t ≡ row → Twins (L rules) (R rules) (class ops) t u → HasTwo ops rules row
  two_on t u row e w =
      let (_, ht, hu) = twin_trees ops rules t u w in
      (t, u, record { over = ht.over; yields = e; free = ht.free }, record { over = hu.over; yields = hu.yields ∙ e; free = hu.free }, w.different)

  module _ (a b c : ℕ) (ha : a < ops.count) (hb : class ops b ≡ Infix) (hc : class ops c ≡ Infix) where
    three_two : safe ops (L rules) (R rules) ≡ true → uneven ops (R rules) a b c ≡ true → HasTwo ops rules (yield (first_over_triple (not (comes ops a)) a true b c))
    three_two s e =
        let (i, k, u) = is_uneven ops small (L rules) (R rules) a b (below b hb) c (below c hc) e in
        two_on (first_over_triple (not (comes ops a)) a (R rules a b) b c) (last_over_triple (not (comes ops a)) a (R rules a b) b c) (yield (first_over_triple (not (comes ops a)) a true b c))
        (one_triple_row (not (comes ops a)) (R rules a b) a b c) (uneven_twins ops (L rules) (R rules) small s a b c ha i k u)

    -- where the test fails, a closes before c as b does, or does not
    level_there : uneven ops (R rules) a b c ≡ false → R rules a b ≡ true → R rules b c ≡ true → R rules a c ≡ false → ⊥
    level_there e ab bc ac = true≢false (sym holds ∙ e)
      where
        holds : uneven ops (R rules) a b c ≡ true
        holds = rw (infix_comes ops b hb, ab, bc, infix_comes ops c hc, ac)

    colevel_there : uneven ops (R rules) a b c ≡ false → R rules a b ≡ false → R rules b c ≡ false → R rules a c ≡ true → ⊥
    colevel_there e ab bc ac = true≢false (sym holds ∙ e)
      where
        holds : uneven ops (R rules) a b c ≡ true
        holds = rw (infix_comes ops b hb, ab, bc, infix_comes ops c hc, ac)

    triple_over : Over (class ops) (first_over_triple (not (comes ops a)) a true b c)
    triple_over = three_over (L rules) (R rules) (class ops) (class_reading ops) a b c hb hc (not (comes ops a)) (is_left ops small a ha)

    -- the operators of the row are these three
    these : (p : Bool) → Triples (Same a b c) (in_turn (first_over_triple p a true b c))
    these true = ((((refl, refl, refl), tt), (tt, tt)), ((tt, tt), (tt, tt)))
    these false = ((((refl, refl, refl), tt), (tt, tt)), ((tt, tt), (tt, tt)))

    two_three : total ops (L rules) (R rules) ≡ true → HasTwo ops rules (yield (first_over_triple (not (comes ops a)) a true b c)) → uneven ops (R rules) a b c ≡ true
    two_three t (v, u, hv, hu, differ) = is_true (uneven ops (R rules) a b c) (λ even. differ (one even))
      where
        first : Tree
        first = first_over_triple (not (comes ops a)) a true b c

        good : Triples (Same a b c) (in_turn v)
        good =
            subst (λ os. Triples (Same a b c) os) (same_in_turn (class ops) (brackets ops) first v triple_over hv.over (sym hv.yields))
            (these (not (comes ops a)))

        one : uneven ops (R rules) a b c ≡ false → v ≡ u
        one even =
            unique_in_row (L rules) (R rules) (class ops) (total_total ops (L rules) (R rules) t) (Same a b c)
            (λ p q o (ep, eq, eo) _ _ _ pq qo po. level_there even (rw (ep, eq) at pq) (rw (eq, eo) at qo) (rw (ep, eo) at po))
            (λ p q o (ep, eq, eo) _ _ _ pq qo po. colevel_there even (rw (ep, eq) at pq) (rw (eq, eo) at qo) (rw (ep, eo) at po))
            (brackets ops) v u hv.over hu.over good hv.free hu.free (hv.yields ∙ sym hu.yields)

pub rows_decided : (ops : Operators) (rules : List Rule) → ops.count ≤ most_operators → RowsDecided ops rules
rows_decided ops rules small =
    record {
      none = λ a b ha hb. subst (λ row. (both_exclude ops (L rules) (R rules) a b ≡ true) ↔ HasNone ops rules row) (pair_row_lem ops a b) (none_exactly ops rules small a b ha hb);
      two = λ a b ha hb. subst (λ row. (none_excludes ops (L rules) (R rules) a b ≡ true) ↔ HasTwo ops rules row) (pair_row_lem ops a b) (two_exactly ops rules small a b ha hb);
      two_of_three_lem = λ s t a b c ha hb hc.
          subst (λ row. (uneven ops (R rules) a b c ≡ true) ↔ HasTwo ops rules row) (triple_row_lem ops a b c)
          (three_two ops rules small a b c ha hb hc s, two_three ops rules small a b c ha hb hc t);
    }
