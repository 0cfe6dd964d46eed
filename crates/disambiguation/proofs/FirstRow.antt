-- The witness of a sheet's rules has the first row that shows a fault. Assumes nothing.
use Prim.Native.Nat.{ℕ, ◌<◌, ◌≤◌}
use native.Mathlib.Omega.{arith}
use native.Mathlib.Decide.{dec_lt}
use mathlib.Core.Path.{◌≡◌, refl, sym, ap, ◌∙◌}
use mathlib.Core.Bool.{Bool, true, false, not, cond, true≢false}
use mathlib.Core.Logic.{◌↔◌, inl, inr}
use mathlib.Core.List.{List}
use lib.Dec.{ltb}
use borrow.Author.Tests.{lt-ltb}
use Rattle.expression.specs.Limits.{most_operators}
use Rattle.expression.specs.Token.{Infix, Operators, class}
use Rattle.disambiguation.specs.Rules.{Rule, L, R}
use Rattle.disambiguation.specs.Below.{first_below, some_below}
use Rattle.disambiguation.specs.Verdict.{comes}
use Rattle.disambiguation.specs.Witness.{sound, first_over_triple, last_over_triple, first_left, first_right, shown_by, none_of, two_of}
use Rattle.disambiguation.specs.Witness.{both_exclude, none_excludes, uneven, uneven_pair, first_third, two_of_three, of_triples, witness, witness_of}
use Rattle.disambiguation.specs.Shown.{PairBefore, TripleBefore, OfNoPair, OfNoTriple, FirstPair, FirstTriple, NoneOfPair, TwoOfPair, TwoOfTriple}
use Rattle.disambiguation.specs.Shown.{FirstRow, none_of_pair, two_of_pair, two_of_triple, no_fault}
use Rattle.disambiguation.proofs.FirstBelow.{first_is, first_below_lem, first_holds}
use Rattle.disambiguation.proofs.TestsDecide.{infix_below, both_exclude_lem, none_excludes_lem, is_uneven}
use Rattle.disambiguation.proofs.Witnesses.{safe_is, total_is}
use Rattle.disambiguation.proofs.RowsDecided.{RowsDecided, rows_decided, one_triple_row, pair_row_lem, triple_row_lem}

-- a number below n of which the test holds is not before the first, so there is one
module _ (n : ℕ) (p : ℕ → Bool) where
  not_before : (c : ℕ) → p c ≡ true → c < first_below n p → ⊥
  not_before c e h = true≢false (sym e ∙ (first_is n p).before c h)

  some_below_lem : (c : ℕ) → c < n → p c ≡ true → some_below n p ≡ true
  some_below_lem c h e = go (dec_lt c (first_below n p))
    where
      go : Dec (c < first_below n p) → some_below n p ≡ true
      go (yes l) = absurd (not_before c e l)
      go (no l) = lt-ltb (first_below n p) n (omega (arith, l))

module _ (ops : Operators) where
  abbrev n : ℕ
  n = ops.count

  -- A test of pairs that holds of infix second operators alone, and there decides a statement.
  module _ (test : ℕ → ℕ → Bool) where
    abbrev left : ℕ
    left = first_left ops test

    abbrev right : ℕ
    right = first_right ops test left

    abbrev some_of : Bool
    some_of = ltb left n

    has_right : some_of ≡ true → some_below n (test left) ≡ true
    has_right some = first_holds n (λ a. some_below n (test a)) some

    module _ (P : ℕ → ℕ → Type 0) (decides : (a b : ℕ) → a < n → class ops b ≡ Infix → (test a b ≡ true) ↔ P a b) where
      first_pair : ((a b : ℕ) → b < n → test a b ≡ true → class ops b ≡ Infix) → some_of ≡ true → FirstPair ops P left right
      first_pair is some =
          record {
            below = below;
            second_infix = i;
            holds = (decides left right below i).0 e;
            none_before = λ x y hx hy (before, p). earlier x y hx hy before ((decides x y hx hy).1 p);
          }
        where
          below : left < n
          below = first_below_lem n (λ a. some_below n (test a)) some

          e : test left right ≡ true
          e = first_holds n (test left) (has_right some)

          i : class ops right ≡ Infix
          i = is left right (first_below_lem n (test left) (has_right some)) e

          earlier : (x y : ℕ) → x < n → class ops y ≡ Infix → PairBefore x y left right → test x y ≡ true → ⊥
          earlier x y hx hy (inl l) h = not_before n (λ a. some_below n (test a)) x (some_below_lem n (test x) y (infix_below ops y hy) h) l
          earlier x y hx hy (inr (q, l)) h = not_before n (test left) y (ap (λ z. test z y) (sym q) ∙ h) l

      of_no_pair : some_of ≡ false → OfNoPair ops P
      of_no_pair none a b ha hb p =
          true≢false
          (sym (some_below_lem n (λ a. some_below n (test a)) a ha (some_below_lem n (test a) b (infix_below ops b hb) ((decides a b ha hb).1 p))) ∙ none)

  -- The same of triples.
  module _ (test : ℕ → ℕ → ℕ → Bool) (P : ℕ → ℕ → ℕ → Type 0)
      (decides : (a b c : ℕ) → a < n → class ops b ≡ Infix → class ops c ≡ Infix → (test a b c ≡ true) ↔ P a b c) where
    abbrev pairs : ℕ → ℕ → Bool
    pairs a b = some_below n (test a b)

    abbrev a₀ : ℕ
    a₀ = left pairs

    abbrev b₀ : ℕ
    b₀ = right pairs

    abbrev c₀ : ℕ
    c₀ = first_below n (test a₀ b₀)

    first_triple : ((a b c : ℕ) → b < n → c < n → test a b c ≡ true → (class ops b ≡ Infix) × (class ops c ≡ Infix)) → some_of pairs ≡ true
        → FirstTriple ops P a₀ b₀ c₀
    first_triple is some =
        record {
          below = below;
          second_infix = i.0;
          third_infix = i.1;
          holds = (decides a₀ b₀ c₀ below i.0 i.1).0 e;
          none_before = λ x y z hx hy hz (before, p). earlier x y z hx hy hz before ((decides x y z hx hy hz).1 p);
        }
      where
        below : a₀ < n
        below = first_below_lem n (λ a. some_below n (pairs a)) some

        pair : pairs a₀ b₀ ≡ true
        pair = first_holds n (pairs a₀) (has_right pairs some)

        e : test a₀ b₀ c₀ ≡ true
        e = first_holds n (test a₀ b₀) pair

        i : (class ops b₀ ≡ Infix) × (class ops c₀ ≡ Infix)
        i = is a₀ b₀ c₀ (first_below_lem n (pairs a₀) (has_right pairs some)) (first_below_lem n (test a₀ b₀) pair) e

        earlier : (x y z : ℕ) → x < n → class ops y ≡ Infix → class ops z ≡ Infix → TripleBefore x y z a₀ b₀ c₀ → test x y z ≡ true → ⊥
        earlier x y z hx hy hz (inl l) h =
            not_before n (λ a. some_below n (pairs a)) x
            (some_below_lem n (pairs x) y (infix_below ops y hy) (some_below_lem n (test x y) z (infix_below ops z hz) h)) l
        earlier x y z hx hy hz (inr (q, inl l)) h =
            not_before n (pairs a₀) y (some_below_lem n (test a₀ y) z (infix_below ops z hz) (ap (λ a. test a y z) (sym q) ∙ h)) l
        earlier x y z hx hy hz (inr (q, inr (s, l))) h =
            not_before n (test a₀ b₀) z (ap (λ b. test a₀ b z) (sym s) ∙ ap (λ a. test a y z) (sym q) ∙ h) l

    of_no_triple : some_of pairs ≡ false → OfNoTriple ops P
    of_no_triple none a b c ha hb hc p =
        true≢false
        (sym (some_below_lem n (λ a. some_below n (pairs a)) a ha
        (some_below_lem n (pairs a) b (infix_below ops b hb) (some_below_lem n (test a b) c (infix_below ops c hc) ((decides a b c ha hb hc).1 p))))
        ∙ none)

-- ---- of the witness
module _ (ops : Operators) (rules : List Rule) (small : ops.count ≤ most_operators) where
  abbrev both : ℕ → ℕ → Bool
  both = both_exclude ops (L rules) (R rules)

  abbrev none : ℕ → ℕ → Bool
  none = none_excludes ops (L rules) (R rules)

  abbrev unlevel : ℕ → ℕ → ℕ → Bool
  unlevel = uneven ops (R rules)

  rows : RowsDecided ops rules
  rows = rows_decided ops rules small

  no_none : some_of ops both ≡ false → OfNoPair ops (NoneOfPair ops rules)
  no_none e = of_no_pair ops both (NoneOfPair ops rules) rows.none e

  no_two : some_of ops none ≡ false → OfNoPair ops (TwoOfPair ops rules)
  no_two e = of_no_pair ops none (TwoOfPair ops rules) rows.two e

  -- the first three that are not level
  abbrev a : ℕ
  a = left ops (uneven_pair ops (R rules))

  abbrev b : ℕ
  b = right ops (uneven_pair ops (R rules))

  abbrev c : ℕ
  c = first_third ops (R rules) a b

  by_triples : some_of ops both ≡ false → some_of ops none ≡ false → (x : Bool) → some_of ops (uneven_pair ops (R rules)) ≡ x
      → FirstRow ops rules (cond x (two_of_three ops (R rules) a b c) sound)
  by_triples d t x e = go x e
    where
      decides : (a b c : ℕ) → a < ops.count → class ops b ≡ Infix → class ops c ≡ Infix → (unlevel a b c ≡ true) ↔ TwoOfTriple ops rules a b c
      decides = rows.two_of_three_lem (safe_is ops (L rules) (R rules) ∙ ap not d) (total_is ops (L rules) (R rules) ∙ ap not t)

      infix_both : (a b c : ℕ) → b < ops.count → c < ops.count → unlevel a b c ≡ true → (class ops b ≡ Infix) × (class ops c ≡ Infix)
      infix_both a b c hb hc h = let (i, k, _) = is_uneven ops small (L rules) (R rules) a b hb c hc h in (i, k)

      go : (x : Bool) → some_of ops (uneven_pair ops (R rules)) ≡ x → FirstRow ops rules (cond x (two_of_three ops (R rules) a b c) sound)
      go true e =
          two_of_triple a b c (first_over_triple (not (comes ops a)) a (R rules a b) b c) (last_over_triple (not (comes ops a)) a (R rules a b) b c)
          (no_none d) (no_two t) (first_triple ops unlevel (TwoOfTriple ops rules) decides infix_both e)
          (one_triple_row (not (comes ops a)) (R rules a b) a b c ∙ triple_row_lem ops a b c)
      go false e = no_fault (no_none d) (no_two t) (of_no_triple ops unlevel (TwoOfTriple ops rules) decides e)

  by_neither : some_of ops both ≡ false → (x : Bool) → some_of ops none ≡ x
      → FirstRow ops rules (cond x (two_of ops (left ops none) (right ops none)) (of_triples ops (R rules)))
  unfolding of_triples
  by_neither d true e =
      two_of_pair (left ops none) (right ops none) _ _ (no_none d)
      (first_pair ops none (TwoOfPair ops rules) rows.two (λ a b hb h. (none_excludes_lem ops small (L rules) (R rules) a b hb h).0) e)
      (pair_row_lem ops (left ops none) (right ops none))
  by_neither d false e = by_triples d e (some_of ops (uneven_pair ops (R rules))) refl

  by_both : (x : Bool) → some_of ops both ≡ x
      → FirstRow ops rules (cond x (none_of ops (left ops both) (right ops both)) (shown_by ops none (two_of ops) (of_triples ops (R rules))))
  by_both true e =
      none_of_pair (left ops both) (right ops both) _
      (first_pair ops both (NoneOfPair ops rules) rows.none (λ a b hb h. (both_exclude_lem ops small (L rules) (R rules) a b hb h).0) e)
      (pair_row_lem ops (left ops both) (right ops both))
  by_both false e = by_neither e (some_of ops none) refl

  pub first_row : FirstRow ops rules (witness_of ops rules)
  unfolding witness
  first_row = by_both (some_of ops both) refl
