-- What the witness of a sheet's rules shows: a row without a conflict-free tree, or with at least two, just as the verdict's tests turn out. Assumes nothing.
use Prim.Native.Nat.{ℕ, ◌<◌, ◌≤◌}
use mathlib.Core.Path.{◌≡◌, refl, ap, sym, ◌∙◌}
use mathlib.Core.Bool.{Bool, true, false, not, ◌&&◌, ◌||◌, cond, true≢false}
use mathlib.Core.Logic.{◌⊎◌, inl, inr}
use lib.Dec.{ltb}
use Rattle.expression.specs.Limits.{most_operators}
use Rattle.expression.specs.Token.{Infix, Operators, class}
use Rattle.expression.specs.Tree.{Tree, yield, Over}
use Rattle.expression.proofs.Classes.{brackets, class_reading}
use Rattle.disambiguation.specs.Conflicts.{conflicts}
use Rattle.disambiguation.specs.Below.{all_below, some_below}
use Rattle.disambiguation.specs.Verdict.{comes, comers, safe, total, within, level}
use Rattle.disambiguation.specs.Witness.{Witness, sound, no_tree, two_trees, both_exclude, none_excludes, uneven, uneven_pair, first_left, first_right, shown_by, first_over_triple, last_over_triple, first_third, none_of, two_of, two_of_uneven, of_triples, witness}
use Rattle.disambiguation.proofs.BelowLaws.{all_below_of, all_same}
use Rattle.disambiguation.proofs.FirstBelow.{first_below_lem, first_holds, none_below}
use Rattle.disambiguation.proofs.Converse.{NoneLike, Twins, no_third, not_safe, not_total, not_transitive, not_cotransitive}
use Rattle.disambiguation.proofs.NoThird.{none_beside, none_beside_co}
use Rattle.disambiguation.proofs.TestsDecide.{safe_safe, total_total, is_left, both_exclude_lem, none_excludes_lem, Uneven, is_uneven}

module _ (ops : Operators) (L R : ℕ → ℕ → Bool) where
  -- no pair is in a test exactly if there is no first one
  no_pair : (test : ℕ → ℕ → Bool) → all_below ops.count (λ a. all_below ops.count (λ b. not (test a b))) ≡ not (ltb (first_left ops test) ops.count)
  no_pair test = all_same _ _ ops.count (λ a _. none_below ops.count (test a)) ∙ none_below ops.count (λ a. some_below ops.count (test a))

  pub safe_is : safe ops L R ≡ not (ltb (first_left ops (both_exclude ops L R)) ops.count)
  unfolding safe
  safe_is = no_pair (both_exclude ops L R)

  pub total_is : total ops L R ≡ not (ltb (first_left ops (none_excludes ops L R)) ops.count)
  unfolding total
  total_is = all_same _ _ ops.count (λ a _. all_same _ _ ops.count (λ b _. go (R a b) (comes ops b) (L b a))) ∙ no_pair (none_excludes ops L R)
    where
      go : (r i l : Bool) → ((r || not i) || l) ≡ not (i && not (r || l))
      go true true l = refl
      go true false l = refl
      go false true true = refl
      go false true false = refl
      go false false l = refl

  level_is : level ops R ≡ not (ltb (first_left ops (uneven_pair ops R)) ops.count)
  unfolding level within
  level_is = all_same _ _ ops.count (λ a _. all_same _ _ ops.count (λ b _. go a b (comes ops b) (R a b) ∙ none_below ops.count (uneven ops R a b))) ∙ no_pair (uneven_pair ops R)
    where
      not_but : (p q : Bool) → (not p || q) ≡ not (p && not q)
      not_but true true = refl
      not_but true false = refl
      not_but false q = refl

      go : (a b : ℕ) (i r : Bool)
          → (not i || cond r (all_below ops.count (λ c. not (comers ops (R b) c) || R a c)) (all_below ops.count (λ c. not (comers ops (R a) c) || R b c)))
          ≡ all_below ops.count (λ c. not (i && cond r (comers ops (R b) c && not (R a c)) (comers ops (R a) c && not (R b c))))
      go a b false r = sym (all_below_of ops.count (λ c. true) (λ c h. refl))
      go a b true true = all_same _ _ ops.count (λ c _. not_but (comers ops (R b) c) (R a c))
      go a b true false = all_same _ _ ops.count (λ c _. not_but (comers ops (R a) c) (R b c))

  module _ (small : ops.count ≤ most_operators) where
    -- the row of the two has no third
    abbrev NoThird : Tree → Tree → Type 0
    NoThird t u = (v : Tree) → Over (class ops) v → yield v ≡ yield t → conflicts L R v ≡ 0 → (v ≡ t) ⊎ (v ≡ u)

    -- what each kind of witness says of the tests, and its trees of their rows
    abbrev pub Shows : Witness → Type 0
    Shows sound = (safe ops L R ≡ true) × ((total ops L R && level ops R) ≡ true)
    Shows (no_tree t) = (safe ops L R ≡ false) × NoneLike L R (class ops) t
    Shows (two_trees t u) = (safe ops L R ≡ true) × ((total ops L R && level ops R) ≡ false) × Twins L R (class ops) t u × NoThird t u

    -- the first pair of a test, if there is one
    module _ (test : ℕ → ℕ → Bool) where
      abbrev left : ℕ
      left = first_left ops test

      abbrev right : ℕ
      right = first_right ops test left

      abbrev some_of : Bool
      some_of = ltb left ops.count

      -- what holds of each pair in the test holds of it
      at_first : some_of ≡ true → (P : ℕ → ℕ → Type 0) → ((a b : ℕ) → a < ops.count → b < ops.count → test a b ≡ true → P a b) → P left right
      at_first some P f =
          f left right (first_below_lem ops.count (λ a. some_below ops.count (test a)) some) (first_below_lem ops.count (test left) has_right) (first_holds ops.count (test left) has_right)
        where
          has_right : some_below ops.count (test left) ≡ true
          has_right = first_holds ops.count (λ a. some_below ops.count (test a)) some

    none_of_lem : (a b : ℕ) → a < ops.count → b < ops.count → both_exclude ops L R a b ≡ true → safe ops L R ≡ false → Shows (none_of ops a b)
    none_of_lem a b ha hb e s =
        let (i, r, l) = both_exclude_lem ops small L R a b hb e in
        (s, not_safe L R (class ops) (class_reading ops) a b i (brackets ops) (not (comes ops a)) (is_left ops small a ha) r l)

    pub uneven_twins : safe ops L R ≡ true → (a b c : ℕ) → a < ops.count → class ops b ≡ Infix → class ops c ≡ Infix → Uneven R a b c
        → Twins L R (class ops) (first_over_triple (not (comes ops a)) a (R a b) b c) (last_over_triple (not (comes ops a)) a (R a b) b c)
    uneven_twins s a b c ha i k u = go (R a b) refl u
      where
        go : (x : Bool) → R a b ≡ x → Uneven R a b c → Twins L R (class ops) (first_over_triple (not (comes ops a)) a x b c) (last_over_triple (not (comes ops a)) a x b c)
        go true h (inl (p, q, r)) =
            not_transitive L R (class ops) (class_reading ops) (safe_safe ops L R s) a b c i k (not (comes ops a)) (is_left ops small a ha) p q r
        go true h (inr (p, q, r)) = absurd (true≢false (sym h ∙ p))
        go false h (inl (p, q, r)) = absurd (true≢false (sym p ∙ h))
        go false h (inr (p, q, r)) =
            not_cotransitive L R (class ops) (class_reading ops) (safe_safe ops L R s) a b c i k (not (comes ops a)) (is_left ops small a ha) p q r

    uneven_only : total ops L R ≡ true → (a b c : ℕ) → Uneven R a b c
        → Twins L R (class ops) (first_over_triple (not (comes ops a)) a (R a b) b c) (last_over_triple (not (comes ops a)) a (R a b) b c)
        → NoThird (first_over_triple (not (comes ops a)) a (R a b) b c) (last_over_triple (not (comes ops a)) a (R a b) b c)
    uneven_only t a b c u = go (R a b) refl u
      where
        go : (x : Bool) → R a b ≡ x → Uneven R a b c
            → Twins L R (class ops) (first_over_triple (not (comes ops a)) a x b c) (last_over_triple (not (comes ops a)) a x b c)
            → NoThird (first_over_triple (not (comes ops a)) a x b c) (last_over_triple (not (comes ops a)) a x b c)
        go true h (inl (p, q, r)) = none_beside L R (class ops) (brackets ops) (total_total ops L R t) a b c p q r (not (comes ops a))
        go true h (inr (p, q, r)) = absurd (true≢false (sym h ∙ p))
        go false h (inl (p, q, r)) = absurd (true≢false (sym p ∙ h))
        go false h (inr (p, q, r)) = none_beside_co L R (class ops) (brackets ops) (total_total ops L R t) a b c p q r (not (comes ops a))

    module _ (s : safe ops L R ≡ true) (f : (total ops L R && level ops R) ≡ false) where
      two_of_lem : (a b : ℕ) → a < ops.count → b < ops.count → none_excludes ops L R a b ≡ true → Shows (two_of ops a b)
      two_of_lem a b ha hb e =
          let (i, r, l) = none_excludes_lem ops small L R a b hb e in (
            s,
            f,
            not_total L R (class ops) (class_reading ops) a b i (not (comes ops a)) (is_left ops small a ha) r l,
            λ v hv y _. no_third L R (class ops) (class_reading ops) a b i (brackets ops) (not (comes ops a)) (is_left ops small a ha) v hv y,
          )

      two_of_three_lem : total ops L R ≡ true → (a b : ℕ) → a < ops.count → b < ops.count → uneven_pair ops R a b ≡ true → Shows (two_of_uneven ops R a b)
      two_of_three_lem t a b ha hb e =
          let (i, k, u) = is_uneven ops small L R a b hb (first_third ops R a b) (first_below_lem ops.count (uneven ops R a b) e) (first_holds ops.count (uneven ops R a b) e) in
          let w = uneven_twins s a b (first_third ops R a b) ha i k u in
          (s, f, w, uneven_only t a b (first_third ops R a b) u w)

    pub shows : Shows (witness ops L R)
    unfolding witness of_triples
    shows = by_both (some_of (both_exclude ops L R)) refl
      where
        by_uneven : safe ops L R ≡ true → total ops L R ≡ true → (x : Bool) → some_of (uneven_pair ops R) ≡ x
            → Shows (cond x (two_of_uneven ops R (left (uneven_pair ops R)) (right (uneven_pair ops R))) sound)
        by_uneven s t true e =
            at_first (uneven_pair ops R) e (λ a b. Shows (two_of_uneven ops R a b)) (two_of_three_lem s (rw (t, level_is, e)) t)
        by_uneven s t false e = (s, rw (t, level_is, e))

        by_none : safe ops L R ≡ true → (x : Bool) → some_of (none_excludes ops L R) ≡ x
            → Shows (cond x (two_of ops (left (none_excludes ops L R)) (right (none_excludes ops L R))) (of_triples ops R))
        by_none s true e = at_first (none_excludes ops L R) e (λ a b. Shows (two_of ops a b)) (two_of_lem s (rw (total_is, e)))
        by_none s false e = by_uneven s (total_is ∙ ap not e) (some_of (uneven_pair ops R)) refl

        by_both : (x : Bool) → some_of (both_exclude ops L R) ≡ x
            → Shows (cond x (none_of ops (left (both_exclude ops L R)) (right (both_exclude ops L R))) (shown_by ops (none_excludes ops L R) (two_of ops) (of_triples ops R)))
        by_both true e = at_first (both_exclude ops L R) e (λ a b. Shows (none_of ops a b)) (λ a b ha hb t. none_of_lem a b ha hb t (safe_is ∙ ap not e))
        by_both false e = by_none (safe_is ∙ ap not e) (some_of (none_excludes ops L R)) refl
