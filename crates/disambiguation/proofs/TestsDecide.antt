-- The verdict's tests decide the conditions, for a sheet's operators, and so do the tests of single pairs and triples. Assumes nothing.
use Prim.Native.Nat.{ℕ, ◌≤◌, ◌<◌}
use native.Mathlib.Omega.{arith}
use mathlib.Core.Path.{◌≡◌, refl, ap, sym, ◌∙◌}
use mathlib.Core.Bool.{Bool, true, false, not, ◌&&◌, ◌||◌, cond, true≢false, false≢true}
use mathlib.Core.Logic.{◌⊎◌, inl, inr}
use lib.Dec.{eqb}
use borrow.Author.Tests.{not-true}
use Rattle.expression.specs.Limits.{most_operators}
use Rattle.expression.specs.Token.{Infix, Prefix, prefix_kind, Operators, kind_of, class_of_kind, class}
use Rattle.expression.proofs.Tests.{both_false}
use Rattle.expression.proofs.Classes.{class_operator, by_class, operator_below}
use Rattle.disambiguation.specs.Verdict.{comes, comers, safe, total, within, level}
use Rattle.disambiguation.specs.Witness.{both_exclude, none_excludes, uneven}
use Rattle.disambiguation.proofs.Free.{is_true}
use Rattle.disambiguation.proofs.BelowLaws.{and_true, all_below_at, all_pairs_at}
use Rattle.disambiguation.proofs.Conditions.{waits, takes, Safe, Total, Transitive, Cotransitive}

-- what a test of two or three relations says
not_both : (a b : Bool) → not (a && b) ≡ true → a ≡ true → b ≡ true → ⊥
not_both true true e p q = false≢true e
not_both true false e p q = false≢true q
not_both false b e p q = false≢true p

either : (a b : Bool) → (a || b) ≡ true → a ≡ false → b ≡ false → ⊥
either true b e p q = true≢false p
either false b e p q = true≢false (sym e ∙ q)

implies : (a b : Bool) → (not a || b) ≡ true → a ≡ true → b ≡ false → ⊥
implies true b e p q = true≢false (sym e ∙ q)
implies false b e p q = false≢true p

-- operators that are not level, the first way or the second
abbrev pub Uneven : (ℕ → ℕ → Bool) → ℕ → ℕ → ℕ → Type 0
Uneven R a b c = ((R a b ≡ true) × (R b c ≡ true) × (R a c ≡ false)) ⊎ ((R a b ≡ false) × (R b c ≡ false) × (R a c ≡ true))

module _ (ops : Operators) where
  pub waits_below : (a : ℕ) → waits (class ops a) ≡ true → a < ops.count
  waits_below = operator_below ops waits refl refl refl refl

  takes_below : (b : ℕ) → takes (class ops b) ≡ true → b < ops.count
  takes_below = operator_below ops takes refl refl refl refl

  pub infix_below : (b : ℕ) → class ops b ≡ Infix → b < ops.count
  infix_below b h = takes_below b (ap takes h)

  -- what takes a left operand may stand right of another
  takes_comes : (b : ℕ) → takes (class ops b) ≡ true → comes ops b ≡ true
  takes_comes b =
      by_class ops (λ x. takes x ≡ true → comes ops b ≡ true) b (λ _ _ e _. ap not e) (λ _ _ _ h. absurd (false≢true h)) (λ _ h. absurd (false≢true h))
      (λ _ h. absurd (false≢true h)) (λ _ _ h. absurd (false≢true h)) (λ h. absurd (false≢true h))

  pub infix_comes : (b : ℕ) → class ops b ≡ Infix → comes ops b ≡ true
  infix_comes b h = takes_comes b (ap takes h)

  comers_at : (p : ℕ → Bool) (b : ℕ) → takes (class ops b) ≡ true → p b ≡ true → comers ops p b ≡ true
  comers_at p b h e = rw (e, takes_comes b h)

  module _ (L R : ℕ → ℕ → Bool) where
    pub safe_safe : safe ops L R ≡ true → Safe L R (class ops)
    unfolding safe
    safe_safe e a b ha hb r =
        not_both (comers ops (R a) b) (L b a) (all_pairs_at ops.count (λ a b. not (comers ops (R a) b && L b a)) e a b (waits_below a ha) (takes_below b hb))
        (comers_at (R a) b hb r)

    pub total_total : total ops L R ≡ true → Total L R (class ops)
    unfolding total
    total_total e a b ha hb r =
        either (R a b || not (comes ops b)) (L b a)
        (all_pairs_at ops.count (λ a b. (R a b || not (comes ops b)) || L b a) e a b (waits_below a ha) (takes_below b hb)) (rw (r, takes_comes b hb))

  module _ (R : ℕ → ℕ → Bool) where
    abbrev level_pair : ℕ → ℕ → Bool
    level_pair a b = cond (R a b) (within ops.count (comers ops (R b)) (R a)) (within ops.count (comers ops (R a)) (R b))

    abbrev level_at : ℕ → ℕ → Bool
    level_at a b = not (comes ops b) || level_pair a b

    pair_at : level ops R ≡ true → (a b : ℕ) → waits (class ops a) ≡ true → class ops b ≡ Infix → level_pair a b ≡ true
    unfolding level
    pair_at e a b ha hb =
        is_true (level_pair a b)
        (implies (comes ops b) (level_pair a b) (all_pairs_at ops.count level_at e a b (waits_below a ha) (infix_below b hb)) (infix_comes b hb))

    within_at : (p q : ℕ → Bool) → within ops.count p q ≡ true → (c : ℕ) → c < ops.count → p c ≡ true → q c ≡ false → ⊥
    unfolding within
    within_at p q e c h = implies (p c) (q c) (all_below_at ops.count (λ c. not (p c) || q c) e c h)

    pub level_transitive : level ops R ≡ true → Transitive R (class ops)
    level_transitive e a b c ha hb hc ab bc ac =
        within_at (comers ops (R b)) (R a) (rw ab at (pair_at e a b ha hb)) c (takes_below c hc) (comers_at (R b) c hc bc) ac

    pub level_cotransitive : level ops R ≡ true → Cotransitive R (class ops)
    level_cotransitive e a b c ha hb hc ab bc ac =
        within_at (comers ops (R a)) (R b) (rw ab at (pair_at e a b ha hb)) c (infix_below c hc) (comers_at (R a) c (ap takes hc) ac) bc

  -- Operators of which the test of a fault holds have it.
  module _ (small : ops.count ≤ most_operators) where
    operator : (a : ℕ) → a < ops.count → class ops a ≡ class_of_kind (kind_of ops a)
    operator a h = class_operator ops a (omega arith) h

    -- an operator is prefix or infix, as `comes` tells
    pub is_left : (a : ℕ) → a < ops.count → class ops a ≡ cond (not (comes ops a)) Prefix Infix
    is_left a h = operator a h ∙ go (eqb (kind_of ops a) prefix_kind)
      where
        go : (b : Bool) → cond b Prefix Infix ≡ cond (not (not b)) Prefix Infix
        go true = refl
        go false = refl

    pub is_infix_lem : (b : ℕ) → b < ops.count → comes ops b ≡ true → class ops b ≡ Infix
    is_infix_lem b h e = is_left b h ∙ ap (λ (x : Bool). cond (not x) Prefix Infix) e

    module _ (L R : ℕ → ℕ → Bool) (a b : ℕ) (hb : b < ops.count) where
      pub both_exclude_lem : both_exclude ops L R a b ≡ true → (class ops b ≡ Infix) × (R a b ≡ true) × (L b a ≡ true)
      both_exclude_lem e =
          let (q, l) = and_true (comers ops (R a) b) (L b a) e in
          let (r, i) = and_true (R a b) (comes ops b) q in
          (is_infix_lem b hb i, r, l)

      pub none_excludes_lem : none_excludes ops L R a b ≡ true → (class ops b ≡ Infix) × (R a b ≡ false) × (L b a ≡ false)
      none_excludes_lem e =
          let (i, q) = and_true (comes ops b) (not (R a b || L b a)) e in
          let (r, l) = both_false (R a b) (L b a) (not-true (R a b || L b a) q) in
          (is_infix_lem b hb i, r, l)

      pub is_uneven : (c : ℕ) → c < ops.count → uneven ops R a b c ≡ true → (class ops b ≡ Infix) × (class ops c ≡ Infix) × Uneven R a b c
      is_uneven c hc e =
          let (i, q) = and_true (comes ops b) _ e in
          let (k, u) = go (R a b) refl q in
          (is_infix_lem b hb i, k, u)
        where
          go : (x : Bool) → R a b ≡ x → cond x (comers ops (R b) c && not (R a c)) (comers ops (R a) c && not (R b c)) ≡ true → (class ops c ≡ Infix) × Uneven R a b c
          go true h f =
              let (p, q) = and_true (comers ops (R b) c) (not (R a c)) f in
              let (r, i) = and_true (R b c) (comes ops c) p in
              (is_infix_lem c hc i, inl (h, r, not-true (R a c) q))
          go false h f =
              let (p, q) = and_true (comers ops (R a) c) (not (R b c)) f in
              let (r, i) = and_true (R a c) (comes ops c) p in
              (is_infix_lem c hc i, inr (h, not-true (R b c) q, r))
