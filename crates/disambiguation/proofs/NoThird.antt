-- A row of three operators that are not level has no third conflict-free tree. Assumes nothing.
--     The tree with the first operator on top is the only one under relations that are changed at one pair, and so is that with the last on top.
use Prim.Native.Nat.{ℕ}
use native.Mathlib.Omega.{arith}
use mathlib.Core.Path.{◌≡◌, refl, ap, sym, subst, ◌∙◌}
use mathlib.Core.Bool.{Bool, true, false, ◌&&◌, cond, true≢false}
use mathlib.Core.Logic.{◌⊎◌, inl, inr}
use mathlib.Core.List.{List, [], ◌∷◌, ◌++◌}
use lib.Dec.{eqb}
use borrow.Author.Tests.{eq-eqb, ne_eqb}
use Rattle.expression.specs.Token.{Class}
use Rattle.expression.specs.Tree.{Tree, reading, bracket, binary, prefix, yield, Over}
use Rattle.expression.proofs.Cond.{by_cond}
use Rattle.expression.proofs.Classes.{Brackets}
use Rattle.disambiguation.specs.Conflicts.{conflicts}
use Rattle.disambiguation.specs.Witness.{operand, last, first_over_triple, last_over_triple}
use Rattle.disambiguation.specs.Witness as witness
use Rattle.disambiguation.proofs.Free.{is_false, Free, free_of_count, count_of_free}
use Rattle.disambiguation.proofs.Conditions.{Total}
use Rattle.disambiguation.proofs.InTurn.{Triples, in_turn, same_in_turn}
use Rattle.disambiguation.proofs.Unique.{unique_in_row}
use Rattle.disambiguation.proofs.Converse.{Twins}
use Rattle.disambiguation.proofs.FreeInTurn.{OnLeft, OnRight, Either, first_on_top, prefix_on_top, second_on_top, third_on_top}

-- which operator is on top
data OnTop (a b c o : ℕ) (xs ys : List ℕ) : Type 0 where
  at_first : o ≡ a → xs ≡ [] → ys ≡ b ∷ c ∷ [] → OnTop a b c o xs ys
  at_second : o ≡ b → xs ≡ a ∷ [] → ys ≡ c ∷ [] → OnTop a b c o xs ys
  at_third : o ≡ c → xs ≡ a ∷ b ∷ [] → ys ≡ [] → OnTop a b c o xs ys

-- what is left of equal lists
heads : {x y : ℕ} {xs ys : List ℕ} → x ∷ xs ≡ y ∷ ys → x ≡ y
heads e = cc

tails : {x y : ℕ} {xs ys : List ℕ} → x ∷ xs ≡ y ∷ ys → xs ≡ ys
tails e = cc

more : {x : ℕ} {xs : List ℕ} → x ∷ xs ≡ [] → ⊥
more e = let clash : ◌≡◌ {A = ℕ} 0 1 = cc in omega arith

never_empty : (xs : List ℕ) (o : ℕ) (ys : List ℕ) → xs ++ o ∷ ys ≡ [] → ⊥
never_empty [] o ys e = more e
never_empty (x ∷ xs) o ys e = more e

on_top_of : (a b c o : ℕ) (xs ys : List ℕ) → xs ++ o ∷ ys ≡ a ∷ b ∷ c ∷ [] → OnTop a b c o xs ys
on_top_of a b c o [] ys e = at_first (heads e) refl (tails e)
on_top_of a b c o (x ∷ []) ys e = at_second (heads (tails e)) (ap (λ z. z ∷ []) (heads e)) (tails (tails e))
on_top_of a b c o (x ∷ y ∷ []) ys e = at_third (heads (tails (tails e))) (two (heads e) (heads (tails e))) (tails (tails (tails e)))
  where
    two : x ≡ a → y ≡ b → x ∷ y ∷ [] ≡ a ∷ b ∷ []
    two p q = cc
on_top_of a b c o (x ∷ y ∷ z ∷ zs) ys e = absurd (never_empty zs o ys (tails (tails (tails e))))

-- ---- relations changed at one pair
abbrev changed : (ℕ → ℕ → Bool) → ℕ → ℕ → Bool → ℕ → ℕ → Bool
changed S a b x p q = cond (eqb p a && eqb q b) x (S p q)

module _ (S : ℕ → ℕ → Bool) (a b : ℕ) where
  there : (x : Bool) → changed S a b x a b ≡ x
  there x = rw (eq-eqb a a refl, eq-eqb b b refl) refl

  other_left : (x : Bool) (p q : ℕ) → (p ≡ a → ⊥) → changed S a b x p q ≡ S p q
  other_left x p q n = rw (ne_eqb p a n) refl

  other_right : (x : Bool) (p q : ℕ) → (q ≡ b → ⊥) → changed S a b x p q ≡ S p q
  other_right x p q n = rw (ne_eqb q b n) (go (eqb p a))
    where
      go : (i : Bool) → cond (i && false) x (S p q) ≡ S p q
      go true = refl
      go false = refl

  -- with a pair less, and with a pair more
  still_false : (p q : ℕ) → S p q ≡ false → changed S a b false p q ≡ false
  still_false p q e = by_cond (λ y. y ≡ false) (eqb p a && eqb q b) (λ _. refl) (λ _. e)

  still_true : (p q : ℕ) → S p q ≡ true → changed S a b true p q ≡ true
  still_true p q e = by_cond (λ y. y ≡ true) (eqb p a && eqb q b) (λ _. refl) (λ _. e)

  was_false : (p q : ℕ) → changed S a b true p q ≡ false → S p q ≡ false
  was_false p q e = is_false (S p q) (λ f. true≢false (sym (still_true p q f) ∙ e))

-- with a pair more to the one, or with a pair taken from the one and given to the other, they are as total as they were
total_more : (L R : ℕ → ℕ → Bool) (k : ℕ → Class) → Total L R k → (x y : ℕ) → Total L (changed R x y true) k
total_more L R k total x y p o hp ho r = total p o hp ho (was_false R x y p o r)

total_turned : (L R : ℕ → ℕ → Bool) (k : ℕ → Class) → Total L R k → (x y : ℕ) → Total (changed L y x true) (changed R x y false) k
total_turned L R k total x y p o hp ho = go (eqb p x) (eqb o y)
  where
    go : (i j : Bool) → cond (i && j) false (R p o) ≡ false → cond (j && i) true (L o p) ≡ false → ⊥
    go true true r l = true≢false l
    go true false r l = total p o hp ho r l
    go false true r l = total p o hp ho r l
    go false false r l = total p o hp ho r l

-- ---- three operators in turn under relations that are total
-- these three, in this order
abbrev pub Same : ℕ → ℕ → ℕ → ℕ → ℕ → ℕ → Type 0
Same a b c p q o = (p ≡ a) × (q ≡ b) × (o ≡ c)

module _ (k : ℕ → Class) (brackets : Brackets k) (a b c : ℕ) where
  -- where they are level, the row has one
  only : (L R : ℕ → ℕ → Bool) → Total L R k → (R a b ≡ true → R b c ≡ true → R a c ≡ false → ⊥) → (R a b ≡ false → R b c ≡ false → R a c ≡ true → ⊥)
      → (t u : Tree) → Over k t → Over k u → in_turn t ≡ a ∷ b ∷ c ∷ [] → Free L R t → Free L R u → yield t ≡ yield u → t ≡ u
  only L R total even coeven t u ht hu e ft fu =
      unique_in_row L R k total (Same a b c)
      (λ p q o (ep, eq, eo) _ _ _ pq qo po. even (rw (ep, eq) at pq) (rw (eq, eo) at qo) (rw (ep, eo) at po))
      (λ p q o (ep, eq, eo) _ _ _ pq qo po. coeven (rw (ep, eq) at pq) (rw (eq, eo) at qo) (rw (ep, eo) at po))
      brackets t u ht hu (subst (λ os. Triples (Same a b c) os) (sym e) these) (count_of_free L R t ft) (count_of_free L R u fu)
    where
      these : Triples (Same a b c) (a ∷ b ∷ c ∷ [])
      these = ((((refl, refl, refl), tt), (tt, tt)), ((tt, tt), (tt, tt)))

  module _ (L R L₀ R₀ L₁ R₁ : ℕ → ℕ → Bool)
      (first : OnRight L R L₀ R₀ a b × OnRight L R L₀ R₀ a c × Either L R L₀ R₀ b c)
      (second : (OnLeft L R L₀ R₀ a b × OnRight L R L₀ R₀ b c) ⊎ (OnLeft L R L₁ R₁ a b × OnRight L R L₁ R₁ b c))
      (third : Either L R L₁ R₁ a b × OnLeft L R L₁ R₁ a c × OnLeft L R L₁ R₁ b c) where
    -- by the operator on top, a tree is free under the ones or the others
    which : (v : Tree) → in_turn v ≡ a ∷ b ∷ c ∷ [] → Free L R v → Free L₀ R₀ v ⊎ Free L₁ R₁ v
    which (reading x) e f = absurd (more (sym e))
    which (bracket t) e f = which t e f
    which (binary o l r) e f = go (on_top_of a b c o (in_turn l) (in_turn r) e)
      where
        by_second : (OnLeft L R L₀ R₀ a b × OnRight L R L₀ R₀ b c) ⊎ (OnLeft L R L₁ R₁ a b × OnRight L R L₁ R₁ b c) → in_turn l ≡ a ∷ [] → in_turn r ≡ c ∷ []
            → Free L R (binary b l r) → Free L₀ R₀ (binary b l r) ⊎ Free L₁ R₁ (binary b l r)
        by_second (inl (x, y)) el er g = inl (second_on_top L R L₀ R₀ a b c x y l r el er g)
        by_second (inr (x, y)) el er g = inr (second_on_top L R L₁ R₁ a b c x y l r el er g)

        go : OnTop a b c o (in_turn l) (in_turn r) → Free L₀ R₀ (binary o l r) ⊎ Free L₁ R₁ (binary o l r)
        go (at_first q el er) =
            inl (subst (λ x. Free L₀ R₀ (binary x l r)) (sym q)
            (first_on_top L R L₀ R₀ a b c first.0 first.1 first.2 l r el er (subst (λ x. Free L R (binary x l r)) q f)))
        go (at_second q el er) =
            subst (λ x. Free L₀ R₀ (binary x l r) ⊎ Free L₁ R₁ (binary x l r)) (sym q) (by_second second el er (subst (λ x. Free L R (binary x l r)) q f))
        go (at_third q el er) =
            inr (subst (λ x. Free L₁ R₁ (binary x l r)) (sym q)
            (third_on_top L R L₁ R₁ a b c third.0 third.1 third.2 l r el er (subst (λ x. Free L R (binary x l r)) q f)))
    which (prefix p t) e f =
        inl (subst (λ x. Free L₀ R₀ (prefix x t)) (sym (heads e))
        (prefix_on_top L R L₀ R₀ a b c first.0 first.1 first.2 t (tails e) (subst (λ x. Free L R (prefix x t)) (heads e) f)))

    -- the two trees of `Witness` are so
    module _ (p x : Bool) where
      abbrev under : Tree
      under = cond x (last p a 3 c (binary b (operand p a 1) (operand p a 2))) (binary b (operand p a 1) (last p a 3 c (operand p a 2)))

      abbrev before : Tree
      before = cond x (binary b (witness.first p a (operand p a 1)) (operand p a 2)) (witness.first p a (binary b (operand p a 1) (operand p a 2)))

    under_turn : (p x : Bool) → in_turn (under p x) ≡ b ∷ c ∷ []
    under_turn p true = refl
    under_turn p false = refl

    before_turn : (p x : Bool) → in_turn (before p x) ≡ a ∷ b ∷ []
    before_turn true true = refl
    before_turn true false = refl
    before_turn false true = refl
    before_turn false false = refl

    first_free : (p x : Bool) → Free L R (first_over_triple p a x b c) → Free L₀ R₀ (first_over_triple p a x b c)
    first_free true x f = prefix_on_top L R L₀ R₀ a b c first.0 first.1 first.2 (under true x) (under_turn true x) f
    first_free false x f = first_on_top L R L₀ R₀ a b c first.0 first.1 first.2 (operand false a 0) (under false x) refl (under_turn false x) f

    last_free : (p x : Bool) → Free L R (last_over_triple p a x b c) → Free L₁ R₁ (last_over_triple p a x b c)
    last_free p x f = third_on_top L R L₁ R₁ a b c third.0 third.1 third.2 (before p x) (operand p a 3) (before_turn p x) refl f

    -- under each the row has one tree
    no_third : Total L₀ R₀ k → (R₀ a b ≡ true → R₀ b c ≡ true → R₀ a c ≡ false → ⊥) → (R₀ a b ≡ false → R₀ b c ≡ false → R₀ a c ≡ true → ⊥)
        → Total L₁ R₁ k → (R₁ a b ≡ true → R₁ b c ≡ true → R₁ a c ≡ false → ⊥) → (R₁ a b ≡ false → R₁ b c ≡ false → R₁ a c ≡ true → ⊥)
        → (p x : Bool) → Twins L R k (first_over_triple p a x b c) (last_over_triple p a x b c)
        → (v : Tree) → Over k v → yield v ≡ yield (first_over_triple p a x b c) → conflicts L R v ≡ 0
        → (v ≡ first_over_triple p a x b c) ⊎ (v ≡ last_over_triple p a x b c)
    no_third t₀ e₀ c₀ t₁ e₁ c₁ p x w v hv y e = go (which v turn (free_of_count L R v e))
      where
        of_first : (p x : Bool) → in_turn (first_over_triple p a x b c) ≡ a ∷ b ∷ c ∷ []
        of_first true true = refl
        of_first true false = refl
        of_first false true = refl
        of_first false false = refl

        turn : in_turn v ≡ a ∷ b ∷ c ∷ []
        turn = same_in_turn k brackets v (first_over_triple p a x b c) hv w.first_over y ∙ of_first p x

        go : Free L₀ R₀ v ⊎ Free L₁ R₁ v → (v ≡ first_over_triple p a x b c) ⊎ (v ≡ last_over_triple p a x b c)
        go (inl f) =
            inl (only L₀ R₀ t₀ e₀ c₀ v (first_over_triple p a x b c) hv w.first_over turn f
            (first_free p x (free_of_count L R (first_over_triple p a x b c) w.first_free)) y)
        go (inr f) =
            inr (only L₁ R₁ t₁ e₁ c₁ v (last_over_triple p a x b c) hv w.second_over turn f
            (last_free p x (free_of_count L R (last_over_triple p a x b c) w.second_free)) (y ∙ sym w.one_row))

module _ (L R : ℕ → ℕ → Bool) (k : ℕ → Class) (brackets : Brackets k) (total : Total L R k) (a b c : ℕ) where
  -- a tree of the row is one of these two
  abbrev pub NoThird : Bool → Bool → Type 0
  NoThird p x =
      Twins L R k (first_over_triple p a x b c) (last_over_triple p a x b c) → (v : Tree) → Over k v → yield v ≡ yield (first_over_triple p a x b c)
      → conflicts L R v ≡ 0 → (v ≡ first_over_triple p a x b c) ⊎ (v ≡ last_over_triple p a x b c)

  -- a closes before b and b before c, yet not a before c: were a not to close before b, or were it to close before c, they were level
  pub none_beside : R a b ≡ true → R b c ≡ true → R a c ≡ false → (p : Bool) → NoThird p true
  none_beside ab bc ac p =
      no_third k brackets a b c L R (changed L b a true) (changed R a b false) L (changed R a c true)
      (still_false R a b a b, still_false R a b a c, (λ e. other_left L b a true c b cb ∙ e, still_false R a b b c))
      (inr ((λ e. e), (λ e. absurd (true≢false (sym bc ∙ e)))))
      (((λ e. e), (λ e. absurd (true≢false (sym ab ∙ e)))), (λ e. e), (λ e. e))
      (total_turned L R k total a b) (λ e _ _. true≢false (sym e ∙ there R a b false)) (λ _ e _. true≢false (sym bc ∙ sym (other_left R a b false b c ba) ∙ e))
      (total_more L R k total a c) (λ _ _ e. true≢false (sym (there R a c true) ∙ e)) (λ e _ _. true≢false (sym (still_true R a c a b ab) ∙ e)) p true
    where
      ba : b ≡ a → ⊥
      ba e = true≢false (sym bc ∙ ap (λ z. R z c) e ∙ ac)

      cb : c ≡ b → ⊥
      cb e = true≢false (sym ab ∙ ap (R a) (sym e) ∙ ac)

  -- a does not close before b nor b before c, yet a before c: were a not to close before c, or were b to, they were level
  pub none_beside_co : R a b ≡ false → R b c ≡ false → R a c ≡ true → (p : Bool) → NoThird p false
  none_beside_co ab bc ac p =
      no_third k brackets a b c L R (changed L c a true) (changed R a c false) L (changed R b c true)
      (still_false R a c a b, still_false R a c a c, (λ e. other_right L c a true c b ba ∙ e, still_false R a c b c))
      (inl (λ e. other_left L c a true b a cb ∙ e, still_false R a c b c))
      (((λ e. e), (λ e. other_left R b c true a b (λ q. ba (sym q)) ∙ e)), (λ e. e), (λ e. e))
      (total_turned L R k total a c) (λ e _ _. true≢false (sym e ∙ still_false R a c a b ab)) (λ _ _ e. true≢false (sym e ∙ there R a c false))
      (total_more L R k total b c) (λ e _ _. true≢false (sym e ∙ other_left R b c true a b (λ q. ba (sym q)) ∙ ab))
      (λ _ e _. true≢false (sym (there R b c true) ∙ e)) p false
    where
      ba : b ≡ a → ⊥
      ba e = true≢false (sym ac ∙ ap (λ z. R z c) (sym e) ∙ bc)

      cb : b ≡ c → ⊥
      cb e = true≢false (sym ac ∙ ap (R a) (sym e) ∙ ab)
