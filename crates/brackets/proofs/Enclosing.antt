-- A tree with just the brackets that it needs: once bare the same tree, over the same operators, without a conflict. Assumes nothing.
use Prim.Native.Nat.{ℕ, ◌+◌}
use native.Mathlib.Nat.{zero-add}
use native.Mathlib.Omega.{arith}
use mathlib.Core.Path.{◌≡◌, refl, ap, ap₂, sym, ◌∙◌}
use mathlib.Core.Bool.{Bool, true, false, ◌||◌}
use mathlib.Core.List.{List, [], ◌∷◌}
use lib.Dec.{ltb}
use borrow.Author.Tests.{ltb-false, lt-ltb}
use Rattle.expression.specs.Lists.{one_if, any_holds, how_many, All}
use Rattle.expression.specs.Token.{Class, Infix}
use Rattle.expression.specs.Tree.{Tree, reading, bracket, binary, prefix, Over}
use Rattle.disambiguation.specs.Edges.{shown_as_left_operand, shown_as_right_operand}
use Rattle.disambiguation.specs.Conflicts.{conflicts}
use Rattle.disambiguation.proofs.Conditions.{waits}
use Rattle.disambiguation.proofs.Agreement.{AgreeLeft, AgreeRight, seen_right_waits, seen_left_infix}
use Rattle.brackets.specs.SameMeaning.{bare}
use Rattle.brackets.specs.Enclosed.{around, left_of, right_of, enclosed}

-- A test holds of some element exactly where it counts one or more: what is known of counts is known of it.
any_counted : (p : ℕ → Bool) (xs : List ℕ) → any_holds p xs ≡ ltb 0 (how_many p xs)
any_counted p [] = refl
any_counted p (x ∷ xs) = go (p x) (any_counted p xs)
  where
    go : (b : Bool) → any_holds p xs ≡ ltb 0 (how_many p xs) → (b || any_holds p xs) ≡ ltb 0 (one_if b + how_many p xs)
    go true e = sym (lt-ltb 0 (1 + how_many p xs) (omega arith))
    go false e = e ∙ ap (ltb 0) (sym (zero-add (how_many p xs)))

pub none_counted : (p : ℕ → Bool) (xs : List ℕ) → any_holds p xs ≡ false → how_many p xs ≡ 0
none_counted p xs e = omega (arith, ltb-false 0 (how_many p xs) (sym (any_counted p xs) ∙ e))

pub counted_none : (p : ℕ → Bool) (xs : List ℕ) → how_many p xs ≡ 0 → any_holds p xs ≡ false
counted_none p xs e = any_counted p xs ∙ ap (ltb 0) e

-- tests that agree on what the elements are hold of some element together
pub any_agree : (P : ℕ → Type 0) (p q : ℕ → Bool) → ((b : ℕ) → P b → p b ≡ q b) → (xs : List ℕ) → All P xs → any_holds p xs ≡ any_holds q xs
any_agree P p q f [] h = refl
any_agree P p q f (x ∷ xs) h = ap₂ ◌||◌ (f x h.0) (any_agree P p q f xs h.1)

-- ---- a pair of brackets more or less
bare_around : (needed : Bool) (t : Tree) → bare (around needed t) ≡ bare t
bare_around true t = refl
bare_around false t = refl

over_around : (k : ℕ → Class) (needed : Bool) (t : Tree) → Over k t → Over k (around needed t)
over_around k true t h = h
over_around k false t h = h

-- with its brackets, an operand shows no conflict: nothing is seen through a bracket
shows_none : (seen : Tree → List ℕ) → ((t : Tree) → seen (bracket t) ≡ []) → (p : ℕ → Bool) (t : Tree) → how_many p (seen (around (any_holds p (seen t)) t)) ≡ 0
shows_none seen hidden p t = go (any_holds p (seen t)) (none_counted p (seen t))
  where
    go : (needed : Bool) → (needed ≡ false → how_many p (seen t) ≡ 0) → how_many p (seen (around needed t)) ≡ 0
    go true h = ap (how_many p) (hidden t)
    go false h = h refl

module _ (L R : ℕ → ℕ → Bool) where
  free_around : (needed : Bool) (t : Tree) → conflicts L R t ≡ 0 → conflicts L R (around needed t) ≡ 0
  free_around true t h = h
  free_around false t h = h

  -- ---- of the whole tree
  pub bare_enclosed : (t : Tree) → bare (enclosed L R t) ≡ bare t
  bare_enclosed (reading a) = refl
  bare_enclosed (bracket t) = bare_enclosed t
  bare_enclosed (binary o l r) =
      ap₂ (binary o) (bare_around (any_holds (L o) (shown_as_left_operand (enclosed L R l))) (enclosed L R l) ∙ bare_enclosed l)
      (bare_around (any_holds (R o) (shown_as_right_operand (enclosed L R r))) (enclosed L R r) ∙ bare_enclosed r)
  bare_enclosed (prefix p t) = ap (prefix p) (bare_around (any_holds (R p) (shown_as_right_operand (enclosed L R t))) (enclosed L R t) ∙ bare_enclosed t)

  pub over_enclosed : (k : ℕ → Class) (t : Tree) → Over k t → Over k (enclosed L R t)
  over_enclosed k (reading a) h = h
  over_enclosed k (bracket t) h = over_enclosed k t h
  over_enclosed k (binary o l r) h = (
    h.0,
    over_around k (any_holds (L o) (shown_as_left_operand (enclosed L R l))) (enclosed L R l) (over_enclosed k l h.1),
    over_around k (any_holds (R o) (shown_as_right_operand (enclosed L R r))) (enclosed L R r) (over_enclosed k r h.2),
  )
  over_enclosed k (prefix p t) h = (h.0, over_around k (any_holds (R p) (shown_as_right_operand (enclosed L R t))) (enclosed L R t) (over_enclosed k t h.1))

  pub enclosed_free : (t : Tree) → conflicts L R (enclosed L R t) ≡ 0
  enclosed_free (reading a) = refl
  enclosed_free (bracket t) = enclosed_free t
  enclosed_free (binary o l r) =
      omega (
        arith,
        shows_none shown_as_left_operand (λ t. refl) (L o) (enclosed L R l),
        shows_none shown_as_right_operand (λ t. refl) (R o) (enclosed L R r),
        free_around (any_holds (L o) (shown_as_left_operand (enclosed L R l))) (enclosed L R l) (enclosed_free l),
        free_around (any_holds (R o) (shown_as_right_operand (enclosed L R r))) (enclosed L R r) (enclosed_free r),
      )
  enclosed_free (prefix p t) =
      omega (
        arith,
        shows_none shown_as_right_operand (λ t. refl) (R p) (enclosed L R t),
        free_around (any_holds (R p) (shown_as_right_operand (enclosed L R t))) (enclosed L R t) (enclosed_free t),
      )

  -- the brackets that were there do not matter
  pub enclosed_bare : (t : Tree) → enclosed L R (bare t) ≡ enclosed L R t
  enclosed_bare (reading a) = refl
  enclosed_bare (bracket t) = enclosed_bare t
  enclosed_bare (binary o l r) = ap₂ (λ l r. binary o (left_of L R o l) (right_of L R o r)) (enclosed_bare l) (enclosed_bare r)
  enclosed_bare (prefix p t) = ap (λ u. prefix p (right_of L R p u)) (enclosed_bare t)

-- Relations that agree on the operators of a tree give it the same brackets.
module _ (k : ℕ → Class) (L R S T : ℕ → ℕ → Bool) (left : AgreeLeft k L S) (right : AgreeRight k R T) where
  left_needs : (o : ℕ) → k o ≡ Infix → (t : Tree) → Over k t → any_holds (L o) (shown_as_left_operand t) ≡ any_holds (S o) (shown_as_left_operand t)
  left_needs o ho t h = any_agree (λ a. waits (k a) ≡ true) (L o) (S o) (λ a. left o a ho) (shown_as_left_operand t) (seen_right_waits k t h)

  right_needs : (o : ℕ) → waits (k o) ≡ true → (t : Tree) → Over k t → any_holds (R o) (shown_as_right_operand t) ≡ any_holds (T o) (shown_as_right_operand t)
  right_needs o ho t h = any_agree (λ b. k b ≡ Infix) (R o) (T o) (λ b. right o b ho) (shown_as_right_operand t) (seen_left_infix k t h)

  pub enclosed_agree : (t : Tree) → Over k t → enclosed L R t ≡ enclosed S T t
  enclosed_agree (reading a) h = refl
  enclosed_agree (bracket t) h = enclosed_agree t h
  enclosed_agree (binary o l r) h =
      ap₂ (λ a b. binary o (around a (enclosed L R l)) (around b (enclosed L R r)))
      (left_needs o h.0 (enclosed L R l) (over_enclosed L R k l h.1))
      (right_needs o (ap waits h.0) (enclosed L R r) (over_enclosed L R k r h.2))
      ∙ ap₂ (λ l r. binary o (left_of S T o l) (right_of S T o r)) (enclosed_agree l h.1) (enclosed_agree r h.2)
  enclosed_agree (prefix p t) h =
      ap (λ b. prefix p (around b (enclosed L R t))) (right_needs p (ap waits h.0) (enclosed L R t) (over_enclosed L R k t h.1))
      ∙ ap (λ u. prefix p (right_of S T p u)) (enclosed_agree t h.1)
