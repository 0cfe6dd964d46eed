-- Relations that agree on the operators of a tree give it one conflict count. Assumes nothing.
use Prim.Native.Nat.{ℕ}
use mathlib.Core.Path.{◌≡◌, refl, ap}
use mathlib.Core.Bool.{Bool, true}
use mathlib.Core.List.{List, [], ◌∷◌}
use Rattle.expression.specs.Lists.{how_many, All}
use Rattle.expression.specs.Token.{Class, Infix}
use Rattle.expression.specs.Tree.{Tree, reading, bracket, binary, prefix, Over}
use Rattle.disambiguation.specs.Edges.{shown_as_left_operand, shown_as_right_operand}
use Rattle.disambiguation.specs.Conflicts.{conflicts}
use Rattle.disambiguation.proofs.Free.{seen_on_edge}
use Rattle.disambiguation.proofs.Conditions.{waits, right_edge_waits}

module _ (k : ℕ → Class) where
  -- the relations agree wherever a pattern asks: on what waits below an infix operator on its left, and on an infix operator below what waits
  abbrev pub AgreeLeft : (ℕ → ℕ → Bool) → (ℕ → ℕ → Bool) → Type 0
  AgreeLeft L S = (b a : ℕ) → k b ≡ Infix → waits (k a) ≡ true → L b a ≡ S b a

  abbrev pub AgreeRight : (ℕ → ℕ → Bool) → (ℕ → ℕ → Bool) → Type 0
  AgreeRight R T = (a b : ℕ) → waits (k a) ≡ true → k b ≡ Infix → R a b ≡ T a b

  pub seen_right_waits : (t : Tree) → Over k t → All (λ o. waits (k o) ≡ true) (shown_as_left_operand t)
  seen_right_waits t h = seen_on_edge (λ o. waits (k o) ≡ true) t (right_edge_waits k t h)

  pub seen_left_infix : (t : Tree) → Over k t → All (λ o. k o ≡ Infix) (shown_as_right_operand t)
  seen_left_infix (reading a) h = tt
  seen_left_infix (bracket t) h = tt
  seen_left_infix (binary o l r) h = (h.0, tt)
  seen_left_infix (prefix p t) h = tt

  pub count_agree : (P : ℕ → Type 0) (p q : ℕ → Bool) → ((b : ℕ) → P b → p b ≡ q b) → (xs : List ℕ) → All P xs → how_many p xs ≡ how_many q xs
  count_agree P p q f [] h = refl
  count_agree P p q f (x ∷ xs) h = rw (f x h.0, count_agree P p q f xs h.1)

  pub conflicts_agree : (L R S T : ℕ → ℕ → Bool) → AgreeLeft L S → AgreeRight R T → (t : Tree) → Over k t → conflicts L R t ≡ conflicts S T t
  conflicts_agree L R S T f g (reading a) h = refl
  conflicts_agree L R S T f g (bracket t) h = conflicts_agree L R S T f g t h
  conflicts_agree L R S T f g (binary o l r) h =
      rw (
        count_agree (λ a. waits (k a) ≡ true) (L o) (S o) (λ a. f o a h.0) (shown_as_left_operand l) (seen_right_waits l h.1),
        count_agree (λ b. k b ≡ Infix) (R o) (T o) (λ b. g o b (ap waits h.0)) (shown_as_right_operand r) (seen_left_infix r h.2),
        conflicts_agree L R S T f g l h.1,
        conflicts_agree L R S T f g r h.2,
      )
  conflicts_agree L R S T f g (prefix p t) h =
      rw (
        count_agree (λ b. k b ≡ Infix) (R p) (T p) (λ b. g p b (ap waits h.0)) (shown_as_right_operand t) (seen_left_infix t h.1),
        conflicts_agree L R S T f g t h.1,
      )
