-- A tree with at most two operators is one of two: the row alone tells which trees there are. Assumes nothing.
use Prim.Native.Nat.{ℕ, zero, suc, ◌+◌, ◌<◌}
use native.Mathlib.Omega.{arith}
use mathlib.Core.Path.{◌≡◌, refl, ap, sym, ◌∙◌}
use mathlib.Core.Bool.{Bool, true, false}
use mathlib.Core.Logic.{◌⊎◌, inl, inr}
use mathlib.Core.List.{[], ◌∷◌}
use Rattle.expression.specs.Lists.{one_if, how_many, All}
use Rattle.expression.specs.Token.{Class, Infix, Prefix, Opening, Closing, Reading, opening, closing}
use Rattle.expression.specs.Tree.{Tree, reading, bracket, binary, prefix, yield, Over}
use Rattle.expression.proofs.Classes.{Brackets}
use Rattle.expression.proofs.Lengths.{count_append}
use Rattle.disambiguation.specs.Edges.{right_edge, left_edge}
use Rattle.disambiguation.proofs.Free.{all}
use Rattle.disambiguation.proofs.Conditions.{waits}
use Rattle.disambiguation.proofs.Follows.{Follows, follows_unique}

abbrev pub operators : Tree → ℕ
operators (reading a) = 0
operators (bracket t) = operators t
operators (binary o l r) = suc (operators l + operators r)
operators (prefix p t) = suc (operators t)

-- a tree without operators has bare edges
bare_right : (P : ℕ → Type 0) (t : Tree) → operators t ≡ 0 → All P (right_edge t)
bare_right P (reading a) h = tt
bare_right P (bracket t) h = tt
bare_right P (binary o l r) h = absurd (omega arith)
bare_right P (prefix p t) h = absurd (omega arith)

bare_left : (P : ℕ → Type 0) (t : Tree) → operators t ≡ 0 → All P (left_edge t)
bare_left P (reading a) h = tt
bare_left P (bracket t) h = tt
bare_left P (binary o l r) h = absurd (omega arith)
bare_left P (prefix p t) h = tt

-- with one operator at most, it follows every relation
one_follows : (closes : ℕ → ℕ → Bool) (t : Tree) → operators t < 2 → Follows closes t
one_follows closes (reading a) h = tt
one_follows closes (bracket t) h = one_follows closes t h
one_follows closes (binary o l r) h = (
  bare_right (λ p. closes p o ≡ true) l (omega arith),
  bare_left (λ p. closes o p ≡ false) r (omega arith),
  one_follows closes l (omega arith),
  one_follows closes r (omega arith),
)
one_follows closes (prefix p t) h = (bare_left (λ x. closes p x ≡ false) t (omega arith), one_follows closes t (omega arith))

-- the relations by which nothing, or everything, closes before what comes
abbrev pub always : Bool → ℕ → ℕ → Bool
always b a c = b

-- with two at most, it follows one of these
pub two_follow : (t : Tree) → operators t < 3 → Follows (always false) t ⊎ Follows (always true) t
two_follow (reading a) h = inl tt
two_follow (bracket t) h = two_follow t h
two_follow (binary o l r) h = go (operators l) refl
  where
    go : (m : ℕ) → operators l ≡ m → Follows (always false) (binary o l r) ⊎ Follows (always true) (binary o l r)
    go zero e =
        inl (bare_right (λ p. false ≡ true) l e, all (λ p. refl) (left_edge r), one_follows (always false) l (omega arith), one_follows (always false) r (omega arith))
    go (suc m) e =
        inr (all (λ p. refl) (right_edge l), bare_left (λ p. true ≡ false) r (omega arith), one_follows (always true) l (omega arith), one_follows (always true) r (omega arith))
two_follow (prefix p t) h = inl (all (λ x. refl) (left_edge t), one_follows (always false) t (omega arith))

module _ (k : ℕ → Class) (brackets : Brackets k) where
  abbrev is_operator : ℕ → Bool
  is_operator c = waits (k c)

  one_operator : (c : ℕ) (x : Class) → k c ≡ x → one_if (is_operator c) ≡ one_if (waits x)
  one_operator c x e = ap (λ y. one_if (waits y)) e

  operators_yield : (t : Tree) → Over k t → how_many is_operator (yield t) ≡ operators t
  operators_yield (reading a) h = omega (arith, one_operator a Reading h)
  operators_yield (bracket t) h =
      omega (arith, one_operator opening Opening brackets.opens, one_operator closing Closing brackets.closes, count_append is_operator (yield t) (closing ∷ []), operators_yield t h)
  operators_yield (binary o l r) h =
      omega (arith, one_operator o Infix h.0, count_append is_operator (yield l) (o ∷ yield r), operators_yield l h.1, operators_yield r h.2)
  operators_yield (prefix p t) h = omega (arith, one_operator p Prefix h.0, operators_yield t h.1)

  -- Of the trees with u's yield, where u has two operators at most: each is u or v, which follow the two relations.
  pub one_of_two : (u v : Tree) → Over k u → Over k v → yield u ≡ yield v → operators u < 3 → Follows (always false) u → Follows (always true) v
      → (t : Tree) → Over k t → yield t ≡ yield u → (t ≡ u) ⊎ (t ≡ v)
  one_of_two u v hu hv e few fu fv t ht q = go (two_follow t (omega (arith, few, same)))
    where
      same : operators t ≡ operators u
      same = sym (operators_yield t ht) ∙ ap (how_many is_operator) q ∙ operators_yield u hu

      go : Follows (always false) t ⊎ Follows (always true) t → (t ≡ u) ⊎ (t ≡ v)
      go (inl f) = inl (follows_unique (always false) k brackets t u ht hu f fu q)
      go (inr f) = inr (follows_unique (always true) k brackets t v ht hv f fv (q ∙ e))
