-- Conflict-free as a statement, node by node, and what is known of edges. Assumes nothing.
use Prim.Native.Nat.{ℕ}
use native.Mathlib.Omega.{arith}
use mathlib.Core.Path.{◌≡◌, refl}
use mathlib.Core.Bool.{Bool, true, false}
use mathlib.Core.List.{List, [], ◌∷◌}
use Rattle.expression.specs.Lists.{one_if, how_many, All}
use Rattle.expression.specs.Tree.{Tree, reading, bracket, binary, prefix}
use Rattle.disambiguation.specs.Edges.{right_edge, prefixes, shown_as_left_operand, shown_as_right_operand}
use Rattle.disambiguation.specs.Conflicts.{conflicts}

pub is_false : (b : Bool) → (b ≡ true → ⊥) → b ≡ false
is_false true h = absurd (h refl)
is_false false h = refl

pub is_true : (b : Bool) → (b ≡ false → ⊥) → b ≡ true
is_true true h = refl
is_true false h = absurd (h refl)

-- what holds of every number holds of those in a list; and one by one from two lists of facts
pub all : {P : ℕ → Type 0} → ((x : ℕ) → P x) → (xs : List ℕ) → All P xs
all f [] = tt
all f (x ∷ xs) = (f x, all f xs)

pub all_map : {P Q S : ℕ → Type 0} → ((x : ℕ) → P x → Q x → S x) → (xs : List ℕ) → All P xs → All Q xs → All S xs
all_map f [] h g = tt
all_map f (x ∷ xs) h g = (f x h.0 g.0, all_map f xs h.1 g.1)

-- p holds of none of them
abbrev pub None : (ℕ → Bool) → List ℕ → Type 0
None p xs = All (λ x. p x ≡ false) xs

one_zero : (b : Bool) → one_if b ≡ 0 → b ≡ false
one_zero true h = absurd (omega arith)
one_zero false h = refl

none_of_count : (p : ℕ → Bool) (xs : List ℕ) → how_many p xs ≡ 0 → None p xs
none_of_count p [] h = tt
none_of_count p (x ∷ xs) h = (one_zero (p x) (omega arith), none_of_count p xs (omega arith))

count_of_none : (p : ℕ → Bool) (xs : List ℕ) → None p xs → how_many p xs ≡ 0
count_of_none p [] h = refl
count_of_none p (x ∷ xs) h = rw (h.0, count_of_none p xs h.1)

module _ (L R : ℕ → ℕ → Bool) where
  -- no node shows an excluded pattern on either side
  abbrev pub Free : Tree → Type 0
  Free (reading a) = Unit {0}
  Free (bracket t) = Free t
  Free (binary o l r) = None (L o) (shown_as_left_operand l) × None (R o) (shown_as_right_operand r) × Free l × Free r
  Free (prefix p t) = None (R p) (shown_as_right_operand t) × Free t

  pub free_of_count : (t : Tree) → conflicts L R t ≡ 0 → Free t
  free_of_count (reading a) h = tt
  free_of_count (bracket t) h = free_of_count t h
  free_of_count (binary o l r) h =
      (none_of_count (L o) (shown_as_left_operand l) (omega arith), none_of_count (R o) (shown_as_right_operand r) (omega arith), free_of_count l (omega arith), free_of_count r (omega arith))
  free_of_count (prefix p t) h = (none_of_count (R p) (shown_as_right_operand t) (omega arith), free_of_count t (omega arith))

  pub count_of_free : (t : Tree) → Free t → conflicts L R t ≡ 0
  count_of_free (reading a) h = refl
  count_of_free (bracket t) h = count_of_free t h
  count_of_free (binary o l r) h =
      rw (count_of_none (L o) (shown_as_left_operand l) h.0, count_of_none (R o) (shown_as_right_operand r) h.1, count_of_free l h.2, count_of_free r h.3)
  count_of_free (prefix p t) h = rw (count_of_none (R p) (shown_as_right_operand t) h.0, count_of_free t h.1)

-- what is seen of an edge is on the edge
prefixes_on_edge : (P : ℕ → Type 0) (t : Tree) → All P (right_edge t) → All P (prefixes t)
prefixes_on_edge P (reading a) h = tt
prefixes_on_edge P (bracket t) h = tt
prefixes_on_edge P (binary o l r) h = prefixes_on_edge P r h.1
prefixes_on_edge P (prefix p t) h = (h.0, prefixes_on_edge P t h.1)

pub seen_on_edge : (P : ℕ → Type 0) (t : Tree) → All P (right_edge t) → All P (shown_as_left_operand t)
seen_on_edge P (reading a) h = tt
seen_on_edge P (bracket t) h = tt
seen_on_edge P (binary o l r) h = (h.0, prefixes_on_edge P r h.1)
seen_on_edge P (prefix p t) h = (h.0, prefixes_on_edge P t h.1)
