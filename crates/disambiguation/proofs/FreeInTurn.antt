-- A conflict is between two operators, one before the other in turn; so a tree is conflict-free under relations that exclude no more there. Assumes nothing.
use Prim.Native.Nat.{ℕ}
use mathlib.Core.Path.{◌≡◌}
use mathlib.Core.Bool.{Bool, false}
use mathlib.Core.List.{List, [], ◌∷◌}
use Rattle.expression.specs.Lists.{All}
use Rattle.expression.specs.Tree.{Tree, reading, bracket, binary, prefix}
use Rattle.disambiguation.specs.Edges.{prefixes, on_top, shown_as_left_operand}
use Rattle.disambiguation.proofs.Free.{all_map, Free}
use Rattle.disambiguation.proofs.InTurn.{Pairs, all_right, pairs_left, pairs_right, pairs_before, in_turn, on_top_lem}

-- ---- a conflict is between two operators, the one in turn before the other
prefixes_in_turn : (P : ℕ → Type 0) (t : Tree) → All P (in_turn t) → All P (prefixes t)
prefixes_in_turn P (reading a) h = tt
prefixes_in_turn P (bracket t) h = tt
prefixes_in_turn P (binary o l r) h = prefixes_in_turn P r (all_right P (in_turn l) (o ∷ in_turn r) h).1
prefixes_in_turn P (prefix p t) h = (h.0, prefixes_in_turn P t h.1)

seen_in_turn : (P : ℕ → Type 0) (t : Tree) → All P (in_turn t) → All P (shown_as_left_operand t)
seen_in_turn P (reading a) h = tt
seen_in_turn P (bracket t) h = tt
seen_in_turn P (binary o l r) h = let (top, behind) = all_right P (in_turn l) (o ∷ in_turn r) h in (top, prefixes_in_turn P r behind)
seen_in_turn P (prefix p t) h = (h.0, prefixes_in_turn P t h.1)

-- From relations to others that exclude no more there.
module _ (L R L' R' : ℕ → ℕ → Bool) where
  -- q may still have p on its left; p may still have q on its right; both
  abbrev pub OnLeft : ℕ → ℕ → Type 0
  OnLeft p q = L q p ≡ false → L' q p ≡ false

  abbrev pub OnRight : ℕ → ℕ → Type 0
  OnRight p q = R p q ≡ false → R' p q ≡ false

  abbrev pub Either : ℕ → ℕ → Type 0
  Either p q = OnLeft p q × OnRight p q

  -- a node is as free as it was, told of its own pairs and of its operands
  node_free : (o : ℕ) (l r : Tree) → All (λ p. OnLeft p o) (in_turn l) → All (OnRight o) (in_turn r) → Free L' R' l → Free L' R' r → Free L R (binary o l r)
      → Free L' R' (binary o l r)
  node_free o l r hl hr fl fr f = (
    all_map (λ p x e. x e) (shown_as_left_operand l) (seen_in_turn (λ p. OnLeft p o) l hl) f.0,
    all_map (λ q x e. x e) (on_top r) (on_top_lem (OnRight o) r hr) f.1,
    fl,
    fr,
  )

  prefix_free : (p : ℕ) (t : Tree) → All (OnRight p) (in_turn t) → Free L' R' t → Free L R (prefix p t) → Free L' R' (prefix p t)
  prefix_free p t h ft f = (all_map (λ q x e. x e) (on_top t) (on_top_lem (OnRight p) t h) f.0, ft)

  all_of : {P Q : ℕ → Type 0} → ((x : ℕ) → P x → Q x) → (xs : List ℕ) → All P xs → All Q xs
  all_of f [] h = tt
  all_of f (x ∷ xs) h = (f x h.0, all_of f xs h.1)

  free_of_pairs : (t : Tree) → Pairs Either (in_turn t) → Free L R t → Free L' R' t
  free_of_pairs (reading a) h f = tt
  free_of_pairs (bracket t) h f = free_of_pairs t h f
  free_of_pairs (binary o l r) h f =
      let (beside, behind) = pairs_right Either (in_turn l) (o ∷ in_turn r) h in
      node_free o l r (all_of (λ p x. x.0) (in_turn l) (pairs_before Either (in_turn l) o (in_turn r) h)) (all_of (λ q x. x.1) (in_turn r) beside)
      (free_of_pairs l (pairs_left Either (in_turn l) (o ∷ in_turn r) h) f.2) (free_of_pairs r behind f.3) f
  free_of_pairs (prefix p t) h f = prefix_free p t (all_of (λ q x. x.1) (in_turn t) h.0) (free_of_pairs t h.1 f.1) f

  -- ---- three operators in turn, and which of them is on top
  module _ (a b c : ℕ) where
    pub first_on_top : OnRight a b → OnRight a c → Either b c → (l r : Tree) → in_turn l ≡ [] → in_turn r ≡ b ∷ c ∷ [] → Free L R (binary a l r)
        → Free L' R' (binary a l r)
    first_on_top ab ac bc l r el er f =
        node_free a l r (rw el tt) (rw er (ab, (ac, tt))) (free_of_pairs l (rw el tt) f.2) (free_of_pairs r (rw er ((bc, tt), (tt, tt))) f.3) f

    pub prefix_on_top : OnRight a b → OnRight a c → Either b c → (t : Tree) → in_turn t ≡ b ∷ c ∷ [] → Free L R (prefix a t) → Free L' R' (prefix a t)
    prefix_on_top ab ac bc t e f = prefix_free a t (rw e (ab, (ac, tt))) (free_of_pairs t (rw e ((bc, tt), (tt, tt))) f.1) f

    pub second_on_top : OnLeft a b → OnRight b c → (l r : Tree) → in_turn l ≡ a ∷ [] → in_turn r ≡ c ∷ [] → Free L R (binary b l r) → Free L' R' (binary b l r)
    second_on_top ab bc l r el er f =
        node_free b l r (rw el (ab, tt)) (rw er (bc, tt)) (free_of_pairs l (rw el (tt, tt)) f.2) (free_of_pairs r (rw er (tt, tt)) f.3) f

    pub third_on_top : Either a b → OnLeft a c → OnLeft b c → (l r : Tree) → in_turn l ≡ a ∷ b ∷ [] → in_turn r ≡ [] → Free L R (binary c l r)
        → Free L' R' (binary c l r)
    third_on_top ab ac bc l r el er f =
        node_free c l r (rw el (ac, (bc, tt))) (rw er tt) (free_of_pairs l (rw el ((ab, tt), (tt, tt))) f.2) (free_of_pairs r (rw er tt) f.3) f
