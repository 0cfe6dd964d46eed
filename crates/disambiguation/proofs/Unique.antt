-- Two conflict-free trees with one yield are equal, under a sheet that is total, transitive and cotransitive. Assumes nothing.
use Prim.Native.Nat.{ℕ}
use mathlib.Core.Path.{◌≡◌, ap, subst}
use mathlib.Core.List.{◌∷◌}
use mathlib.Core.Bool.{Bool, true, false}
use Rattle.expression.specs.Lists.{All}
use Rattle.expression.specs.Token.{Class, Infix}
use Rattle.expression.specs.Tree.{Tree, reading, bracket, binary, prefix, yield, Over}
use Rattle.expression.proofs.Classes.{Brackets}
use Rattle.disambiguation.specs.Edges.{right_edge, left_edge, prefixes, shown_as_left_operand, shown_as_right_operand}
use Rattle.disambiguation.specs.Conflicts.{conflicts}
use Rattle.disambiguation.proofs.Free.{is_false, is_true, all_map, None, Free, free_of_count, seen_on_edge}
use Rattle.disambiguation.proofs.Conditions.{waits, takes, Total, Transitive, Cotransitive, right_edge_waits}
use Rattle.disambiguation.proofs.Follows.{Follows, follows_unique}
use Rattle.disambiguation.proofs.InTurn.{Pairs, Triples, pairs_right, pairs_before, triples_left, triples_right, triples_before, every_triple, in_turn, on_top_lem, same_in_turn}

-- Transitivity and its opposite are needed of the operators of a row alone, each three in their order: of those that are `Good`.
module _ (L R : ℕ → ℕ → Bool) (k : ℕ → Class) (total : Total L R k) (Good : ℕ → ℕ → ℕ → Type 0)
    (trans : (a b c : ℕ) → Good a b c → waits (k a) ≡ true → k b ≡ Infix → takes (k c) ≡ true → R a b ≡ true → R b c ≡ true → R a c ≡ false → ⊥)
    (cotrans : (a b c : ℕ) → Good a b c → waits (k a) ≡ true → k b ≡ Infix → k c ≡ Infix → R a b ≡ false → R b c ≡ false → R a c ≡ true → ⊥) where
  -- Down a right edge: if p closes before o and may keep what it sees of t, an operator on top of t closes before o, as the prefix operators do.
  seen_closes : (o : ℕ) → k o ≡ Infix → (p : ℕ) → waits (k p) ≡ true → R p o ≡ true → (t : Tree) → Over k t → All (λ q. Good p q o) (in_turn t) → None (R p) (shown_as_right_operand t)
      → All (λ q. R q o ≡ true) (prefixes t) → All (λ q. R q o ≡ true) (shown_as_left_operand t)
  seen_closes o ho p hp e (reading a) ht gd h g = tt
  seen_closes o ho p hp e (bracket t) ht gd h g = tt
  seen_closes o ho p hp e (binary q l r) ht gd h g =
      (is_true (R q o) (λ f. cotrans p q o (on_top_lem (λ q. Good p q o) (binary q l r) gd).0 hp ht.0 ho h.0 f e), g)
  seen_closes o ho p hp e (prefix q t) ht gd h g = g

  edge_closes : (o : ℕ) → k o ≡ Infix → (t : Tree) → Over k t → Pairs (λ p q. Good p q o) (in_turn t) → Free L R t → All (λ p. R p o ≡ true) (shown_as_left_operand t)
      → All (λ p. R p o ≡ true) (right_edge t)
  edge_closes o ho (reading a) ht gd ft h = tt
  edge_closes o ho (bracket t) ht gd ft h = tt
  edge_closes o ho (binary p l r) ht gd ft h =
      let (beside, behind) = pairs_right (λ p q. Good p q o) (in_turn l) (p ∷ in_turn r) gd in
      (h.0, edge_closes o ho r ht.2 behind ft.3 (seen_closes o ho p (ap waits ht.0) h.0 r ht.2 beside ft.1 h.1))
  edge_closes o ho (prefix p t) ht gd ft h =
      (h.0, edge_closes o ho t ht.1 gd.1 ft.1 (seen_closes o ho p (ap waits ht.0) h.0 t ht.1 gd.0 ft.0 h.1))

  -- what o may have on its left closes before it
  operand_closes : (o : ℕ) → k o ≡ Infix → (t : Tree) → Over k t → Pairs (λ p q. Good p q o) (in_turn t) → Free L R t → None (L o) (shown_as_left_operand t)
      → All (λ p. R p o ≡ true) (right_edge t)
  operand_closes o ho t ht gd ft h =
      edge_closes o ho t ht gd ft
      (all_map (λ p hp e. is_true (R p o) (λ f. total p o hp (ap takes ho) f e)) (shown_as_left_operand t)
      (seen_on_edge (λ p. waits (k p) ≡ true) t (right_edge_waits k t ht)) h)

  -- Down a left edge: if a does not close before c, it closes before nothing that it sees of c's left operand.
  seen_holds : (a : ℕ) → waits (k a) ≡ true → (c : ℕ) → takes (k c) ≡ true → R a c ≡ false → (t : Tree) → Over k t → All (λ p. Good a p c) (in_turn t)
      → All (λ p. R p c ≡ true) (right_edge t) → None (R a) (shown_as_right_operand t)
  seen_holds a ha c hc e (reading x) ht gd h = tt
  seen_holds a ha c hc e (bracket t) ht gd h = tt
  seen_holds a ha c hc e (binary p l r) ht gd h = (is_false (R a p) (λ f. trans a p c (on_top_lem (λ p. Good a p c) (binary p l r) gd).0 ha ht.0 hc f h.0 e), tt)
  seen_holds a ha c hc e (prefix p t) ht gd h = tt

  edge_holds : (a : ℕ) → waits (k a) ≡ true → (t : Tree) → Over k t → Triples Good (a ∷ in_turn t) → Free L R t → None (R a) (shown_as_right_operand t) → None (R a) (left_edge t)
  edge_holds a ha (reading x) ht gd ft h = tt
  edge_holds a ha (bracket t) ht gd ft h = tt
  edge_holds a ha (binary o l r) ht gd ft h =
      let gl = triples_left Good (a ∷ in_turn l) (o ∷ in_turn r) gd in (
        h.0,
        edge_holds a ha l ht.1 gl ft.2
            (seen_holds a ha o (ap takes ht.0) h.0 l ht.1 (pairs_before (Good a) (in_turn l) o (in_turn r) gd.0)
            (operand_closes o ht.0 l ht.1 (triples_before Good (in_turn l) o (in_turn r) gd.1) ft.2 ft.0)),
      )
  edge_holds a ha (prefix p t) ht gd ft h = tt

  pub free_follows : (t : Tree) → Over k t → Triples Good (in_turn t) → Free L R t → Follows R t
  free_follows (reading a) ht gd ft = tt
  free_follows (bracket t) ht gd ft = free_follows t ht gd ft
  free_follows (binary o l r) ht gd ft =
      let gr = triples_right Good (in_turn l) (o ∷ in_turn r) gd in (
        operand_closes o ht.0 l ht.1 (triples_before Good (in_turn l) o (in_turn r) gd) ft.2 ft.0,
        edge_holds o (ap waits ht.0) r ht.2 gr ft.3 ft.1,
        free_follows l ht.1 (triples_left Good (in_turn l) (o ∷ in_turn r) gd) ft.2,
        free_follows r ht.2 gr.1 ft.3,
      )
  free_follows (prefix p t) ht gd ft = (edge_holds p (ap waits ht.0) t ht.1 gd ft.1 ft.0, free_follows t ht.1 gd.1 ft.1)

  -- of one row
  pub unique_in_row : Brackets k → (t u : Tree) → Over k t → Over k u → Triples Good (in_turn t) → conflicts L R t ≡ 0 → conflicts L R u ≡ 0 → yield t ≡ yield u → t ≡ u
  unique_in_row brackets t u ht hu gd et eu e =
      follows_unique R k brackets t u ht hu (free_follows t ht gd (free_of_count L R t et))
      (free_follows u hu (subst (λ os. Triples Good os) (same_in_turn k brackets t u ht hu e) gd) (free_of_count L R u eu)) e

module _ (L R : ℕ → ℕ → Bool) (k : ℕ → Class) (total : Total L R k) (trans : Transitive R k) (cotrans : Cotransitive R k) where
  -- any three are good
  abbrev Any : ℕ → ℕ → ℕ → Type 0
  Any a b c = Unit {0}

  pub conflict_free_follows : (t : Tree) → Over k t → conflicts L R t ≡ 0 → Follows R t
  conflict_free_follows t ht h =
      free_follows L R k total Any (λ a b c _. trans a b c) (λ a b c _. cotrans a b c) t ht (every_triple Any (λ a b c. tt) (in_turn t)) (free_of_count L R t h)

  pub unique : Brackets k → (t u : Tree) → Over k t → Over k u → conflicts L R t ≡ 0 → conflicts L R u ≡ 0 → yield t ≡ yield u → t ≡ u
  unique brackets t u ht hu et eu = follows_unique R k brackets t u ht hu (conflict_free_follows t ht et) (conflict_free_follows u hu eu)
