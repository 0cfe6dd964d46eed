-- What the left-to-right machine needs of a tree, and that it makes of such a tree's yield that very tree. Assumes nothing.
use Prim.Native.Nat.{ℕ}
use mathlib.Core.Path.{◌≡◌, refl, ap, sym, ◌∙◌}
use mathlib.Core.Bool.{Bool, true}
use mathlib.Core.Option.{some, some-injective}
use mathlib.Core.List.{[], ◌∷◌, ◌++◌}
use Rattle.expression.specs.Lists.{All}
use Rattle.expression.specs.Token.{Class, opening, closing}
use Rattle.expression.specs.Tree.{Tree, reading, bracket, binary, prefix, yield, Over}
use Rattle.expression.proofs.Classes.{Brackets}
use Rattle.disambiguation.specs.Edges.{right_edge, left_edge}
use Rattle.disambiguation.specs.LeftToRight.{after, ahead, Stack, bottom, opened, waiting, due, have, close, everything, whole, finish, where_due, before, run, parse}
use Rattle.disambiguation.proofs.Free.{all, None}
use Rattle.disambiguation.proofs.LeftToRight.{run_append, Holds}

-- t with its right edge open on the stack, and the operand at the edge's end
abbrev laid : Tree → Stack → Stack
laid (reading a) s = s
laid (bracket t) s = s
laid (binary o l r) s = laid r (waiting (after l o) s)
laid (prefix p t) s = laid t (waiting (ahead p) s)

abbrev last_operand : Tree → Tree
last_operand (reading a) = reading a
last_operand (bracket t) = bracket t
last_operand (binary o l r) = last_operand r
last_operand (prefix p t) = last_operand t

close_laid : (p : ℕ → Bool) (t : Tree) (s : Stack) → All (λ a. p a ≡ true) (right_edge t) → close p (laid t s) (last_operand t) ≡ close p s t
close_laid p (reading a) s h = refl
close_laid p (bracket t) s h = refl
close_laid p (binary o l r) s h = close_laid p r (waiting (after l o) s) h.1 ∙ rw h.0
close_laid p (prefix o t) s h = close_laid p t (waiting (ahead o) s) h.1 ∙ rw h.0

close_everything : (t : Tree) (s : Stack) → close everything (laid t s) (last_operand t) ≡ close everything s t
close_everything t s = close_laid everything t s (all (λ a. refl) (right_edge t))

-- What the machine needs of a tree: before each operator all of its left operand's right edge closes, and it closes before nothing on the left edge of its right or only operand.
abbrev pub Follows : (ℕ → ℕ → Bool) → Tree → Type 0
Follows closes (reading a) = Unit {0}
Follows closes (bracket t) = Follows closes t
Follows closes (binary o l r) = All (λ p. closes p o ≡ true) (right_edge l) × None (closes o) (left_edge r) × Follows closes l × Follows closes r
Follows closes (prefix p t) = None (closes p) (left_edge t) × Follows closes t

module _ (closes : ℕ → ℕ → Bool) where
  close_holds : (b : ℕ) (s : Stack) (t : Tree) → Holds closes s b → close (before closes b) s t ≡ (s, t)
  close_holds b bottom t h = refl
  close_holds b (opened s) t h = refl
  close_holds b (waiting f s) t h = rw h

  -- b closes the edge of t, and nothing below it
  close_edge : (b : ℕ) (t : Tree) (s : Stack) → All (λ a. closes a b ≡ true) (right_edge t) → Holds closes s b
      → close (before closes b) (laid t s) (last_operand t) ≡ (s, t)
  close_edge b t s h hs = close_laid (before closes b) t s h ∙ close_holds b s t hs

  module _ (k : ℕ → Class) (brackets : Brackets k) where
    run_yield : (t : Tree) → Over k t → Follows closes t → (s : Stack) → All (Holds closes s) (left_edge t)
        → run closes k (yield t) (due s) ≡ have (laid t s) (last_operand t)
    run_yield (reading a) ht ft s h = rw ht
    run_yield (bracket t) ht ft s h =
        ap (λ x. run closes k (yield t ++ (closing ∷ [])) (where_due x opening s)) brackets.opens
        ∙ run_append closes k (yield t) (closing ∷ []) (due (opened s))
        ∙ ap (run closes k (closing ∷ [])) (run_yield t ht ft (opened s) (all (λ o. tt) (left_edge t)))
        ∙ rw (brackets.closes, close_everything t (opened s))
    run_yield (binary o l r) ht ft s h =
        run_append closes k (yield l) (o ∷ yield r) (due s)
        ∙ ap (run closes k (o ∷ yield r)) (run_yield l ht.1 ft.2 s h.1)
        ∙ ap (run closes k (yield r)) (rw (ht.0, close_edge o l s ft.0 h.0))
        ∙ run_yield r ht.2 ft.3 (waiting (after l o) s) ft.1
    run_yield (prefix p t) ht ft s h =
        ap (λ x. run closes k (yield t) (where_due x p s)) ht.0 ∙ run_yield t ht.1 ft.1 (waiting (ahead p) s) ft.0

    pub parse_follows : (t : Tree) → Over k t → Follows closes t → parse closes k (yield t) ≡ some t
    unfolding parse
    parse_follows t ht ft = ap finish (run_yield t ht ft bottom (all (λ o. tt) (left_edge t))) ∙ ap (λ x. whole x.0 x.1) (close_everything t bottom)

    pub follows_unique : (t u : Tree) → Over k t → Over k u → Follows closes t → Follows closes u → yield t ≡ yield u → t ≡ u
    follows_unique t u ht hu ft fu e = some-injective t u (sym (parse_follows t ht ft) ∙ ap (parse closes k) e ∙ parse_follows u hu fu)
