-- What holds of the tree and the operators that wait while a row is read from the left. Assumes nothing.
use Prim.Native.Nat.{ℕ}
use mathlib.Core.Path.{◌≡◌, refl, ap, sym, ◌∙◌}
use mathlib.Core.Bool.{Bool, false, not}
use mathlib.Core.List.{List, [], ◌∷◌, ◌++◌, append_assoc}
use Rattle.expression.specs.Lists.{All}
use Rattle.expression.specs.Token.{Class, Infix, Prefix, opening}
use Rattle.expression.specs.Tree.{Tree, reading, bracket, binary, prefix, yield, Over}
use Rattle.expression.proofs.Cond.{by_cond}
use Rattle.disambiguation.specs.Edges.{right_edge, shown_as_left_operand, shown_as_right_operand}
use Rattle.disambiguation.specs.LeftToRight.{Pending, after, ahead, operator_of, fill, Stack, bottom, opened, waiting, close, remains, everything, before}
use Rattle.disambiguation.proofs.Free.{None, Free}
use Rattle.disambiguation.proofs.LeftToRight.{close_keeps, Holds}

-- an operand that shows no operator
abbrev pub Bare : Tree → Type 0
Bare (reading a) = Unit {0}
Bare (bracket t) = Unit {0}
Bare (binary o l r) = ⊥
Bare (prefix p t) = ⊥

pub bare_right : (P : ℕ → Type 0) (t : Tree) → Bare t → All P (right_edge t)
bare_right P (reading a) h = tt
bare_right P (bracket t) h = tt
bare_right P (binary o l r) h = absurd h
bare_right P (prefix p t) h = absurd h

-- the tokens that a stack stands for
abbrev pub tokens_of : Stack → List ℕ
tokens_of bottom = []
tokens_of (opened s) = tokens_of s ++ (opening ∷ [])
tokens_of (waiting (after l o) s) = tokens_of s ++ (yield l ++ (o ∷ []))
tokens_of (waiting (ahead p) s) = tokens_of s ++ (p ∷ [])

-- a waiting operator, its left operand and what comes after it
pub tokens_waiting : (l : Tree) (o : ℕ) (s : Stack) (rest : List ℕ) → tokens_of (waiting (after l o) s) ++ rest ≡ tokens_of s ++ (yield l ++ o ∷ rest)
tokens_waiting l o s rest =
    append_assoc (tokens_of s) (yield l ++ (o ∷ [])) rest ∙ ap (λ x. tokens_of s ++ x) (append_assoc (yield l) (o ∷ []) rest)

-- what closing leaves alone: the stack without the operators that wait since the last open bracket
abbrev pub base : Stack → Stack
base = remains everything

pub base_close : (p : ℕ → Bool) (s : Stack) (t : Tree) → base (close p s t).0 ≡ base s
base_close p s t = close_keeps (λ x y. base x ≡ base s) (λ f x y e. e) p s t refl

module _ (closes : ℕ → ℕ → Bool) where
  -- operator b may not have a on its left unless a closes before b
  abbrev pub yields : ℕ → ℕ → Bool
  yields b a = not (closes a b)

  module _ (k : ℕ → Class) where
    -- each infix operator that waits has a conflict-free left operand, which it may keep, and may itself stand right of the one that waits before it
    abbrev pub Good : Stack → Type 0
    Good bottom = Unit {0}
    Good (opened s) = Good s
    Good (waiting (after l o) s) = (k o ≡ Infix) × Over k l × Free yields closes l × None (yields o) (shown_as_left_operand l) × Holds closes s o × Good s
    Good (waiting (ahead p) s) = (k p ≡ Prefix) × Good s

    -- the tree t after the stack, made of the tokens
    pub record Stands (s : Stack) (t : Tree) (tokens : List ℕ) : Type 0 where
      pub over : Over k t
      pub free : Free yields closes t
      pub held : All (Holds closes s) (shown_as_right_operand t)
      pub good : Good s
      pub reads : tokens_of s ++ yield t ≡ tokens

    filled : (f : Pending) (s : Stack) (t : Tree) (tokens : List ℕ) → Stands (waiting f s) t tokens → Stands s (fill f t) tokens
    filled (after l o) s t tokens h =
        let g = h.good in
        record {
          over = (g.0, g.1, h.over);
          free = (g.3, h.held, g.2, h.free);
          held = (g.4, tt);
          good = g.5;
          reads = sym (tokens_waiting l o s (yield t)) ∙ h.reads;
        }
    filled (ahead p) s t tokens h =
        record {
          over = (h.good.0, h.over);
          free = (h.held, h.free);
          held = tt;
          good = h.good.1;
          reads = sym (append_assoc (tokens_of s) (p ∷ []) (yield t)) ∙ h.reads;
        }

    pub close_stands : (p : ℕ → Bool) (s : Stack) (t : Tree) (tokens : List ℕ) → Stands s t tokens → Stands (close p s t).0 (close p s t).1 tokens
    close_stands p s t tokens = close_keeps (λ x y. Stands x y tokens) (λ f x y. filled f x y tokens) p s t

  -- where b comes, the operator that still waits on top does not close before it
  pub close_holds : (b : ℕ) (s : Stack) (t : Tree) → Holds closes (close (before closes b) s t).0 b
  close_holds b bottom t = tt
  close_holds b (opened s) t = tt
  close_holds b (waiting f s) t = by_cond (λ (x : Stack × Tree). Holds closes x.0 b) (closes (operator_of f) b) (λ _. close_holds b s (fill f t)) (λ q. q)

  filled_edge : (P : ℕ → Type 0) (f : Pending) (t : Tree) → P (operator_of f) → All P (right_edge t) → All P (right_edge (fill f t))
  filled_edge P (after l o) t h g = (h, g)
  filled_edge P (ahead p) t h g = (h, g)

  -- and all the right edge of the tree on its left closes before it, if that was so before
  pub close_yields : (b : ℕ) (s : Stack) (t : Tree) → None (yields b) (right_edge t) → None (yields b) (right_edge (close (before closes b) s t).1)
  close_yields b bottom t h = h
  close_yields b (opened s) t h = h
  close_yields b (waiting f s) t h =
      by_cond (λ (x : Stack × Tree). None (yields b) (right_edge x.1)) (closes (operator_of f) b)
      (λ q. close_yields b s (fill f t) (filled_edge (λ x. yields b x ≡ false) f t (ap not q) h)) (λ _. h)
