-- The left-to-right machine on a row in two parts, and the operators that it leaves waiting. Assumes nothing.
use Prim.Native.Nat.{ℕ}
use mathlib.Core.Path.{◌≡◌, refl}
use mathlib.Core.Bool.{Bool, true, false, cond}
use mathlib.Core.List.{List, [], ◌∷◌, ◌++◌}
use Rattle.expression.specs.Token.{Class}
use Rattle.expression.specs.Tree.{Tree}
use Rattle.expression.proofs.Cond.{by_cond}
use Rattle.disambiguation.specs.LeftToRight.{Pending, operator_of, fill, Stack, bottom, opened, waiting, State, close, remains, step, run}

pub run_append : (closes : ℕ → ℕ → Bool) (k : ℕ → Class) (xs ys : List ℕ) (m : State) → run closes k (xs ++ ys) m ≡ run closes k ys (run closes k xs m)
run_append closes k [] ys m = refl
run_append closes k (x ∷ xs) ys m = run_append closes k xs ys (step closes k x m)

-- What stays true where one more closes stays true where any number do.
pub close_keeps : (P : Stack → Tree → Type 0) → ((f : Pending) (s : Stack) (t : Tree) → P (waiting f s) t → P s (fill f t))
    → (p : ℕ → Bool) (s : Stack) (t : Tree) → P s t → P (close p s t).0 (close p s t).1
close_keeps P one p bottom t h = h
close_keeps P one p (opened s) t h = h
close_keeps P one p (waiting f s) t h =
    by_cond (λ (x : Stack × Tree). P x.0 x.1) (p (operator_of f)) (λ _. close_keeps P one p s (fill f t) (one f s t h)) (λ _. h)

-- what still waits does not depend on the tree
pub close_remains : (p : ℕ → Bool) (s : Stack) (t : Tree) → (close p s t).0 ≡ remains p s
close_remains p bottom t = refl
close_remains p (opened s) t = refl
close_remains p (waiting f s) t = go (p (operator_of f)) (close_remains p s (fill f t))
  where
    go : (b : Bool) → (close p s (fill f t)).0 ≡ remains p s → (cond b (close p s (fill f t)) (waiting f s, t)).0 ≡ cond b (remains p s) (waiting f s)
    go true e = e
    go false e = refl

-- the operator that waits on top does not close before o
abbrev pub Holds : (ℕ → ℕ → Bool) → Stack → ℕ → Type 0
Holds closes bottom o = Unit {0}
Holds closes (opened s) o = Unit {0}
Holds closes (waiting f s) o = closes (operator_of f) o ≡ false
