-- What the copy to the front gives. Assumes nothing.
use mathlib.Core.Path.{◌≡◌, refl, sym, ap}
use mathlib.Core.Bool.{Bool, true, false, cond}
use mathlib.Core.Logic.{◌⊎◌, inl, inr}
use mathlib.Core.List.{List, ◌++◌}
use Prim.Native.Nat.{ℕ, ◌-◌, ◌<◌, ◌≤◌}
use native.Mathlib.Nat.{zero-add}
use native.Mathlib.Omega.{arith}
use borrow.Author.Tests.{le-leb, lt-leb}
use lib.Dec.{leb}
use lib.ListN.{length, take, drop}
use Rattle.std.specs.List.{copy_within}
use Rattle.line_io.specs.Moves.{moved_to_front}

pub moved : (s : List ℕ) (from to : ℕ) → from ≤ to → to ≤ length s → copy_within s from to 0 ≡ moved_to_front from to s
unfolding moved_to_front
moved s from to h l = rw (le-leb to (length s) l) (ap (λ n. take (to - from) (drop from s) ++ drop n s) (zero-add (to - from)))

pub not_moved : (s : List ℕ) (from to : ℕ) → (from ≤ to × length s < to) ⊎ (to < from) → s ≡ moved_to_front from to s
unfolding moved_to_front
not_moved s from to (inl (h, l)) = rw (lt-leb to (length s) l)
not_moved s from to (inr h) = by_test (leb to (length s))
  where
    none : to - from ≡ 0
    none = omega arith

    by_test : (b : Bool) → s ≡ cond b (take (to - from) (drop from s) ++ drop (to - from) s) s
    by_test true = ap (λ n. take n (drop from s) ++ drop n s) (sym none)
    by_test false = refl
