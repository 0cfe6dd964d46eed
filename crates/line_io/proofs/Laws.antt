-- Laws of lines for callers: a line end is the first one. Assumes nothing.
use mathlib.Core.Path.{◌≡◌, refl, sym, ap, ◌∙◌}
use mathlib.Core.Bool.{Bool, true, false, cond}
use mathlib.Core.List.{List, [], ◌∷◌}
use Prim.Native.Nat.{ℕ, zero, suc, ◌+◌, ◌-◌, ◌<◌, ◌≤◌}
use native.Mathlib.Omega.{arith}
use borrow.Author.Tests.{eqb-true, eqb-false, ltb-false}
use lib.Dec.{eqb, ltb}
use lib.ListN.{length, get_or, drop, length-drop}
use lib.Seq.{get_or-drop}
use Rattle.std.specs.Prelude.{Some, None}
use Rattle.line_io.specs.Lines.{line_feed, before_end, line_end, has_end, Ends}
use Rattle.line_io.proofs.LineWays.{has_end_inside}

-- What is before the end: no line end, and then one, or nothing more.
end_here : (s : List ℕ) → before_end s < length s → get_or s (before_end s) 0 ≡ line_feed
unfolding before_end
end_here [] h = absurd (omega arith)
end_here (c ∷ s) h = by_test (end_here s) (eqb c line_feed) refl h
  where
    by_test : (before_end s < length s → get_or s (before_end s) 0 ≡ line_feed) → (b : Bool) → eqb c line_feed ≡ b → cond b 0 (suc (before_end s)) < suc (length s) → get_or (c ∷ s) (cond b 0 (suc (before_end s))) 0 ≡ line_feed
    by_test f true e h = eqb-true c line_feed e
    by_test f false e h = f (omega arith)

none_before : (s : List ℕ) (k : ℕ) → k < before_end s → get_or s k 0 ≡ line_feed → ⊥
unfolding before_end
none_before [] k h = absurd (omega arith)
none_before (c ∷ s) k h = by_test (none_before s) (eqb c line_feed) refl k h
  where
    by_test : ((k : ℕ) → k < before_end s → get_or s k 0 ≡ line_feed → ⊥) → (b : Bool) → eqb c line_feed ≡ b → (k : ℕ) → k < cond b 0 (suc (before_end s)) → get_or (c ∷ s) k 0 ≡ line_feed → ⊥
    by_test f true e k h = absurd (omega arith)
    by_test f false e zero h = eqb-false c line_feed e
    by_test f false e (suc k) h = f k (omega arith)

-- At the place that is answered stands a line end, where it is inside,
pub line_end_here : (s : List ℕ) (from : ℕ) → line_end s from < length s → get_or s (line_end s from) 0 ≡ line_feed
unfolding line_end
line_end_here s from h = sym (get_or-drop from s (before_end (drop from s)) 0) ∙ end_here (drop from s) (rw length-drop (omega arith))

-- and none stands before it.
pub none_before_line_end : (s : List ℕ) (from k : ℕ) → from ≤ k → k < line_end s from → get_or s k 0 ≡ line_feed → ⊥
unfolding line_end
none_before_line_end s from k l h e =
    let p : from + (k - from) ≡ k = omega arith in
    none_before (drop from s) (k - from) (omega arith) (get_or-drop from s (k - from) 0 ∙ ap (λ i. get_or s i 0) p ∙ e)

-- Where one is answered, it stands there; where none is, none stands from the place on.
pub ends_found : {s : List ℕ} {from r : ℕ} → Ends s from (Some r) → r ≡ line_end s from
ends_found {s} {from} {r} f = by_test (has_end (drop from s)) f.place
  where
    by_test : (b : Bool) → Some r ≡ cond b (Some (line_end s from)) None → r ≡ line_end s from
    by_test true e = cc
    by_test false e = cc

pub ends_none : {s : List ℕ} {from : ℕ} → Ends s from None → length s ≤ line_end s from
unfolding line_end
ends_none {s} {from} f = by_test (has_end (drop from s)) refl f.place
  where
    by_test : (b : Bool) → has_end (drop from s) ≡ b → None ≡ cond b (Some (line_end s from)) None → length s ≤ line_end s from
    by_test true q e = cc
    by_test false q e =
        let d = drop from s in
        let t : ltb (before_end d) (length d) ≡ false = sym (has_end_inside d) ∙ q in
        omega (arith, ltb-false (before_end d) (length d) t, length-drop from s)
