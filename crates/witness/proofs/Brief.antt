-- A witness has 22 bytes at most, and its records are as long as its row. Assumes nothing.
use mathlib.Core.Path.{refl}
use mathlib.Core.Bool.{Bool, true, false, not, cond}
use Prim.Native.Nat.{ℕ, ◌≤◌}
use native.Mathlib.Omega.{arith}
use lib.Dec.{ltb}
use lib.ListN.{length}
use Rattle.expression.specs.Token.{Operators}
use Rattle.disambiguation.specs.Verdict.{comes}
use Rattle.disambiguation.specs.Witness.{Witness, sound, no_tree, two_trees, witness_bytes, first_over_pair, last_over_pair, first_over_triple, last_over_triple, first_left, first_right, first_third, shown_by, none_of, two_of, two_of_uneven, uneven_pair, of_triples, both_exclude, none_excludes, witness}
use Rattle.disambiguation.specs.Shown.{AsLong}
use Rattle.witness.specs.Explaining.{most_explained}

abbrev pub Brief : Witness → Type 0
Brief w = (length (witness_bytes w) ≤ most_explained) × AsLong w

brief_pair : (p : Bool) (a b : ℕ) → Brief (no_tree (first_over_pair p a b)) × Brief (two_trees (first_over_pair p a b) (last_over_pair p a b))
brief_pair true a b = ((omega arith, tt), (omega arith, (refl, refl)))
brief_pair false a b = ((omega arith, tt), (omega arith, (refl, refl)))

brief_triple : (p closes : Bool) (a b c : ℕ) → Brief (two_trees (first_over_triple p a closes b c) (last_over_triple p a closes b c))
brief_triple true true a b c = (omega arith, (refl, refl))
brief_triple true false a b c = (omega arith, (refl, refl))
brief_triple false true a b c = (omega arith, (refl, refl))
brief_triple false false a b c = (omega arith, (refl, refl))

brief_shown : (ops : Operators) (test : ℕ → ℕ → Bool) (shows : ℕ → ℕ → Witness) (other : Witness) → ((a b : ℕ) → Brief (shows a b)) → Brief other
    → Brief (shown_by ops test shows other)
brief_shown ops test shows other f g = go (ltb (first_left ops test) ops.count)
  where
    go : (x : Bool) → Brief (cond x (shows (first_left ops test) (first_right ops test (first_left ops test))) other)
    go true = f (first_left ops test) (first_right ops test (first_left ops test))
    go false = g

pub witness_brief : (ops : Operators) (L R : ℕ → ℕ → Bool) → Brief (witness ops L R)
unfolding witness of_triples
witness_brief ops L R =
    brief_shown ops (both_exclude ops L R) (none_of ops) _ (λ a b. (brief_pair (not (comes ops a)) a b).0)
    (brief_shown ops (none_excludes ops L R) (two_of ops) _ (λ a b. (brief_pair (not (comes ops a)) a b).1)
    (brief_shown ops (uneven_pair ops R) (two_of_uneven ops R) sound (λ a b. brief_triple (not (comes ops a)) (R a b) a b (first_third ops R a b)) (omega arith, tt)))
