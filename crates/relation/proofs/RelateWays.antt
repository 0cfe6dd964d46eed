-- What `relate` gives: the rules are read, and the relations made of them. Assumes nothing.
use mathlib.Core.Path.{◌≡◌, ap₂, ◌∙◌}
use mathlib.Core.Bool.{Bool}
use mathlib.Core.List.{List}
use Prim.Native.Nat.{ℕ}
use borrow.Author.Rules.{rules}
use Rattle.disambiguation.specs.Rules.{left, right}
use Rattle.relation.specs.Relation.{fresh}
use Rattle.relation.specs.Marking.{unmarked, Reads}
use Rattle.relation.specs.Chaining.{related}
use Rattle.relation.specs.Relating.{Relates}

pub relates : {strange : Bool} (n : ℕ) (bytes empty blank ahead back t u : List ℕ) → empty ≡ fresh → blank ≡ fresh → Reads n bytes unmarked unmarked ahead back strange
    → t ≡ related n left ahead empty → u ≡ related n right back blank → Relates n bytes strange t u
relates n bytes empty blank ahead back t u e f reads made yields =
    record {
      strange_is = reads.strange;
      closes_is = λ z. made ∙ ap₂ (related n left) (reads.marks_ahead z) e;
      yields_is = λ z. yields ∙ ap₂ (related n right) (reads.marks_back z) f;
    }

pub ruleset relate_ways = (relates, rules)
