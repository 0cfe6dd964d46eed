-- The faults of pairs of operators, by a sheet's relations. Assumes nothing.
use Rattle.std.specs.Prelude.{ℕ, Bool}
use Rattle.disambiguation.specs.Below.{some_below}
use Rattle.disambiguation.specs.Witness.{both_exclude, none_excludes, uneven_pair}
use Rattle.relation.specs.Relations.{ops, closing, yielding}
use Rattle.relation.specs.declared.relations.Relations.{Relations}

-- each excludes the other, neither does, and the two are not level
abbrev pub dead_pair : Relations → ℕ → ℕ → Bool
dead_pair r = both_exclude (ops r) (yielding r) (closing r)

abbrev pub double_pair : Relations → ℕ → ℕ → Bool
double_pair r = none_excludes (ops r) (yielding r) (closing r)

abbrev pub uneven_in : Relations → ℕ → ℕ → Bool
uneven_in r = uneven_pair (ops r) (closing r)

-- some operator makes such a pair with a
abbrev pub makes : Relations → (ℕ → ℕ → Bool) → ℕ → Bool
makes r test a = some_below r.count.n (test a)
