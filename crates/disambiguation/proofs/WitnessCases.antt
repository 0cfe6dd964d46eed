-- The cases of witnesses hold of the definitions, by computation. Assumes nothing.
use mathlib.Core.Path.{refl}
use Rattle.expression.specs.Lists.{All}
use Rattle.disambiguation.specs.Rules.{L, R}
use Rattle.disambiguation.specs.Below.{first_below}
use Rattle.disambiguation.specs.Witness.{of_triples, witness}
use Rattle.disambiguation.specs.WitnessCases.{witness_cases, Answered}
use Rattle.disambiguation.proofs.Cases.{◌next◌}

pub witnesses_hold : All Answered witness_cases
unfolding L R first_below of_triples witness
witnesses_hold = refl next refl next refl next refl next refl next refl next refl next refl next refl next refl next tt
