-- The answer of `witness::faults::uneven_right`. Assumes nothing.
use Rattle.std.proofs.Common.{rules}
use Rattle.witness.specs.Faults.{uneven_in}
use Rattle.witness.proofs.FaultWays.{some_if_below}
use Rattle.witness.proofs.faults.uneven_right.Goals as goal

pub returns-clause-first : goal.returns-clause-first
returns-clause-first c = c.first.ensures.first (uneven_in c.args.relations.now c.args.a) (λ b r l k. search (rules, some_if_below))
