-- The answer of `relation::rules::Marks::take`. Assumes nothing.
use Rattle.std.proofs.Common.{arith}
use Rattle.relation.proofs.Reading.{take_marked}
use Rattle.relation.proofs.rules.Marks.take.Goals as goal

pub returns-clause-taken : goal.returns-clause-taken
returns-clause-taken c = take_marked _ _ _ _ _ _ _ _ c.in_ok-kind.ensures.0 c.in_ok-kind.ensures.1 (omega arith) (omega arith) c.mark.ensures c.mark-2.ensures
