-- The answers of `relation::rules::Marks::read`. Assumes nothing.
use Rattle.std.proofs.Common.{refl}
use Rattle.relation.proofs.Reading.{remaining_more, remaining_none}
use Rattle.relation.proofs.rules.Marks.read.Goals as goal

pub loop-left-preserved : goal.loop-left-preserved
loop-left-preserved c = remaining_more _ _ _ _ _ _ _ _ _ c.loop-left.invariant c.in-len3-up.len_at_least refl c.in_ok-take.ensures.taken

pub returns-clause-read : goal.returns-clause-read
returns-clause-read c = remaining_none _ _ _ _ _ _ _ c.in_default.len_below c.loop-left.invariant
