-- The answers of `relation::scan::first`. Assumes nothing.
use Rattle.std.proofs.Common.{arith, sym, below_more}
use Rattle.relation.proofs.Scanning.{first_here, first_none}
use Rattle.relation.proofs.scan.first.Goals as goal

pub returns-in-Some-clause-first : goal.returns-in-Some-clause-first
returns-in-Some-clause-first g c = λ p returned. first_here p _ _ (omega arith) (c.loop-a.invariant p returned)
    (sym (returned _ _ (omega arith) c.in-Some.ensures))

pub loop-a-preserved : goal.loop-a-preserved
loop-a-preserved g c = λ p returned. below_more _ _ (c.loop-a.invariant p returned) (sym (returned _ _ (omega arith) c.in_default.ensures))

pub returns-clause-first : goal.returns-clause-first
returns-clause-first g c = λ p returned. first_none p _ (λ a l. c.loop-a.invariant p returned a (omega arith))
