-- The answers of `relation::scan::set`. Assumes nothing.
use Rattle.std.proofs.Common.{arith}
use Rattle.relation.proofs.Scanning.{set_starts, set_more}
use Rattle.relation.proofs.scan.set.Goals as goal

pub loop-a-init : goal.loop-a-init
loop-a-init g c = λ p returned. set_starts p

pub loop-a-preserved : goal.loop-a-preserved
loop-a-preserved g c = λ p returned. set_more p _ (c.loop-a.invariant p returned) (returned _ _ (omega arith) c.test.ensures) c.with-set.ensures
