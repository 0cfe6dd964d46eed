-- The answers of `relation::scan::all`. Assumes nothing.
use Rattle.std.proofs.Common.{arith, sym}
use Rattle.relation.proofs.Below.{all_none, all_more, all_fails}
use Rattle.relation.proofs.scan.all.Goals as goal

pub loop-a-init : goal.loop-a-init
loop-a-init g c = λ p returned. all_none p

pub returns-then-not-test : goal.returns-then-not-test
returns-then-not-test g c = λ p returned. sym (all_fails p _ _ (omega arith) (sym (returned _ _ (omega arith) c.if-not-test.ensures)))

pub loop-a-preserved : goal.loop-a-preserved
loop-a-preserved g c = λ p returned. all_more p _ (c.loop-a.invariant p returned) (sym (returned _ _ (omega arith) c.if-not-test.ensures))
