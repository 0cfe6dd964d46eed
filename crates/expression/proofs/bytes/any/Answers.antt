-- The answers of `expression::bytes::any`. Assumes nothing.
use Rattle.expression.proofs.Looking.{looked_none, looked_more, looked_all}
use Rattle.expression.proofs.bytes.any.Goals as goal
use Rattle.std.proofs.Common.{arith}

pub loop-byte-init : goal.loop-byte-init
loop-byte-init g c = λ p returned. looked_none p _

pub loop-byte-preserved : goal.loop-byte-preserved
loop-byte-preserved g c = λ p returned. looked_more p _ (c.loop-byte.invariant p returned) (omega arith) (returned _ _ c.test-found.ensures)

pub returns : goal.returns
returns g c = λ p returned. looked_all p _ (c.loop-byte.invariant p returned) (omega arith)
