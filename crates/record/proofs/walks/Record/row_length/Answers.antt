-- One byte more is counted. Assumes nothing.
use Rattle.record.proofs.Checking.{brackets_on}
use Rattle.record.proofs.walks.Record.row_length.Goals as goal

pub loop-byte-preserved : goal.loop-byte-preserved
loop-byte-preserved c = brackets_on _ c.loop-byte.invariant.0 c.loop-byte-test.true c.loop-byte.invariant.1 c.from-brackets.ensures
