-- The end that is reached from the place is that from the first one. Assumes nothing.
use Rattle.std.proofs.Common.{◌-◌}
use Rattle.sheet.specs.Layout.{operators_of}
use Rattle.record.specs.Front.{front}
use Rattle.record.proofs.Reaching.{Leads}
use Rattle.record.proofs.walks.Record.+end_at.Given as goal

abbrev pub decreases-end_at : goal.decreases-end_at
decreases-end_at l = l.size

abbrev pub invariant-loop-at : goal.invariant-loop-at
invariant-loop-at l = Leads (operators_of l.self.sheet.now) (front l.size l.self.bytes.now) l.fn.from l.at

abbrev pub decreases-loop-at : goal.decreases-loop-at
decreases-loop-at l = l.size - l.at
