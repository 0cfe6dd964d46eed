-- What is counted from the place on is what is counted from the first one. Assumes nothing.
use Rattle.std.proofs.Common.{◌-◌}
use Rattle.record.specs.Front.{front}
use Rattle.record.proofs.Counting.{Leads}
use Rattle.record.proofs.walks.Record.+count_at.Given as goal

abbrev pub decreases-count_at : goal.decreases-count_at
decreases-count_at l = l.size

abbrev pub invariant-loop-around : goal.invariant-loop-around
invariant-loop-around l =
    Leads l.self.sheet.now (front l.size l.self.bytes.now) l.fn.from l.fn.outside.above l.fn.outside.seer l.fn.count l.at l.around.above l.around.seer l.count

abbrev pub decreases-loop-around : goal.decreases-loop-around
decreases-loop-around l = l.size - l.at
