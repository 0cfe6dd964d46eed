-- What is written from the place on is what is written from the first one. Assumes nothing.
use Rattle.std.proofs.Common.{◌-◌}
use Rattle.sheet.specs.Layout.{operators_of}
use Rattle.record.specs.Front.{front}
use Rattle.record.proofs.Writing.{Leads}
use Rattle.record.proofs.walks.Record.+write_row.Given as goal

abbrev pub decreases-write_row : goal.decreases-write_row
decreases-write_row l = l.size - l.from

abbrev pub invariant-loop-a : goal.invariant-loop-a
invariant-loop-a l = Leads (operators_of l.self.sheet.now) (front l.size l.self.bytes.now) l.fn.from l.fn.row l.at l.row

abbrev pub decreases-loop-a : goal.decreases-loop-a
decreases-loop-a l = l.size - l.at
