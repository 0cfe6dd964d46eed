-- What is written from the place on is what is written from the first one. Assumes nothing.
use Rattle.std.proofs.Common.{◌-◌}
use Rattle.expression.specs.Limits.{most_record_bytes}
use Rattle.brackets.proofs.Walking.{due, Leads}
use Rattle.brackets.proofs.walk.Marked.+write_operand.Given as goal

abbrev pub decreases-write_operand : goal.decreases-write_operand
decreases-write_operand l = due l.from l.outside

abbrev pub invariant-loop-side : goal.invariant-loop-side
invariant-loop-side l =
    Leads l.self.sheet.now l.self.whole.now l.self.marks.now l.fn.from l.fn.outside l.fn.given l.fn.row l.at l.above l.side l.row

abbrev pub decreases-loop-side : goal.decreases-loop-side
decreases-loop-side l = most_record_bytes - l.at
