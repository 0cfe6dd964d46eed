-- What is marked from the place on is what is marked from the first one. Assumes nothing.
use Rattle.std.proofs.Common.{◌-◌}
use Rattle.expression.specs.Limits.{most_record_bytes}
use Rattle.brackets.proofs.MarkingEdges.{Leads}
use Rattle.brackets.proofs.edges.+mark_edges.Given as goal

abbrev pub decreases-mark_edges : goal.decreases-mark_edges
decreases-mark_edges l = most_record_bytes - l.from

abbrev pub invariant-loop-at : goal.invariant-loop-at
invariant-loop-at l =
    Leads l.sheet l.whole l.fn.from l.fn.outside.above l.fn.outside.seer l.fn.marks l.at l.around.above l.around.seer l.shown l.marks

abbrev pub decreases-loop-at : goal.decreases-loop-at
decreases-loop-at l = most_record_bytes - l.at
