-- In the loop of `relation::rules::Marks::read`, the rules before those that are left are marked, and none of them is strange. Assumes nothing.
use Rattle.std.proofs.Common.{length}
use Rattle.relation.proofs.Reading.{Remaining}
use Rattle.relation.proofs.rules.Marks.read.Given as goal

abbrev pub invariant-loop-left : goal.invariant-loop-left
invariant-loop-left l = Remaining l.count.n l.rules l.fn.self.ahead l.fn.self.back l.left l.self.ahead l.self.back

abbrev pub decreases-loop-left : goal.decreases-loop-left
decreases-loop-left l = length l.left
