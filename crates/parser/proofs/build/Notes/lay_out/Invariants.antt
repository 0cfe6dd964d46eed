-- In the loop of `parser::build::Notes::lay_out`, what the words that are left lay out is what all of them do. Assumes nothing.
use Rattle.parser.proofs.LayingWays.{Laying}
use Rattle.parser.proofs.build.Notes.lay_out.Given as goal

abbrev pub invariant-loop-i : goal.invariant-loop-i
invariant-loop-i l = Laying l.self.words l.initial.out l.out l.at l.i
