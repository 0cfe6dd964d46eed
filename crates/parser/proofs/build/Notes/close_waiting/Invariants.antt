-- In the loop of `parser::build::Notes::close_waiting`, what is left of what still waits is what is to be left. Assumes nothing.
use Rattle.sheet.specs.Layout.{operators_of}
use Rattle.sheet.specs.Relation.{closes_in}
use Rattle.parser.proofs.CloseWays.{Closing}
use Rattle.parser.proofs.build.Notes.close_waiting.Given as goal

abbrev pub invariant-loop-first : goal.invariant-loop-first
invariant-loop-first l = Closing (operators_of l.sheet) (closes_in l.sheet) l.c l.self.words l.self.first l.first

abbrev pub decreases-loop-first : goal.decreases-loop-first
decreases-loop-first l = l.first
