-- The answers of `parser::build::Notes::take_closing`. Assumes nothing.
use Rattle.parser.proofs.OperatorWays.{closing_taken, closing_ways}
use Rattle.parser.proofs.build.Notes.take_closing.Goals as goal

pub close_waiting-inside-requires : goal.close_waiting-inside-requires
close_waiting-inside-requires c = search closing_ways

pub overflow_sub-self : goal.overflow_sub-self
overflow_sub-self c = search closing_ways

pub returns : goal.returns
returns c = closing_taken _ _ _ c.close_waiting-inside.ensures c.self.view_is
