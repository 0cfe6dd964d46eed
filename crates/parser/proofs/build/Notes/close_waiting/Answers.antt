-- In `parser::build::Notes::close_waiting`, the word right before the place tells what closes or stays. Assumes nothing.
use Rattle.parser.proofs.CloseWays.{close_ways}
use Rattle.parser.proofs.build.Notes.close_waiting.Goals as goal

pub overflow_sub-first : goal.overflow_sub-first
overflow_sub-first c = search close_ways

pub loop-first-preserved : goal.loop-first-preserved
loop-first-preserved c = search close_ways

pub returns-then-not-closes_at : goal.returns-then-not-closes_at
returns-then-not-closes_at c = search close_ways

pub returns : goal.returns
returns c = search close_ways
