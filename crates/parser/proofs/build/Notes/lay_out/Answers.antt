-- The answers of `parser::build::Notes::lay_out`. Assumes nothing.
use Rattle.parser.proofs.LayingWays.{lay_ways}
use Rattle.parser.proofs.build.Notes.lay_out.Goals as goal

pub overflow_sub-out : goal.overflow_sub-out
overflow_sub-out c = search lay_ways

pub bounds-out-at : goal.bounds-out-at
bounds-out-at c = search lay_ways

pub loop-i-preserved : goal.loop-i-preserved
loop-i-preserved c = search lay_ways

pub returns : goal.returns
returns c = search lay_ways
