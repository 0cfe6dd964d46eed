-- The answers of `parser::build::Notes::take_operator`. Assumes nothing.
use Rattle.parser.proofs.OperatorWays.{operator_ways}
use Rattle.parser.proofs.build.Notes.take_operator.Goals as goal

pub returns : goal.returns
returns c = search operator_ways

pub close_waiting-first-requires : goal.close_waiting-first-requires
close_waiting-first-requires c = search operator_ways

pub free_place-requires : goal.free_place-requires
free_place-requires c = search operator_ways
