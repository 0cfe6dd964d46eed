-- The answers of `parser::build::build_into`. Assumes nothing.
use Rattle.parser.proofs.BuildWays.{build_ways}
use Rattle.parser.proofs.build.build_into.Goals as goal

pub of_row-notes-requires : goal.of_row-notes-requires
of_row-notes-requires c = search build_ways

pub lay_out-requires : goal.lay_out-requires
lay_out-requires c = search build_ways

pub returns : goal.returns
returns c = search build_ways
