-- The answers of `parser::build::Notes::of_row`. Assumes nothing.
use Rattle.parser.proofs.BuildWays.{read_ways}
use Rattle.parser.proofs.build.Notes.of_row.Goals as goal

pub take_token-requires : goal.take_token-requires
take_token-requires c = search read_ways

pub loop-token-preserved : goal.loop-token-preserved
loop-token-preserved c = search read_ways
