-- The answers of `parser::build::Notes::take_token`. Assumes nothing.
use Rattle.parser.proofs.OperatorWays.{token_ways}
use Rattle.parser.proofs.build.Notes.take_token.Goals as goal

pub take_operator-requires : goal.take_operator-requires
take_operator-requires c = search token_ways

pub returns-else-c-eq-CLOSING : goal.returns-else-c-eq-CLOSING
returns-else-c-eq-CLOSING c = search token_ways
