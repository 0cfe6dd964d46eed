-- In `parser::row::Row::token_at`, what is read in the row is no stranger. Assumes nothing.
use Rattle.parser.proofs.TokenWays.{read_known}
use Rattle.parser.proofs.row.Row.token_at.Goals as goal

pub token_of-requires : goal.token_of-requires
token_of-requires c = read_known _ _ _ c.args.self.now.known c.in_ok-c.ensures.lookup.0 c.in_ok-c.ensures.lookup.1
