-- `explain::reply::reply`: a line over the limit is refused. Assumes nothing.
use Rattle.std.proofs.Common.{rules}
use Rattle.explain.proofs.ReplyWays.{line_long}
use Rattle.explain.proofs.reply.reply.Goals as goal

pub returns-then-line-gt-MOST_CHARACTERS : goal.returns-then-line-gt-MOST_CHARACTERS
returns-then-line-gt-MOST_CHARACTERS c = search (rules, line_long)
