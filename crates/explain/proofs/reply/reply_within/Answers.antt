-- `explain::reply::reply_within`: a line that is read is explained, and any other is refused. Assumes nothing.
use Rattle.explain.proofs.ReplyWays.{within_ways}
use Rattle.explain.proofs.reply.reply_within.Goals as goal

pub returns-in_default : goal.returns-in_default
returns-in_default c = search within_ways

pub returns : goal.returns
returns c = search within_ways
