-- The answer of `frame::panel::Panel::reply`. Assumes nothing.
use Rattle.frame.proofs.LineWays.{reply_ways}
use Rattle.frame.proofs.panel.Panel.reply.Goals as goal

pub returns-then-line-gt-MOST_CHARACTERS : goal.returns-then-line-gt-MOST_CHARACTERS
returns-then-line-gt-MOST_CHARACTERS c = search reply_ways
