-- `panel::step`: where the output was full, lines are answered that are left. Assumes nothing.
use Rattle.panel.proofs.TurnWays.{stepped_more}
use Rattle.panel.proofs.step.Goals as goal

pub returns-then-handed-gt-MOST_FILLED : goal.returns-then-handed-gt-MOST_FILLED
returns-then-handed-gt-MOST_FILLED c = stepped_more c.args.handed c.answer_lines.ensures c.if-handed-gt-MOST_FILLED.true
