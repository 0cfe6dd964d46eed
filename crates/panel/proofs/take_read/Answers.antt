-- `panel::take_read`: what the read gave is answered. Assumes nothing.
use Rattle.panel.proofs.TurnWays.{read_answered}
use Rattle.panel.proofs.take_read.Goals as goal

pub returns : goal.returns
returns c = read_answered _ c.read-read.ensures c.answer_read.ensures
