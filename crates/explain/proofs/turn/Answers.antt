-- `explain::turn`: what the read gave is taken, and written out. Assumes nothing.
use Rattle.explain.proofs.ReadWays.{turn_made}
use Rattle.explain.proofs.turn.Goals as goal

pub returns : goal.returns
returns c = turn_made _ _ _ _ c.take_read-go.ensures
