-- `explain::run`: one turn more, or the last one. Assumes nothing.
use Rattle.std.proofs.Common.{◌∙◌}
use Rattle.explain.proofs.ReadWays.{runs_none, runs_more}
use Rattle.explain.proofs.run.Goals as goal

pub loop-turn-init : goal.loop-turn-init
loop-turn-init c = record { runs = runs_none c.requires.1 c.requires.2; input = c.requires.0 }

pub loop-turn-preserved : goal.loop-turn-preserved
loop-turn-preserved c = record { runs = runs_more c.loop-turn.invariant.runs c.if-not-turn.ensures; input = c.turn.auto.buf ∙ c.loop-turn.invariant.input }

pub returns-then-not-turn : goal.returns-then-not-turn
returns-then-not-turn c = runs_more c.loop-turn.invariant.runs c.if-not-turn.ensures
