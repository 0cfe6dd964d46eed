-- `panel::run`: one turn more, or the last one. Assumes nothing.
use Rattle.std.proofs.Common.{arith}
use Rattle.panel.proofs.RunWays.{runs_none, runs_more, run_stopped, run_out}
use Rattle.panel.proofs.run.Goals as goal

pub loop-turn-init : goal.loop-turn-init
loop-turn-init c = runs_none _ c.requires.0 c.requires.1

pub loop-turn-preserved : goal.loop-turn-preserved
loop-turn-preserved c = runs_more c.loop-turn.invariant c.in_ok-handed.ensures

pub returns-in_err-handed : goal.returns-in_err-handed
returns-in_err-handed c = run_stopped c.loop-turn.invariant c.in_err-handed.ensures c.from_residual.ensures

pub returns : goal.returns
returns c = run_out c.loop-turn.invariant (omega arith) (omega arith)
