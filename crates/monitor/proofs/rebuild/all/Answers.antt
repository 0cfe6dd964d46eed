-- The answers of `monitor::rebuild::all`. Assumes nothing.
use Rattle.monitor.proofs.SwitchWays.{rebuild_all_ways}
use Rattle.monitor.proofs.rebuild.all.Goals as goal

pub loop-at-preserved : goal.loop-at-preserved
loop-at-preserved c = search rebuild_all_ways
