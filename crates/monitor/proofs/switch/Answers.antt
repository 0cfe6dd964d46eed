-- The answers of `monitor::switch`. Assumes nothing.
use Rattle.monitor.proofs.SwitchWays.{switch_ways}
use Rattle.monitor.proofs.switch.Goals as goal

pub returns-then-not-is_loaded : goal.returns-then-not-is_loaded
returns-then-not-is_loaded c = search switch_ways

pub returns-then-in_use : goal.returns-then-in_use
returns-then-in_use c = search switch_ways

pub returns : goal.returns
returns c = search switch_ways
