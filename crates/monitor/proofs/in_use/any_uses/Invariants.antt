-- In the loop of `monitor::in_use::any_uses`, no place before this one is in use. Assumes nothing.
use Rattle.places.specs.Store.{records_in}
use Rattle.monitor.proofs.UseWays.{Unused}
use Rattle.monitor.proofs.in_use.any_uses.Given as goal

abbrev pub invariant-loop-at : goal.invariant-loop-at
invariant-loop-at l = Unused l.n l.set (records_in l.places) l.at
