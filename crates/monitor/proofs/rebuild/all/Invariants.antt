-- In the loop of `monitor::rebuild::all`, the places before this one are rebuilt. Assumes nothing.
use Rattle.places.specs.Store.{records_in}
use Rattle.monitor.proofs.SwitchWays.{Rebuilt}
use Rattle.monitor.proofs.rebuild.all.Given as goal

abbrev pub invariant-loop-at : goal.invariant-loop-at
invariant-loop-at l = Rebuilt l.sheet (records_in l.initial.places) l.at (records_in l.places)
