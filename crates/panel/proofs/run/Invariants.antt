-- In the loop of `panel::run`, what follows the turns that were made stands. Assumes nothing.
use Rattle.places.specs.Memory.{panel_in}
use Rattle.frame.specs.Lent.{memory_in}
use Rattle.panel.proofs.RunWays.{Running}
use Rattle.panel.proofs.run.Given as goal

abbrev pub invariant-loop-turn : goal.invariant-loop-turn
invariant-loop-turn l = Running (panel_in (memory_in l.initial.panel)) l.input l.out l.handed (panel_in (memory_in l.panel)) l._turn
