-- In the loop of `panel::lines::answer_lines`, the lines before those that are left are answered. Assumes nothing.
use Rattle.std.proofs.Common.{length}
use Rattle.places.specs.Memory.{panel_in}
use Rattle.frame.specs.Lent.{memory_in}
use Rattle.panel.proofs.LinesWays.{Answering}
use Rattle.panel.proofs.lines.answer_lines.Given as goal

abbrev pub invariant-loop-reply : goal.invariant-loop-reply
invariant-loop-reply l = Answering (panel_in (memory_in l.initial.panel)) l.fn.input l.out l.input (panel_in (memory_in l.panel))

abbrev pub decreases-loop-reply : goal.decreases-loop-reply
decreases-loop-reply l = length l.input
