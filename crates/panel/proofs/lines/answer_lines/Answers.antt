-- `panel::lines::answer_lines`: the loop ends where the output is full, or no line end is left. Assumes nothing.
use Rattle.panel.proofs.LinesWays.{lines_ways, answering_starts, answering_more}
use Rattle.panel.proofs.lines.answer_lines.Goals as goal

pub loop-reply-init : goal.loop-reply-init
loop-reply-init c = answering_starts _ _ c.requires

pub loop-reply-preserved : goal.loop-reply-preserved
loop-reply-preserved c = answering_more c.loop-reply.invariant c.as_slice.ensures c.in-Some.ensures c.as_slice-rest.ensures c.answer.ensures c.skip.ensures

pub returns-in-loop-reply : goal.returns-in-loop-reply
returns-in-loop-reply c = search lines_ways
