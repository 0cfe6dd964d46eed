-- `panel::answer_read`: the input has ended, or bytes were given, or the read failed. Assumes nothing.
use Rattle.std.proofs.Common.{rules}
use Rattle.panel.proofs.TurnWays.{answered_cut, answered_end, answered_more}
use Rattle.panel.proofs.answer_read.Goals as goal

pub returns-in-Ok-eq0 : goal.returns-in-Ok-eq0
returns-in-Ok-eq0 c = answered_end _ c.in-Ok-eq0.is (search rules) c.as_slice.ensures c.finish.ensures

pub returns-in-Ok : goal.returns-in-Ok
returns-in-Ok c = answered_more _ c.in-Ok.is (λ z. c.in-Ok.field-0-test.1 cc) c.answer_lines.ensures

pub returns-in-Err : goal.returns-in-Err
returns-in-Err c = answered_cut _ c.in-Err.is c.requires
