-- `explain::take_read`: the read failed, or the input has ended, or bytes were given. Assumes nothing.
use Rattle.std.proofs.Common.{◌≡◌, rules, sym, ◌∙◌, length-take-le, take}
use Rattle.explain.proofs.ReadWays.{step_failed, step_ended, step_gave}
use Rattle.explain.proofs.take_read.Goals as goal

pub returns-in-Ok-eq0 : goal.returns-in-Ok-eq0
returns-in-Ok-eq0 c = let z : c.in-Ok-eq0.field-0 ≡ 0 = search rules in rw (c.in-Ok-eq0.is, z) (step_ended c.finish.ensures)

pub returns-in-Ok : goal.returns-in-Ok
returns-in-Ok c =
    rw c.in-Ok.is (step_gave _ _ c.take_bytes.ensures (λ e. c.in-Ok.count-test.1 (let k : c.in-Ok.count ≡ 0 = sym (length-take-le c.in-Ok.count c.args.buf.now (rw c.in-Ok.is at c.requires.0)) ∙ e in cc)))

pub returns-in-Err : goal.returns-in-Err
returns-in-Err c = rw c.in-Err.is (step_failed _ _ c.clear.ensures c.requires.2)
