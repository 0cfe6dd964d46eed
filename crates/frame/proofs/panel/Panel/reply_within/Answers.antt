-- The answers of `frame::panel::Panel::reply_within`. Assumes nothing.
use Rattle.std.proofs.Common.{arith, ℕ, refl}
use lib.ListN.{length-replicate}
use Rattle.frame.proofs.LineWays.{line_refused, line_run}
use Rattle.frame.proofs.panel.Panel.reply_within.Goals as goal

pub returns-in_default : goal.returns-in_default
returns-in_default g c =
    record {
      replied = line_refused _ _ _ _ c.decode.ensures (omega arith) (omega (arith, length-replicate {A = ℕ} g.row.N 0)) c.write_refusal.ensures c.in_default.is;
      same = (refl, refl, refl);
    }

pub returns-in-Ok-run_frame : goal.returns-in-Ok-run_frame
returns-in-Ok-run_frame g c =
    record {
      replied = line_run _ _ _ _ c.decode.ensures (omega arith) (omega (arith, length-replicate {A = ℕ} g.row.N 0)) c.in-Ok-run_frame.ensures.told c.write_reply.ensures c.in-Ok.is;
      same = c.run_frame.ensures.same;
    }

pub returns-in-Err : goal.returns-in-Err
returns-in-Err g c =
    record {
      replied = line_run _ _ _ _ c.decode.ensures (omega arith) (omega (arith, length-replicate {A = ℕ} g.row.N 0)) c.in-Err.ensures.told (rw c.number.ensures at c.write_number.ensures) c.in-Ok.is;
      same = c.run_frame.ensures.same;
    }
