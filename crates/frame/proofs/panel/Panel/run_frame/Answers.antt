-- The answers of `frame::panel::Panel::run_frame`. Assumes nothing.
use Rattle.std.proofs.Common.{refl}
use Rattle.std.proofs.lemmas.Result.{err_from_is_err_and}
use Rattle.frame.proofs.KindWays.{frame_other, frame_some}
use Rattle.frame.proofs.panel.Panel.run_frame.Goals as goal

pub returns-in_err-try_from : goal.returns-in_err-try_from
returns-in_err-try_from c =
    let p = err_from_is_err_and c.from_residual.result c.from_residual.ensures.1 in
    rw (p.1, p.2) (record { told = frame_other _ _ _ c.in_err-try_from.ensures.0 c.in-len1-up.len_at_least c.in_err-try_from.ensures.1; same = (refl, refl, refl) })

pub returns : goal.returns
returns c = record { told = frame_some _ _ _ c.in-len1-up.len_at_least c.in_ok-try_from.ensures c.run_kind.ensures.told; same = c.run_kind.ensures.same }
