-- The answers of `monitor::put_record`. Assumes nothing.
use native.Mathlib.Omega.{arith}
use Rattle.std.proofs.lemmas.Result.{err_from_is_err_and}
use Rattle.monitor.proofs.StoreWays.{put_record_ways, put_record_refused, put_record_stored}
use Rattle.monitor.proofs.put_record.Goals as goal

pub returns-in_err-place : goal.returns-in_err-place
returns-in_err-place c = search put_record_ways

pub returns-in_err-length : goal.returns-in_err-length
returns-in_err-length c =
    let p = err_from_is_err_and c.from_residual-in_err-length.result c.from_residual-in_err-length.ensures.1 in
    rw (p.1, p.2) (put_record_refused _ _ c.in_ok-place.ensures c.in_ok-place.place.below (omega arith) _ c.in_err-length.ensures)

pub returns : goal.returns
returns c = put_record_stored _ _ c.in_ok-place.ensures c.in_ok-place.place.below (omega arith) c.in_ok-length.ensures c.put.ensures
