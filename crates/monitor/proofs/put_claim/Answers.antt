-- The answers of `monitor::put_claim`. Assumes nothing.
use Rattle.std.proofs.lemmas.Result.{err_from_is_err_and}
use Rattle.monitor.proofs.StoreWays.{put_claim_ways, put_claim_refused, put_claim_stored}
use Rattle.monitor.proofs.put_claim.Goals as goal

pub returns-in_err-place : goal.returns-in_err-place
returns-in_err-place c = search put_claim_ways

pub returns-in_err-check_claim : goal.returns-in_err-check_claim
returns-in_err-check_claim c =
    let p = err_from_is_err_and c.from_residual-in_err-check_claim.result c.from_residual-in_err-check_claim.ensures.1 in
    rw (p.1, p.2) (put_claim_refused _ _ c.in_ok-place.ensures c.in_ok-place.place.below _ c.in_err-check_claim.ensures)

pub returns : goal.returns
returns c = put_claim_stored _ _ c.in_ok-place.ensures c.in_ok-place.place.below c.in_ok-check_claim.ensures c.put.ensures
