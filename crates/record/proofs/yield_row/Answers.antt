-- What `yield_row` returns. Assumes nothing.
use Rattle.std.proofs.Common.{rules, ◌≡◌, sym, Some, length}
use Rattle.std.proofs.lemmas.Result.{err_from_is_err_and}
use Rattle.record.proofs.Yielding.{too_long, yielded}
use Rattle.record.proofs.yield_row.Goals as goal

pub returns-in_err-record : goal.returns-in_err-record
returns-in_err-record c =
    let p = err_from_is_err_and c.from_residual.result c.from_residual.ensures.1 in
    rw (p.1, p.2) (too_long _ _ _ c.in_err-record.ensures)

pub returns : goal.returns
returns c =
    let all : c.write_row.result ≡ Some (length c.args.bytes.now) = search rules in
    let h = rw (c.in_ok-record.ensures.0, c.in_ok-record.ensures.1, c.new-row.ensures) at c.write_row.ensures.writes in
    yielded _ _ _ (rw (sym c.as_slice-tokens.ensures) at h) (rw c.in_ok-record.ensures.1 at c.in_ok-record.record.few) all c.if-out-tokens.false c.copy.ensures
