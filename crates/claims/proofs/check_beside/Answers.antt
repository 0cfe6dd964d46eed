-- What `claims::check_beside` returns: a record that passes leaves its row at the front of the buffer. Assumes nothing.
use Rattle.std.proofs.Common.{rules, ◌≡◌, ◌-◌, take}
use Rattle.std.proofs.lemmas.Result.{err_from_is_err_and}
use Rattle.claims.proofs.Claiming.{record_refused, rows_differ, never_refused, some_conflict, no_conflict}
use Rattle.claims.proofs.check_beside.Goals as goal

pub returns-in_err-length : goal.returns-in_err-length
returns-in_err-length c = let p = err_from_is_err_and c.from_residual.result c.from_residual.ensures.1 in rw (p.1, p.2)
    (record_refused _ _ _ _ (search rules) _ c.in_err-length.ensures)

pub returns-then-ne : goal.returns-then-ne
returns-then-ne c =
    let differ : take (c.in_ok-length.length - 0) c.yield_row.new.out ≡ c.args.row.now → ⊥ = search rules in
    rows_differ _ _ _ _ (search rules) c.in_ok-length.ensures differ

pub returns-in_err-judge : goal.returns-in_err-judge
returns-in_err-judge c =
    let equal : take (c.in_ok-length.length - 0) c.yield_row.new.out ≡ c.args.row.now = search rules in
    absurd (never_refused _ _ _ _ (search rules) c.in_ok-length.ensures equal _ c.in_err-judge.ensures)

pub returns-then-branch-ne0 : goal.returns-then-branch-ne0
returns-then-branch-ne0 c =
    let equal : take (c.in_ok-length.length - 0) c.yield_row.new.out ≡ c.args.row.now = search rules in
    some_conflict _ _ _ _ (search rules) c.in_ok-length.ensures equal c.in_ok-judge.ensures c.if-branch-ne0.true

pub returns : goal.returns
returns c =
    let equal : take (c.in_ok-length.length - 0) c.yield_row.new.out ≡ c.args.row.now = search rules in
    no_conflict _ _ _ _ (search rules) c.in_ok-length.ensures equal c.in_ok-judge.ensures c.if-branch-ne0.false
