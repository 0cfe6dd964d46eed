-- The answers of `witness::explain`. Assumes nothing.
use Rattle.std.proofs.lemmas.Result.{err_from_is_err_and}
use Rattle.witness.proofs.ExplainWays.{explain_order, explain_short, explain_done}
use Rattle.witness.proofs.explain.Goals as goal

pub returns-in_err-relations : goal.returns-in_err-relations
returns-in_err-relations c =
    let p = err_from_is_err_and c.from_residual.result c.from_residual.ensures.1 in rw (p.1, p.2) (explain_order _ _ _ _ c.in_err-relations.ensures)

pub returns-then-out-told : goal.returns-then-out-told
returns-then-out-told c =
    explain_short _ _ _ _ _ c.in_ok-relations.ensures.0 c.in_ok-relations.ensures.1 c.tell-text.ensures c.bytes-told.ensures c.if-out-told.true

pub returns : goal.returns
returns c =
    explain_done _ _ _ _ _ c.in_ok-relations.ensures.0 c.in_ok-relations.ensures.1 c.tell-text.ensures c.bytes-told.ensures c.if-out-told.false c.copy.ensures
