-- The answers of `witness::lists::explain_list`. Assumes nothing.
use Rattle.std.proofs.lemmas.Result.{err_from_is_err_and}
use Rattle.witness.proofs.ListWays.{other_kinds, list_explained}
use Rattle.witness.proofs.lists.explain_list.Goals as goal

pub returns-in_err-check_kinds : goal.returns-in_err-check_kinds
returns-in_err-check_kinds c =
    let p = err_from_is_err_and c.from_residual.result c.from_residual.ensures.1 in
    rw (p.1, p.2) (other_kinds _ _ _ _ _ c.if-count-gt-MOST_RULES.false c.in_err-check_kinds.ensures)

pub returns : goal.returns
returns c = list_explained _ _ _ _ c.in_ok-check_kinds.ensures c.explain_joined.ensures
