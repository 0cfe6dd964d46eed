-- The answers of `sheet::Sheet::load`. Assumes nothing.
use Rattle.std.proofs.lemmas.Result.{err_from_is_err_and}
use Rattle.sheet.proofs.Loading.{load_order, load_rules, load_accepted}
use Rattle.sheet.proofs.Sheet.load.Goals as goal

pub returns-in_err-made : goal.returns-in_err-made
returns-in_err-made c =
    let p = err_from_is_err_and c.from_residual.result c.from_residual.ensures.1 in rw (p.1, p.2) (load_order _ _ _ _ c.in_err-made.ensures)

pub returns-in_err-verdict : goal.returns-in_err-verdict
returns-in_err-verdict c =
    let p = err_from_is_err_and c.from_residual-in_err-verdict.result c.from_residual-in_err-verdict.ensures.1 in
    rw (p.1, p.2) (load_rules _ _ _ _ _ c.in_ok-made.ensures.0 c.in_ok-made.ensures.1 _ c.in_err-verdict.ensures)

pub returns : goal.returns
returns c = load_accepted _ _ _ _ _ c.in_ok-made.ensures.0 c.in_ok-made.ensures.1 c.in_ok-verdict.ensures
