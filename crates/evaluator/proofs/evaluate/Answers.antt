-- The answers of `evaluator::evaluate`. Assumes nothing.
use borrow.Author.Rules.{rules}
use Rattle.std.proofs.lemmas.Result.{err_from_is_err_and}
use Rattle.evaluator.proofs.Evaluating.{record_refused}
use Rattle.evaluator.proofs.evaluate.Goals as goal

pub returns-in_err-check : goal.returns-in_err-check
returns-in_err-check c =
    let p = err_from_is_err_and c.from_residual-in_err-check.result c.from_residual-in_err-check.ensures.1 in
    rw (p.1, p.2) (record_refused _ _ _ _ _ c.in_ok-place.ensures c.in_ok-place.place.below c.held_record-bytes.ensures (search rules) _ c.in_err-check.ensures)
