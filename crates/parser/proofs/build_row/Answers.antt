-- Where the row is refused, `parser::build_row` answers its refusal. Assumes nothing.
use Rattle.std.proofs.lemmas.Result.{err_from_is_err_and}
use Rattle.parser.proofs.AnswerWays.{build_refused}
use Rattle.parser.proofs.build_row.Goals as goal

pub returns-in_err-check : goal.returns-in_err-check
returns-in_err-check c = let p = err_from_is_err_and c.from_residual.result c.from_residual.ensures.1 in rw (p.1, p.2)
    (build_refused _ _ _ _ c.in_err-check.ensures)
