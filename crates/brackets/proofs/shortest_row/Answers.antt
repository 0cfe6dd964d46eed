-- What `shortest_row` returns, and what its walks need. Assumes nothing.
use Rattle.std.proofs.Common.{refl, rules}
use Rattle.std.proofs.lemmas.Result.{err_from_is_err_and}
use Rattle.expression.proofs.Outcomes.{not_accepted}
use Rattle.brackets.proofs.Answering.{shortest_refused, front_fills, front_stands, shortest_short, shortest_done}
use Rattle.brackets.proofs.shortest_row.Goals as goal

pub returns-in_err-size : goal.returns-in_err-size
returns-in_err-size c =
    let p = err_from_is_err_and c.from_residual.result c.from_residual.ensures.1 in
    rw (p.1, p.2) (shortest_refused _ _ _ _ (search rules) c.in_err-size.ensures (not_accepted _))

pub mark_record-requires-clause-fills : goal.mark_record-requires-clause-fills
mark_record-requires-clause-fills c = front_fills _ _ c.args.out.now _ (search rules) c.in_ok-size.ensures refl

pub write_operand-requires : goal.write_operand-requires
write_operand-requires c = front_stands _ _ c.args.out.now _ (search rules) c.in_ok-size.ensures refl c.mark_record.ensures c.new-row.ensures

pub returns-then-out-tokens : goal.returns-then-out-tokens
returns-then-out-tokens c =
    shortest_short _ _ _ _ (search rules) c.in_ok-size.ensures refl c.new-row.ensures c.write_operand.ensures c.as_slice-tokens.ensures c.if-out-tokens.true

pub returns : goal.returns
returns c =
    shortest_done _ _ _ _ (search rules) c.in_ok-size.ensures refl c.new-row.ensures c.write_operand.ensures c.as_slice-tokens.ensures c.if-out-tokens.false c.copy.ensures
