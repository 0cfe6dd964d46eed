-- What `parser::repair_by` needs and returns. Assumes nothing.
use Rattle.std.proofs.Common.{refl}
use Rattle.std.proofs.lemmas.Result.{err_from_is_err_and}
use Rattle.expression.proofs.Outcomes.{not_accepted}
use Rattle.parser.proofs.RepairWays.{repair_refused, repair_short, repair_few, repair_room, repair_buildable, repair_done}
use Rattle.parser.proofs.repair_by.Goals as goal

pub returns-in_err-tokens : goal.returns-in_err-tokens
returns-in_err-tokens c =
    let p = err_from_is_err_and c.from_residual.result c.from_residual.ensures.1 in
    rw (p.1, p.2) (repair_refused _ _ _ _ c.requires c.in_err-tokens.ensures (not_accepted _))

pub returns-then-out-length : goal.returns-then-out-length
returns-then-out-length c = repair_short _ _ _ _ c.requires c.in_ok-tokens.ensures refl c.if-out-length.true

pub build_into-requires : goal.build_into-requires
build_into-requires c =
    let y = c.in_ok-tokens.ensures in (
      repair_few _ _ c.args.out.now _ c.requires y refl,
      repair_room _ _ _ _ c.requires y refl c.if-out-length.false,
      repair_buildable _ _ c.args.out.now _ c.requires y refl,
    )

pub returns : goal.returns
returns c = repair_done _ _ _ _ c.requires c.in_ok-tokens.ensures refl c.if-out-length.false c.build_into.ensures
