-- In `parser::strangers::has_stranger`, the test of each byte is that of strangers, whose count of operators alone tells. Assumes nothing.
use Rattle.std.proofs.Common.{rules, []}
use Rattle.expression.specs.Token.{operators, class}
use Rattle.expression.specs.Checks.{strange_in_row}
use Rattle.sheet.specs.Layout.{operators_of}
use Rattle.parser.specs.Rows.{stranger_in_row}
use Rattle.parser.proofs.RowWays.{stranger_by_count}
use Rattle.parser.proofs.strangers.has_stranger.Goals as goal

pub returns : goal.returns
unfolding stranger_in_row
returns c =
    stranger_by_count (operators_of c.args.sheet.now) c.args.row.now c.operator_count-n.ensures
    (c.any.ensures (λ x. strange_in_row (class (operators c.operator_count-n.result []) x)) (λ x r k. search rules))
