-- In the loop of `parser::row::Row::pairs_end`, a reading and the infix operator behind it are passed. Assumes nothing.
use Rattle.std.proofs.Common.{rules, ◌≡◌, Some, sym, ◌∙◌}
use Rattle.parser.specs.declared.row.Token.TheVariants.{Operator}
use Rattle.parser.proofs.ReaderWays.{pair_led}
use Rattle.parser.proofs.row.Row.pairs_end.Goals as goal

pub loop-next-preserved : goal.loop-next-preserved
loop-next-preserved c =
    let operator : c.token_at.result ≡ Some Operator = search rules in
    pair_led _ _ c.loop-next.invariant (search rules) c.loop-next-test.true c.if-row-next-ge-FIRST_READING.true (sym c.token_at.ensures ∙ operator)
