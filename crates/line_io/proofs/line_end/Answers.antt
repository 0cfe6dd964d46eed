-- `line_io::line_end`: the steps are left out that have no line end, and then the bytes. Assumes nothing.
use Rattle.std.proofs.Common.{rules}
use Rattle.line_io.proofs.LineWays.{outside, not_found, found}
use Rattle.line_io.proofs.line_end.Goals as goal

pub returns-in_err-rest : goal.returns-in_err-rest
returns-in_err-rest c = search (rules, outside)

pub returns-in_err-more : goal.returns-in_err-more
returns-in_err-more c = search (rules, not_found)

pub returns : goal.returns
returns c =
    found c.args.buf.now c.in_ok-rest.rest.now c.args.from c.in_ok-rest.ensures.lookup.0.0 c.in_ok-rest.ensures.lookup.0.2 c.as_chunks.ensures.front c.first_step.ensures
    c.unwrap_or-skipped.ensures c.first_end.ensures c.in_ok-more.was
