-- The answers of `parser::row::record_bytes`. Assumes nothing.
use Rattle.parser.proofs.AnswerWays.{bytes_ways}
use Rattle.parser.proofs.row.record_bytes.Goals as goal

pub loop-c-preserved : goal.loop-c-preserved
loop-c-preserved c = search bytes_ways

pub overflow_add-count : goal.overflow_add-count
overflow_add-count c = search bytes_ways
