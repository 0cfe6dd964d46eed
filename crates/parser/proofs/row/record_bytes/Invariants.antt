-- In the loop of `parser::row::record_bytes`, the bytes of the tokens before the place are counted. Assumes nothing.
use Rattle.parser.proofs.AnswerWays.{Counted}
use Rattle.parser.proofs.row.record_bytes.Given as goal

abbrev pub invariant-loop-c : goal.invariant-loop-c
invariant-loop-c l = Counted l.row l.count l.c-index
