-- In the loop of `explain::lines::take_bytes`, the bytes before the place are taken. Assumes nothing.
use Rattle.explain.proofs.ReadWays.{Taking}
use Rattle.explain.proofs.lines.take_bytes.Given as goal

abbrev pub invariant-loop-byte : goal.invariant-loop-byte
invariant-loop-byte l = Taking l.bytes l.fn.line l.line l.out l.byte-index
