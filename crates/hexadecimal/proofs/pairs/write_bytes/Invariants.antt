-- In the loop of `hexadecimal::pairs::write_bytes`, the bytes of the pairs before the place are written. Assumes nothing.
use Rattle.hexadecimal.proofs.PairWays.{Reading}
use Rattle.hexadecimal.proofs.pairs.write_bytes.Given as goal

abbrev pub invariant-loop-i : goal.invariant-loop-i
invariant-loop-i l = Reading l.fn.line l.fn.out l.pairs l.out l.i
