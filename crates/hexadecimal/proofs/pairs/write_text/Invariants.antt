-- In the loop of `hexadecimal::pairs::write_text`, the text of the bytes before the place is written. Assumes nothing.
use Rattle.hexadecimal.proofs.PairWays.{Writing}
use Rattle.hexadecimal.proofs.pairs.write_text.Given as goal

abbrev pub invariant-loop-i : goal.invariant-loop-i
invariant-loop-i l = Writing l.fn.bytes l.fn.out l.out l.i
