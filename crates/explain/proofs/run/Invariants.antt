-- In the loop of `explain::run`, what follows the reads that were made stands, and each has led to the next. Assumes nothing.
use Rattle.std.proofs.Common.{◌≡◌, true, length}
use Rattle.explain.specs.CallContracts.{block, Runs}
use Rattle.explain.proofs.run.Given as goal

abbrev pub invariant-loop-turn : goal.invariant-loop-turn
invariant-loop-turn l = record { runs : Runs l.line l.out true; input : length l.buf ≡ block }
