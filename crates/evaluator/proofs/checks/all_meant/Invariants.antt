-- The loop of `evaluator::checks::all_meant`: what it answers of the operators before o is known. Assumes nothing.
use mathlib.Core.Path.{◌≡◌}
use Rattle.evaluator.specs.Bytes.{all_meant}
use Rattle.evaluator.proofs.checks.all_meant.Given as goal

abbrev pub invariant-loop-o : goal.invariant-loop-o
invariant-loop-o l = l.meant ≡ all_meant l.sheet l.lent l.o
