-- In the loop of `relation::chains::pass`, the words before a are joined with k's row. Assumes nothing.
use Rattle.std.proofs.Common.{◌≡◌}
use Rattle.relation.specs.Chaining.{passed}
use Rattle.relation.proofs.chains.pass.Given as goal

abbrev pub invariant-loop-a : goal.invariant-loop-a
invariant-loop-a l = l.table ≡ passed l.a l.k l.fn.table
