-- In the loop of `relation::chains::chain`, the table is chained through every operator before k. Assumes nothing.
use Rattle.std.proofs.Common.{◌≡◌}
use Rattle.relation.specs.Chaining.{chained}
use Rattle.relation.proofs.chains.chain.Given as goal

abbrev pub invariant-loop-k : goal.invariant-loop-k
invariant-loop-k l = l.table ≡ chained l.fn.count.n l.k l.fn.table
