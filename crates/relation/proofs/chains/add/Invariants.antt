-- In the loop of `relation::chains::add`, the pairs of the operators before a are in. Assumes nothing.
use Rattle.std.proofs.Common.{◌≡◌}
use Rattle.relation.specs.Kinds.{code_of}
use Rattle.relation.specs.Chaining.{added}
use Rattle.relation.proofs.chains.add.Given as goal

abbrev pub invariant-loop-a : goal.invariant-loop-a
invariant-loop-a l = l.table ≡ added l.a (code_of l.kind) l.marks l.fn.table
