-- The bytes behind those that are left list so many trees. Assumes nothing.
use Rattle.std.proofs.Common.{length}
use Rattle.sheet.specs.Layout.{operators_of}
use Rattle.record.proofs.ListedTrees.{Counted}
use Rattle.record.proofs.walks.Record.trees_listed.Given as goal

abbrev pub invariant-loop-rest : goal.invariant-loop-rest
invariant-loop-rest l = Counted (operators_of l.self.sheet.now) l.self.bytes.now l.rest l.listed

abbrev pub decreases-loop-rest : goal.decreases-loop-rest
decreases-loop-rest l = length l.rest
