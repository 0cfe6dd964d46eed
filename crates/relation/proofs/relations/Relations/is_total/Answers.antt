-- The answer of `relation::relations::Relations::is_total`. Assumes nothing.
use Rattle.std.proofs.Common.{rules}
use Rattle.disambiguation.specs.Verdict.{total}
use Rattle.relation.specs.Relations.{ops, closing, yielding}
use Rattle.relation.specs.Tests.{each_in_one, total_for}
use Rattle.relation.proofs.Testing.{total_here}
use Rattle.relation.proofs.relations.Relations.is_total.Goals as goal

pub returns : goal.returns
unfolding total total_for each_in_one
returns c = c.all.ensures (total_for (ops c.args.self.now) (yielding c.args.self.now) (closing c.args.self.now)) (λ a r l k. search (rules, total_here))
