-- The answer of `relation::relations::Relations::is_safe`. Assumes nothing.
use Rattle.std.proofs.Common.{rules}
use Rattle.disambiguation.specs.Verdict.{safe}
use Rattle.relation.specs.Relations.{ops, closing, yielding}
use Rattle.relation.specs.Tests.{none_in_both, safe_for}
use Rattle.relation.proofs.Testing.{safe_here}
use Rattle.relation.proofs.relations.Relations.is_safe.Goals as goal

pub returns : goal.returns
unfolding safe safe_for none_in_both
returns c = c.all.ensures (safe_for (ops c.args.self.now) (yielding c.args.self.now) (closing c.args.self.now)) (λ a r l k. search (rules, safe_here))
