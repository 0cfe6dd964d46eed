-- The answer of `relation::relations::Relations::is_level`. Assumes nothing.
use Rattle.std.proofs.Common.{rules}
use Rattle.disambiguation.specs.Verdict.{level}
use Rattle.relation.specs.Relations.{ops, closing}
use Rattle.relation.specs.Tests.{level_pair, level_for}
use Rattle.relation.proofs.relations.Relations.is_level.Goals as goal

pub returns : goal.returns
unfolding level level_for level_pair
returns c = c.all.ensures (level_for (ops c.args.self.now) (closing c.args.self.now)) (λ a r l k. search rules)
