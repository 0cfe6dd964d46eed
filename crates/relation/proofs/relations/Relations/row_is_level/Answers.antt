-- The answer of `relation::relations::Relations::row_is_level`. Assumes nothing.
use Rattle.std.proofs.Common.{rules}
use Rattle.relation.specs.Tests.{level_for}
use Rattle.relation.proofs.relations.Relations.row_is_level.Goals as goal

pub returns : goal.returns
unfolding level_for
returns c = c.all.ensures _ (λ b r l k. search rules)
