-- The answers of `witness::shapes::Triple::two_trees`. Assumes nothing.
use Rattle.witness.proofs.ShapeWays.{closing_told, yielding_told}
use Rattle.witness.proofs.shapes.Triple.two_trees.Goals as goal

pub returns-then-closes : goal.returns-then-closes
returns-then-closes c = rw (c.if-closes.true, c.two.ensures) (closing_told _ _ c.args.self.few.0 c.args.self.few.1 _ c.args.self.few.2 _)

pub returns-else-closes : goal.returns-else-closes
returns-else-closes c = rw (c.if-closes.false, c.two-else-closes.ensures) (yielding_told _ _ c.args.self.few.0 c.args.self.few.1 _ c.args.self.few.2 _)
