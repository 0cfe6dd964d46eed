-- The answer of `witness::shapes::Pair::two_trees`. Assumes nothing.
use Rattle.witness.proofs.ShapeWays.{two_told}
use Rattle.witness.proofs.shapes.Pair.two_trees.Goals as goal

pub returns : goal.returns
returns c = rw c.two.ensures (two_told _ _ c.args.self.few.0 c.args.self.few.1 _)
