-- The answer of `witness::shapes::Pair::no_tree`. Assumes nothing.
use Rattle.witness.proofs.ShapeWays.{none_told}
use Rattle.witness.proofs.shapes.Pair.no_tree.Goals as goal

pub returns : goal.returns
returns c = rw (c.fit.ensures, c.new-text.ensures) (none_told _ _ c.args.self.few.0 c.args.self.few.1 _)
