-- The answers of `witness::shapes::two`. Assumes nothing.
use Rattle.std.proofs.Common.{arith, ap, length}
use Rattle.witness.proofs.ShapeWays.{longer}
use Rattle.witness.proofs.shapes.two.Goals as goal

pub fit-requires-2 : goal.fit-requires-2
fit-requires-2 c = omega (arith, ap length c.new-text.ensures, longer _ _ _ _ c.fit.ensures)

pub fit-requires-3 : goal.fit-requires-3
fit-requires-3 c = omega (arith, ap length c.new-text.ensures, longer _ _ _ _ c.fit.ensures, longer _ _ _ _ c.fit-2.ensures)
