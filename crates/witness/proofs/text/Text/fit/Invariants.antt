-- In the loop of `witness::text::Text::fit`, the bytes of the shape before the place stand fitted behind the others. Assumes nothing.
use Rattle.std.proofs.Common.{◌≡◌, ◌++◌, take}
use Rattle.witness.specs.Shapes.{fitted}
use Rattle.witness.proofs.text.Text.fit.Given as goal

abbrev pub invariant-loop-c : goal.invariant-loop-c
invariant-loop-c l = l.self ≡ l.fn.self ++ fitted l.prefix (take l.c-index l.shape)
