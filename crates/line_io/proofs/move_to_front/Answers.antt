-- `line_io::move_to_front`: the part is copied to the front, or is no part. Assumes nothing.
use Rattle.std.proofs.Common.{◌∙◌}
use Rattle.line_io.proofs.MoveWays.{moved, not_moved}
use Rattle.line_io.proofs.move_to_front.Goals as goal

pub returns-then-to-buf : goal.returns-then-to-buf
returns-then-to-buf c = c.copy_within.ensures.after ∙ moved c.args.buf.now c.args.from c.args.to c.if-from-to.true c.if-to-buf.true

pub returns-else-from-to : goal.returns-else-from-to
returns-else-from-to c = not_moved c.args.buf.now c.args.from c.args.to c.else-from-to.either
