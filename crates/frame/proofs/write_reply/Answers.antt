-- `frame::write_reply`: the output has room for the number and for the answer. Assumes nothing.
use Rattle.std.proofs.Common.{rules}
use Rattle.frame.proofs.LineWays.{head_fits, tail_fits, written}
use Rattle.frame.proofs.write_reply.Goals as goal

pub unwrap-from-requires : goal.unwrap-from-requires
unwrap-from-requires c = search (rules, head_fits)

pub unwrap-requires : goal.unwrap-requires
unwrap-requires c = search (rules, tail_fits)

pub returns : goal.returns
returns c = search (rules, written)
