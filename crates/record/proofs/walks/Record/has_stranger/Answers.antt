-- What `has_stranger` returns. Assumes nothing.
use borrow.Author.Rules.{rules}
use Rattle.record.specs.Checks.{stranger_in_record}
use Rattle.record.proofs.Checking.{strange, stranger_by_count}
use Rattle.record.proofs.walks.Record.has_stranger.Goals as goal

pub returns : goal.returns
unfolding stranger_in_record
returns c = stranger_by_count _ c.args.self.now.bytes.now c.operator_count-n.ensures (c.any.ensures (strange c.operator_count-n.result) (λ b r k. search rules))
