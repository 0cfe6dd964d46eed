-- The walk of `evaluator::lent::Lent`: the bytes that are left fall. Assumes nothing.
use Rattle.evaluator.proofs.Walking.{node_due, operand_due}
use Rattle.evaluator.proofs.lent.Lent.+walk.Given as goal

abbrev pub decreases-node_value : goal.decreases-node_value
decreases-node_value l = node_due l.self.now.bytes.now l.at.now

abbrev pub decreases-value_at : goal.decreases-value_at
decreases-value_at l = operand_due l.self.now.bytes.now l.at.now
