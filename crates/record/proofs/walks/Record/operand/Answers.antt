-- Where an operator's operands stand. Assumes nothing.
use Rattle.record.proofs.OperandPlaces.{right_cut, operator_left}
use Rattle.record.proofs.walks.Record.operand.Goals as goal

pub returns-then-end-size : goal.returns-then-end-size
returns-then-end-size c =
    right_cut _ _ _ c.in_ok-node.ensures.node c.in-Operator.is c.in_ok-mid-in-Operator.ensures.reaches c.in_ok-end-in-Operator.ensures.reaches c.if-end-size.true

pub returns-else-right-2 : goal.returns-else-right-2
returns-else-right-2 c =
    operator_left _ _ _ c.in_ok-node.ensures.node c.in-Operator.is c.in_ok-mid-in-Operator.ensures.reaches c.in_ok-end-in-Operator.ensures.reaches c.args.self.now.few
    c.row_length.ensures c.if-row_length-gt-MOST_TOKENS.false c.if-end-size.false c.if-right-2.false
