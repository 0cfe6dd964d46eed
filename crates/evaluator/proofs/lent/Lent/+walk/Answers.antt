-- The answers of the walk of `evaluator::lent::Lent`. Assumes nothing.
use mathlib.Core.Path.{refl}
use borrow.Author.Rules.{rules}
use Rattle.evaluator.proofs.Walking.{walk_ways, operand_evaluable, prefix_value, left_evaluable, right_falls, right_evaluable, infix_value}
use Rattle.evaluator.proofs.lent.Lent.+walk.Goals as goal

pub node_value-bounds-self-here : goal.node_value-bounds-self-here
node_value-bounds-self-here t c = search walk_ways

pub node_value-overflow_add-at : goal.node_value-overflow_add-at
node_value-overflow_add-at t c = search walk_ways

pub node_value-value_at-requires : goal.node_value-value_at-requires
node_value-value_at-requires t c = search walk_ways

pub node_value-bounds-self-byte : goal.node_value-bounds-self-byte
node_value-bounds-self-byte t c = search walk_ways

pub value_at-bounds-self-here : goal.value_at-bounds-self-here
value_at-bounds-self-here t c = search walk_ways

pub value_at-bounds-self-byte : goal.value_at-bounds-self-byte
value_at-bounds-self-byte t c = search walk_ways

pub node_value-returns-then-byte-eq-OPENING : goal.node_value-returns-then-byte-eq-OPENING
node_value-returns-then-byte-eq-OPENING t c = search walk_ways

pub value_at-returns : goal.value_at-returns
value_at-returns t c = search walk_ways

pub node_value-value_at-operand-requires : goal.node_value-value_at-operand-requires
node_value-value_at-operand-requires t c = (search walk_ways, operand_evaluable c.requires.evaluable c.requires.at_bound c.if-byte-eq-OPENING.false c.in-Ok.ensures)

pub node_value-returns-in-Ok : goal.node_value-returns-in-Ok
node_value-returns-in-Ok t c = search (prefix_value c.requires.evaluable c.requires.at_bound c.if-byte-eq-OPENING.false c.in-Ok.ensures, rules)

pub node_value-value_at-left-requires : goal.node_value-value_at-left-requires
node_value-value_at-left-requires t c = (search walk_ways, left_evaluable c.requires.evaluable c.requires.at_bound c.if-byte-eq-OPENING.false c.in_default.ensures.0)

pub node_value-value_at-right-requires : goal.node_value-value_at-right-requires
node_value-value_at-right-requires t c = (search (right_falls c.requires.evaluable c.requires.at_bound c.if-byte-eq-OPENING.false c.in_default.ensures.0, rules), search (right_evaluable c.requires.evaluable c.requires.at_bound c.if-byte-eq-OPENING.false c.in_default.ensures.0, rules))

pub node_value-returns : goal.node_value-returns
node_value-returns t c =
    infix_value c.requires.evaluable c.requires.at_bound c.if-byte-eq-OPENING.false c.in_default.ensures.0 c.value_at-left.ensures c.value_at-right.ensures
    (search rules) (search rules) (search rules) refl c.apply-2.ensures
