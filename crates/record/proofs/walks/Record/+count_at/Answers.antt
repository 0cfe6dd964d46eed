-- What the steps of `count_at` give. Assumes nothing.
use Rattle.record.proofs.Counting.{no_node, a_leaf, a_bracketed, a_prefixed, a_leaf_infix, left_refused, an_infix}
use Rattle.record.proofs.walks.Record.+count_at.Goals as goal

pub returns-in_err-node-clause-counts : goal.returns-in_err-node-clause-counts
returns-in_err-node-clause-counts t c = rw c.from_residual.ensures (no_node _ c.loop-around.invariant c.in_err-node.ensures.node)

pub returns-in-Reading-clause-counts : goal.returns-in-Reading-clause-counts
returns-in-Reading-clause-counts t c = a_leaf _ c.loop-around.invariant c.in_ok-node.ensures.node c.in-Reading.is

pub loop-around-preserved-in-Bracket : goal.loop-around-preserved-in-Bracket
loop-around-preserved-in-Bracket t c = a_bracketed _ c.loop-around.invariant c.in_ok-node.ensures.node c.in-Bracket.is

pub loop-around-preserved-in-Prefix : goal.loop-around-preserved-in-Prefix
loop-around-preserved-in-Prefix t c = a_prefixed _ c.loop-around.invariant c.in_ok-node.ensures.node c.in-Prefix.is c.from.ensures c.sees_edge.ensures

pub returns-in_err-at-in_default-clause-counts : goal.returns-in_err-at-in_default-clause-counts
returns-in_err-at-in_default-clause-counts t c =
    rw c.from_residual-in_err-at-in_default.ensures
    (left_refused _ _ _ c.loop-around.invariant c.in_ok-node.ensures.node c.in-Operator.is c.in_err-at-in_default.ensures.counts)

pub loop-around-preserved-in-Some-Reading : goal.loop-around-preserved-in-Some-Reading
loop-around-preserved-in-Some-Reading t c =
    a_leaf_infix _ _ _ c.loop-around.invariant c.in_ok-node.ensures.node c.in-Operator.is c.from-in-Operator.ensures c.shows_top.ensures
    c.in-Some-Reading.ensures.node c.in-Some-Reading.field-0-is

pub loop-around-preserved : goal.loop-around-preserved
loop-around-preserved t c =
    an_infix _ _ _ c.loop-around.invariant c.in_ok-node.ensures.node c.in-Operator.is c.from-in-Operator.ensures c.shows_top.ensures c.in_ok-at-in_default.ensures.counts
    c.in_ok-at-in_default.ensures.onward.1
