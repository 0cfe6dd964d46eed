-- What the steps of `write_row` give. Assumes nothing.
use Rattle.record.proofs.Writing.{no_node, full, a_leaf, a_prefixed, inner_refused, inner_full, a_bracketed, left_leaf, two_on, one_fits, left_refused, two_full, an_infix}
use Rattle.record.proofs.walks.Record.+write_row.Goals as goal
use Rattle.std.proofs.Common.{refl}

pub returns-in_err-a-clause-writes : goal.returns-in_err-a-clause-writes
returns-in_err-a-clause-writes t c = rw c.from_residual.ensures (no_node c.loop-a.invariant c.in_err-a.ensures.node)

pub returns-in_err-push-in-Reading-clause-writes : goal.returns-in_err-push-in-Reading-clause-writes
returns-in_err-push-in-Reading-clause-writes t c =
    rw (c.from_residual-in_err-push-in-Reading.ensures, c.in_err-push-in-Reading.ensures.1) (full c.loop-a.invariant c.in_err-push-in-Reading.ensures.0)

pub returns-in-Reading-clause-writes : goal.returns-in-Reading-clause-writes
returns-in-Reading-clause-writes t c =
    a_leaf c.loop-a.invariant c.in_ok-a.ensures.node c.in-Reading.is c.in_ok-push-in-Reading.ensures.0 c.in_ok-push-in-Reading.ensures.1

pub returns-in_err-push-in-Bracket-clause-writes : goal.returns-in_err-push-in-Bracket-clause-writes
returns-in_err-push-in-Bracket-clause-writes t c =
    rw (c.from_residual-in_err-push-in-Bracket.ensures, c.in_err-push-in-Bracket.ensures.1) (full c.loop-a.invariant c.in_err-push-in-Bracket.ensures.0)

pub returns-in_err-end-in-Bracket-clause-writes : goal.returns-in_err-end-in-Bracket-clause-writes
returns-in_err-end-in-Bracket-clause-writes t c =
    rw c.from_residual-in_err-end-in-Bracket.ensures
    (inner_refused c.loop-a.invariant c.in_ok-a.ensures.node c.in-Bracket.is c.in_ok-push-in-Bracket.ensures.1 c.in_err-end-in-Bracket.ensures.writes)

pub returns-in_err-push-in-Bracket-2-clause-writes : goal.returns-in_err-push-in-Bracket-2-clause-writes
returns-in_err-push-in-Bracket-2-clause-writes t c =
    rw (c.from_residual-in_err-push-in-Bracket-2.ensures, c.in_err-push-in-Bracket-2.ensures.1)
    (inner_full c.loop-a.invariant c.in_ok-a.ensures.node c.in-Bracket.is c.in_ok-push-in-Bracket.ensures.1 c.in_ok-end-in-Bracket.ensures.writes
    c.in_err-push-in-Bracket-2.ensures.0)

pub returns-in-Bracket-clause-writes : goal.returns-in-Bracket-clause-writes
returns-in-Bracket-clause-writes t c =
    a_bracketed c.loop-a.invariant c.in_ok-a.ensures.node c.in-Bracket.is c.in_ok-push-in-Bracket.ensures.1 c.in_ok-end-in-Bracket.ensures.writes
    c.in_ok-push-in-Bracket-2.ensures.0 c.in_ok-push-in-Bracket-2.ensures.1

pub returns-in_err-push-in-Prefix-clause-writes : goal.returns-in_err-push-in-Prefix-clause-writes
returns-in_err-push-in-Prefix-clause-writes t c =
    rw (c.from_residual-in_err-push-in-Prefix.ensures, c.in_err-push-in-Prefix.ensures.1) (full c.loop-a.invariant c.in_err-push-in-Prefix.ensures.0)

pub loop-a-preserved-in-Prefix : goal.loop-a-preserved-in-Prefix
loop-a-preserved-in-Prefix t c = a_prefixed c.loop-a.invariant c.in_ok-a.ensures.node c.in-Prefix.is c.in_ok-push-in-Prefix.ensures.1

pub returns-in_err-push_two-in-Some-Reading-clause-writes : goal.returns-in_err-push_two-in-Some-Reading-clause-writes
returns-in_err-push_two-in-Some-Reading-clause-writes t c =
    rw (c.from_residual-in_err-push_two-in-Some-Reading.ensures, c.in_err-push_two-in-Some-Reading.ensures.1)
    (two_full _ _ _ c.loop-a.invariant c.in_ok-a.ensures.node c.in-Operator.is c.in_err-push_two-in-Some-Reading.ensures.0)

pub returns-in_err-at-in_default-clause-writes : goal.returns-in_err-at-in_default-clause-writes
returns-in_err-at-in_default-clause-writes t c =
    rw c.from_residual-in_err-at-in_default.ensures
    (left_refused _ _ _ c.loop-a.invariant c.in_ok-a.ensures.node c.in-Operator.is c.in_err-at-in_default.ensures.writes)

pub loop-a-preserved-in-Reading-node-2 : goal.loop-a-preserved-in-Reading-node-2
loop-a-preserved-in-Reading-node-2 t c =
    let two = c.in_ok-push_two-in-Some-Reading.ensures in
    let h = left_leaf _ c.in-Some-Reading.ensures.node c.in-Some-Reading.field-0-is (one_fits _ _ _ two.1 two.0) refl in
    an_infix _ _ _ c.loop-a.invariant c.in_ok-a.ensures.node c.in-Operator.is h (two_on _ _ _ two.1)

pub loop-a-preserved : goal.loop-a-preserved
loop-a-preserved t c =
    an_infix _ _ _ c.loop-a.invariant c.in_ok-a.ensures.node c.in-Operator.is c.in_ok-at-in_default.ensures.writes c.in_ok-push-in_default.ensures.1
