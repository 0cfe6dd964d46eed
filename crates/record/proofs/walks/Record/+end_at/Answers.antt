-- What the steps of `end_at` give. Assumes nothing.
use mathlib.Core.Logic.{⊎_elim}
use Rattle.record.proofs.Reaching.{a_leaf, a_bracketed, a_prefixed, left_leaf, an_infix}
use Rattle.record.proofs.walks.Record.+end_at.Goals as goal

pub returns-in-Reading-clause-reaches : goal.returns-in-Reading-clause-reaches
returns-in-Reading-clause-reaches t c = a_leaf c.loop-at.invariant c.in_ok-node.ensures.node c.in-Reading.is

pub loop-at-preserved-in-Bracket : goal.loop-at-preserved-in-Bracket
loop-at-preserved-in-Bracket t c =
    ⊎_elim (λ b. a_bracketed c.loop-at.invariant c.in_ok-node.ensures.node b) (λ p. a_prefixed c.loop-at.invariant c.in_ok-node.ensures.node p.1) c.in-Bracket.is

pub loop-at-preserved-in-Some-Reading : goal.loop-at-preserved-in-Some-Reading
loop-at-preserved-in-Some-Reading t c =
    an_infix _ _ _ c.loop-at.invariant c.in_ok-node.ensures.node c.in-Operator.is (left_leaf _ c.in-Some-Reading.ensures.node c.in-Some-Reading.field-0-is)

pub loop-at-preserved : goal.loop-at-preserved
loop-at-preserved t c = an_infix _ _ _ c.loop-at.invariant c.in_ok-node.ensures.node c.in-Operator.is c.in_ok-at-in_default.ensures.reaches
