-- What the steps of `mark_edges` give. Assumes nothing.
use Rattle.brackets.proofs.MarkingEdges.{a_leaf, a_bracketed, a_prefixed}
use Rattle.brackets.proofs.MarkingInfix.{left_stands, right_falls, an_infix, ways}
use Rattle.brackets.proofs.edges.+mark_edges.Goals as goal

pub returns-in-Reading : goal.returns-in-Reading
returns-in-Reading t c = a_leaf c.loop-at.invariant c.top_at.ensures c.in-Reading.is

pub loop-at-preserved-in-Bracket : goal.loop-at-preserved-in-Bracket
loop-at-preserved-in-Bracket t c = a_bracketed c.loop-at.invariant c.top_at.ensures c.in-Bracket.is

pub loop-at-preserved-in-Prefix : goal.loop-at-preserved-in-Prefix
loop-at-preserved-in-Prefix t c = a_prefixed c.loop-at.invariant c.top_at.ensures c.in-Prefix.is c.sees_edge-shown.ensures

pub mark_edges-seam-requires : goal.mark_edges-seam-requires
mark_edges-seam-requires t c = (search ways, (left_stands c.loop-at.invariant c.top_at.ensures c.in-Operator.is, c.loop-at.invariant.long))

pub loop-at-smaller : goal.loop-at-smaller
loop-at-smaller t c = right_falls c.loop-at.invariant c.top_at.ensures c.in-Operator.is c.mark_edges-seam.ensures (search ways)

pub loop-at-preserved : goal.loop-at-preserved
loop-at-preserved t c = an_infix c.loop-at.invariant c.top_at.ensures c.in-Operator.is c.mark_edges-seam.ensures c.seer_past-around.ensures
