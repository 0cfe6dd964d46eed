-- What the steps of `write_operand` give. Assumes nothing.
use Rattle.brackets.proofs.Walking.{inside, by_edge, by_top, wrapped_stands, close_room, wrapped}
use Rattle.brackets.proofs.WalkingNodes.{a_leaf, a_bracketed, a_prefixed}
use Rattle.brackets.proofs.WalkingInfix.{left_leaf, left_walked, left_here, left_stands, seam_room, right_falls, an_infix, ways}
use Rattle.brackets.proofs.walk.Marked.+write_operand.Goals as goal
use Rattle.brackets.proofs.walk.Marked.+write_operand.Goals.{in-Reading-top_at, in_default-top_at}

pub write_operand-end-requires : goal.write_operand-end-requires
write_operand-end-requires t c = (search ways, wrapped_stands c.loop-side.invariant (by_edge c.loop-side.invariant c.in-Shown.is) c.put.ensures)

pub put-requires-in-Shown : goal.put-requires-in-Shown
put-requires-in-Shown t c = close_room c.loop-side.invariant (by_edge c.loop-side.invariant c.in-Shown.is) c.put.ensures c.write_operand-end.ensures

pub returns-in-Shown : goal.returns-in-Shown
returns-in-Shown t c = wrapped c.loop-side.invariant (by_edge c.loop-side.invariant c.in-Shown.is) c.put.ensures c.write_operand-end.ensures c.put-in-Shown.ensures

pub returns-in-Reading : goal.returns-in-Reading
returns-in-Reading t c = a_leaf c.loop-side.invariant c.top_at.ensures c.in-Reading.is c.put-in-Reading.ensures

pub loop-side-preserved-in-Bracket : goal.loop-side-preserved-in-Bracket
loop-side-preserved-in-Bracket t c = a_bracketed c.loop-side.invariant c.top_at.ensures c.in-Bracket.is

pub loop-side-smaller-in-Bracket : goal.loop-side-smaller-in-Bracket
loop-side-smaller-in-Bracket t c = let d = inside c.loop-side.invariant in search ways

pub loop-side-preserved-in-Prefix : goal.loop-side-preserved-in-Prefix
loop-side-preserved-in-Prefix t c = a_prefixed c.loop-side.invariant c.top_at.ensures c.in_default.not-Shown c.in-Prefix.is c.put-in-Prefix.ensures

pub loop-side-smaller-in-Prefix : goal.loop-side-smaller-in-Prefix
loop-side-smaller-in-Prefix t c = let d = inside c.loop-side.invariant in search ways

pub write_operand-end-requires-then-shows : goal.write_operand-end-requires-then-shows
write_operand-end-requires-then-shows t c =
    (search ways, wrapped_stands c.loop-side.invariant (by_top c.loop-side.invariant c.top_at.ensures c.in-Operator.is c.shows.ensures c.if-shows.true) c.put-then-shows.ensures)

pub put-requires-then-shows-2 : goal.put-requires-then-shows-2
put-requires-then-shows-2 t c =
    close_room c.loop-side.invariant (by_top c.loop-side.invariant c.top_at.ensures c.in-Operator.is c.shows.ensures c.if-shows.true) c.put-then-shows.ensures
    c.write_operand-end-then-shows.ensures

pub returns-then-shows : goal.returns-then-shows
returns-then-shows t c =
    wrapped c.loop-side.invariant (by_top c.loop-side.invariant c.top_at.ensures c.in-Operator.is c.shows.ensures c.if-shows.true) c.put-then-shows.ensures
    c.write_operand-end-then-shows.ensures c.put-then-shows-2.ensures

pub top_at-requires-in-Operator : goal.top_at-requires-in-Operator
top_at-requires-in-Operator t c = left_here c.loop-side.invariant c.top_at.ensures c.in-Operator.is c.in_default.not-Shown c.shows.ensures c.if-shows.false

pub bounds-self-at : goal.bounds-self-at
bounds-self-at t c = inside c.loop-side.invariant

pub write_operand-at-requires : goal.write_operand-at-requires
write_operand-at-requires t c =
    (search ways, left_stands c.loop-side.invariant c.top_at.ensures c.in-Operator.is c.in_default.not-Shown c.shows.ensures c.if-shows.false c.left_side.ensures)

pub put-requires-in-Operator : goal.put-requires-in-Operator
put-requires-in-Operator t c =
    elim c.match-top_at-2.branch [
      | in-Reading-top_at w ↦
          let h = left_leaf c.in-Operator.o c.top_at-in-Operator.ensures w.in-Reading-top_at.is w.put-in-Reading-top_at.ensures in
          seam_room c.loop-side.invariant c.top_at.ensures c.in-Operator.is c.in_default.not-Shown c.shows.ensures c.if-shows.false {mid = c.match-top_at-2.at}
          (rw (w.row-is, w.at-is) h)
      | in_default-top_at w ↦
          seam_room c.loop-side.invariant c.top_at.ensures c.in-Operator.is c.in_default.not-Shown c.shows.ensures c.if-shows.false {mid = c.match-top_at-2.at}
          (rw (w.row-is, w.at-is) (left_walked _ w.left_side.ensures w.write_operand-at.ensures))
    ]

pub loop-side-smaller : goal.loop-side-smaller
loop-side-smaller t c =
    elim c.match-top_at-2.branch [
      | in-Reading-top_at w ↦
          let h = left_leaf c.in-Operator.o c.top_at-in-Operator.ensures w.in-Reading-top_at.is w.put-in-Reading-top_at.ensures in
          right_falls c.loop-side.invariant c.top_at.ensures c.in-Operator.is c.in_default.not-Shown c.shows.ensures c.if-shows.false {middle = c.match-top_at-2.row} {mid = c.match-top_at-2.at}
          (rw (w.row-is, w.at-is) h) (search ways)
      | in_default-top_at w ↦
          right_falls c.loop-side.invariant c.top_at.ensures c.in-Operator.is c.in_default.not-Shown c.shows.ensures c.if-shows.false {middle = c.match-top_at-2.row} {mid = c.match-top_at-2.at}
          (rw (w.row-is, w.at-is) (left_walked _ w.left_side.ensures w.write_operand-at.ensures)) (search ways)
    ]

pub loop-side-preserved : goal.loop-side-preserved
loop-side-preserved t c =
    elim c.match-top_at-2.branch [
      | in-Reading-top_at w ↦
          let h = left_leaf c.in-Operator.o c.top_at-in-Operator.ensures w.in-Reading-top_at.is w.put-in-Reading-top_at.ensures in
          an_infix c.loop-side.invariant c.top_at.ensures c.in-Operator.is c.in_default.not-Shown c.shows.ensures c.if-shows.false {mid = c.match-top_at-2.at}
          (rw (w.row-is, w.at-is) h) c.put-in-Operator.ensures
      | in_default-top_at w ↦
          an_infix c.loop-side.invariant c.top_at.ensures c.in-Operator.is c.in_default.not-Shown c.shows.ensures c.if-shows.false {mid = c.match-top_at-2.at}
          (rw (w.row-is, w.at-is) (left_walked _ w.left_side.ensures w.write_operand-at.ensures)) c.put-in-Operator.ensures
    ]
