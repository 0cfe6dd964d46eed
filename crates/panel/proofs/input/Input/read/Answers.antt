-- `panel::input::Input::read`: what is kept goes to the front, and the read behind it. Assumes nothing.
use Rattle.std.proofs.Common.{◌≡◌, take, drop, arith}
use Rattle.panel.proofs.TurnWays.{fetched_none, fetched}
use Rattle.panel.proofs.input.Input.read.Goals as goal

pub returns-in-Ok : goal.returns-in-Ok
returns-in-Ok c =
    let i = c.self.inside in
    let v : c.args.self.now ≡ drop i.rest (take i.to i.bytes) = cc in
    let b = c.in-Ok.ensures.bound.0 in
    fetched i.bytes i.rest i.to v (omega arith) (omega arith) (omega arith) c.move_to_front.ensures c.read.new.buf _ (omega arith) c.in-Ok.count b
    (omega (arith, b))

pub returns-in-Err : goal.returns-in-Err
returns-in-Err c =
    let i = c.self.inside in
    let v : c.args.self.now ≡ drop i.rest (take i.to i.bytes) = cc in
    fetched_none i.bytes i.rest i.to v (omega arith) (omega arith) (omega arith) c.move_to_front.ensures c.read.new.buf _ (omega arith) c.in-Err.error
