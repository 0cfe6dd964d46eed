-- The answers of `monitor::rebuild::one`. Assumes nothing.
use native.Mathlib.Omega.{arith}
use Rattle.monitor.proofs.StoreWays.{kept_tree, new_tree}
use Rattle.monitor.proofs.rebuild.one.Goals as goal

pub returns-in-Ok : goal.returns-in-Ok
returns-in-Ok c = new_tree _ _ _ (omega arith) c.held_record.ensures c.in-Ok.ensures c.put.ensures

pub returns-in_default : goal.returns-in_default
returns-in_default c = kept_tree _ _ _ (omega arith) c.held_record.ensures _ c.in_default.ensures
