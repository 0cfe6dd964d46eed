-- The numbers of outcomes. Assumes nothing.
use Prim.Native.Nat.{ℕ}
use native.Mathlib.Omega.{arith}
use mathlib.Core.Path.{◌≡◌}
use Rattle.expression.specs.Refusal.{accepted}
use Rattle.expression.specs.Outcome.{number_of}
use Rattle.expression.specs.declared.refusal.Refusal.{Refusal}
use Rattle.expression.specs.declared.refusal.Refusal.TheVariants.{Oversize, Torn, Stranger, Dead, Double, NoRow, NoTree, Place, Empty, Short, InUse, Frame, NoMeaning, NoReading, NothingStaged, OtherRow, Conflict}

-- no refusal has the number of success
pub not_accepted : (e : Refusal) → number_of e ≡ accepted → ⊥
not_accepted Oversize z = omega arith
not_accepted Torn z = omega arith
not_accepted Stranger z = omega arith
not_accepted Dead z = omega arith
not_accepted Double z = omega arith
not_accepted NoRow z = omega arith
not_accepted NoTree z = omega arith
not_accepted Place z = omega arith
not_accepted Empty z = omega arith
not_accepted Short z = omega arith
not_accepted InUse z = omega arith
not_accepted Frame z = omega arith
not_accepted NoMeaning z = omega arith
not_accepted NoReading z = omega arith
not_accepted NothingStaged z = omega arith
not_accepted OtherRow z = omega arith
not_accepted Conflict z = omega arith
