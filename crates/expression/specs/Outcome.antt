-- What a call comes to: accepted, with what it answers, or turned down for a reason. Assumes nothing.
use Rattle.std.specs.Prelude.{ℕ, Result, Ok, Err}
use Rattle.expression.specs.Refusal.{accepted, oversize, torn, stranger, dead, double, no_row, no_tree, place, empty, short, in_use, frame, no_meaning, no_reading, nothing_staged, other_row, conflict}
use Rattle.expression.specs.declared.refusal.Refusal.{Refusal}
use Rattle.expression.specs.declared.refusal.Refusal.TheVariants.{Oversize, Torn, Stranger, Dead, Double, NoRow, NoTree, Place, Empty, Short, InUse, Frame, NoMeaning, NoReading, NothingStaged, OtherRow, Conflict}

abbrev pub number_of : Refusal → ℕ
number_of Oversize = oversize
number_of Torn = torn
number_of Stranger = stranger
number_of Dead = dead
number_of Double = double
number_of NoRow = no_row
number_of NoTree = no_tree
number_of Place = place
number_of Empty = empty
number_of Short = short
number_of InUse = in_use
number_of Frame = frame
number_of NoMeaning = no_meaning
number_of NoReading = no_reading
number_of NothingStaged = nothing_staged
number_of OtherRow = other_row
number_of Conflict = conflict

-- 0 where it is accepted
abbrev pub number_in : {A : Type 0} → Result A Refusal → ℕ
number_in (Ok answer) = accepted
number_in (Err refusal) = number_of refusal

-- the number that it answers; 0 after a refusal
abbrev pub count_in : Result ℕ Refusal → ℕ
count_in (Ok count) = count
count_in (Err refusal) = 0
