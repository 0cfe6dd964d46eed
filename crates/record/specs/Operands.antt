-- The place of an operand in its record. Assumes nothing.
use Rattle.std.specs.Prelude.{ℕ, ◌-◌, ◌<◌, ◌≤◌, ◌≡◌, Bool, true, false, Option, Some, None, List, length, take, drop}
use Rattle.expression.specs.Token.{Operators}
use Rattle.expression.specs.Operand.{operand_part}
use Rattle.record.specs.declared.operands.Part.{Part}

-- the part between two places; the empty one where there is none
abbrev pub part_of : Option (ℕ × ℕ) → Part
part_of (Some p) = record { from = p.0; to = p.1 }
part_of None = record { from = 0; to = 0 }

-- The part p of the record is the operand; it is empty where there is none.
pub record OperandAt (ops : Operators) (right : Bool) (bytes : List ℕ) (p : Part) : Type 0 where
  pub ordered : p.from ≤ p.to
  pub within : p.to ≤ length bytes
  pub stands : take (p.to - p.from) (drop p.from bytes) ≡ operand_part ops right bytes
  -- a part that is not empty is the operand's own, not bytes like it elsewhere: the left one begins behind the top node, the right one ends with the record
  pub left_place : right ≡ false → p.from < p.to → p.from ≡ 1
  pub right_place : right ≡ true → p.from < p.to → p.to ≡ length bytes
