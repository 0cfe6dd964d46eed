-- The parts of a record that calls answer with: a tree's row, and the record of an operand of its top node. Assumes nothing.
use Rattle.std.specs.Prelude.{ℕ, Bool, cond, List, [], eqb}
use Rattle.std.proofs.Math.Option.{Option, none, some}
use Rattle.expression.specs.Refusal.{accepted}
use Rattle.expression.specs.Token.{Operators, class}
use Rattle.expression.specs.Tree.{Tree, reading, bracket, binary, prefix, yield, record_of}
use Rattle.expression.specs.Decode.{tree_of}
use Rattle.expression.specs.Checks.{record_number}

-- the row of the tree that a record is of
abbrev pub row_of : Option Tree → List ℕ
row_of none = []
row_of (some t) = yield t

-- The record of the left or of the right operand; a node's only tree counts as its left. Empty where there is none.
abbrev pub operand_record : Bool → Tree → List ℕ
operand_record right (reading a) = []
operand_record right (bracket t) = cond right [] (record_of t)
operand_record right (binary o l r) = cond right (record_of r) (record_of l)
operand_record right (prefix p t) = cond right [] (record_of t)

abbrev pub operand_in : Bool → Option Tree → List ℕ
operand_in right none = []
operand_in right (some t) = operand_record right t

-- The part that an operand call hands back: empty where the record is refused.
unfoldable pub operand_part : Operators → Bool → List ℕ → List ℕ
operand_part ops right bytes = cond (eqb (record_number ops bytes) accepted) (operand_in right (tree_of (class ops) bytes)) []
