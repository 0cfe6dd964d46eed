-- What build and repair answer and leave in the lent output. Assumes nothing.
use Rattle.std.specs.Prelude.{ℕ, ◌≡◌, List, length}
use Rattle.expression.specs.Lent.{output_after, length_after}
use Rattle.expression.specs.Token.{class}
use Rattle.expression.specs.Decode.{tree_of}
use Rattle.expression.specs.Checks.{build_number, repair_number}
use Rattle.expression.specs.Operand.{row_of}
use Rattle.sheet.specs.Layout.{operators_of}
use Rattle.sheet.specs.Relation.{closes_in}
use Rattle.record.specs.declared.Answer.{Answer}
use Rattle.parser.specs.Build.{built}

-- Under a sheet; the output was `before` and became `after`.
module _ (sheet : List ℕ) where
  -- a row is answered by the record that is built of it,
  pub record AnswersBuild (tokens before after : List ℕ) (r : Answer) : Type 0 where
    pub numbered : r.number ≡ build_number (operators_of sheet) tokens (length before)
    pub measured : r.length ≡ length_after r.number (built (operators_of sheet) (closes_in sheet) tokens)
    pub output : after ≡ output_after r.number (built (operators_of sheet) (closes_in sheet) tokens) before

  -- and a record by the one that is built of its row
  pub record AnswersRepair (bytes before after : List ℕ) (r : Answer) : Type 0 where
    pub numbered : r.number ≡ repair_number (operators_of sheet) bytes (length before)
    pub measured : r.length ≡ length_after r.number (built (operators_of sheet) (closes_in sheet) (row_of (tree_of (class (operators_of sheet)) bytes)))
    pub output : after ≡ output_after r.number (built (operators_of sheet) (closes_in sheet) (row_of (tree_of (class (operators_of sheet)) bytes))) before
