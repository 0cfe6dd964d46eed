-- What a yield and a judgement answer. Assumes nothing.
use Rattle.std.specs.Prelude.{ℕ, ◌≡◌, cond, List, eqb, length}
use Rattle.std.proofs.Math.Option.{Option, none, some}
use Rattle.expression.specs.Refusal.{accepted}
use Rattle.expression.specs.Lent.{output_after, length_after}
use Rattle.expression.specs.Token.{Operators, class}
use Rattle.expression.specs.Tree.{Tree}
use Rattle.expression.specs.Decode.{tree_of}
use Rattle.expression.specs.Checks.{record_number, yield_number}
use Rattle.expression.specs.Operand.{row_of}
use Rattle.sheet.specs.Layout.{operators_of}
use Rattle.record.specs.Counts.{conflicts_in}
use Rattle.record.specs.declared.Answer.{Answer}
use Rattle.record.specs.declared.Judgement.{Judgement}

-- A yield: the lent output was `before` and became `after`.
pub record Yields (ops : Operators) (bytes before after : List ℕ) (r : Answer) : Type 0 where
  pub numbered : r.number ≡ yield_number ops bytes (length before)
  pub measured : r.length ≡ length_after r.number (row_of (tree_of (class ops) bytes))
  pub output : after ≡ output_after r.number (row_of (tree_of (class ops) bytes)) before

-- the conflict count of the tree that a record is of
abbrev pub count_in : List ℕ → Option Tree → ℕ
count_in sheet none = 0
count_in sheet (some t) = conflicts_in sheet t

-- The number and the count of a record under a sheet; the count is 0 after a refusal.
unfoldable pub judgement : List ℕ → List ℕ → Judgement
judgement sheet bytes =
    record {
      number = record_number (operators_of sheet) bytes;
      count = cond (eqb (record_number (operators_of sheet) bytes) accepted) (count_in sheet (tree_of (class (operators_of sheet)) bytes)) 0;
    }
