-- The shortest row of a record under a sheet: what the call answers. Assumes nothing.
use Rattle.std.specs.Prelude.{ℕ, ◌≡◌, List, [], ◌∷◌, ◌++◌, length}
use Rattle.std.proofs.Math.Option.{Option, none, some}
use Rattle.expression.specs.Refusal.{first}
use Rattle.expression.specs.Lent.{output_after, length_after}
use Rattle.expression.specs.Token.{Operators, class}
use Rattle.expression.specs.Tree.{Tree, yield}
use Rattle.expression.specs.Decode.{tree_of}
use Rattle.expression.specs.Checks.{short_check, record_checks}
use Rattle.expression.specs.Operand.{row_of}
use Rattle.disambiguation.specs.Rules.{Rule, L, R}
use Rattle.disambiguation.specs.Repair.{repair}
use Rattle.sheet.specs.Layout.{operators_of}
use Rattle.sheet.specs.Relation.{closes_in}
use Rattle.record.specs.Counts.{excluded_left}
use Rattle.record.specs.declared.Answer.{Answer}
use Rattle.parser.specs.Build.{built}
use Rattle.brackets.specs.Enclosed.{enclosed}

-- The number of a record that is answered by a row: the record's list, then 10.
unfoldable pub shortest_number : Operators → List ℕ → List ℕ → ℕ → ℕ
shortest_number ops bytes answer room = first (record_checks ops bytes ++ (short_check (length answer) room ∷ []))

-- By a sheet's operators and rules, of the tree that a record is of: the shortest row of its repair.
abbrev pub shortest_by : Operators → List Rule → Option Tree → List ℕ
shortest_by ops rules none = []
shortest_by ops rules (some t) = yield (enclosed (L rules) (R rules) (repair ops (R rules) t))

module _ (sheet : List ℕ) where
  -- the tree with just the brackets that it needs under the sheet
  abbrev pub enclosed_in : Tree → Tree
  enclosed_in = enclosed (excluded_left sheet) (closes_in sheet)

  abbrev pub shortened : Option Tree → List ℕ
  shortened none = []
  shortened (some t) = yield (enclosed_in t)

  -- The answer: the shortest row of what is built of the record's row.
  unfoldable pub shortest_of : List ℕ → List ℕ
  shortest_of bytes =
      shortened (tree_of (class (operators_of sheet)) (built (operators_of sheet) (closes_in sheet) (row_of (tree_of (class (operators_of sheet)) bytes))))

  -- The lent output was `before` and became `after`.
  pub record AnswersShortest (bytes before after : List ℕ) (r : Answer) : Type 0 where
    pub numbered : r.number ≡ shortest_number (operators_of sheet) bytes (shortest_of bytes) (length before)
    pub measured : r.length ≡ length_after r.number (shortest_of bytes)
    pub output : after ≡ output_after r.number (shortest_of bytes) before
