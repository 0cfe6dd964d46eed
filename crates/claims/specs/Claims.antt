-- A row and the record that is claimed for it (docs/REFERENCE.md, section 4): the numbers of the pair. Assumes nothing.
use Rattle.std.specs.Prelude.{ℕ, ◌≡◌, Bool, true, false, not, ◌&&◌, List, [], ◌∷◌, ◌++◌, eqb}
use Rattle.std.proofs.Math.Option.{Option, none, some}
use Rattle.expression.specs.Refusal.{Check, first, other_row, conflict}
use Rattle.expression.specs.Token.{Operators, class}
use Rattle.expression.specs.Tree.{Tree, record_of}
use Rattle.expression.specs.Decode.{tree_of}
use Rattle.expression.specs.Operand.{row_of}
use Rattle.expression.specs.Checks.{row_checks, record_checks}
use Rattle.disambiguation.specs.Rules.{Rule}
use Rattle.disambiguation.specs.Conflicts.{conflict_count, ConflictFreeTree}
use Rattle.sheet.specs.Layout.{operators_of}
use Rattle.record.specs.Answers.{count_in}

-- The claim holds: the bytes are the record of the row's conflict-free tree.
abbrev pub Claimed : Operators → List Rule → List ℕ → List ℕ → Type 0
Claimed ops rules row bytes = (t : Tree) × ConflictFreeTree ops rules row t × (record_of t ≡ bytes)

-- the lists have the same bytes
abbrev pub same_bytes : List ℕ → List ℕ → Bool
same_bytes [] [] = true
same_bytes [] (y ∷ ys) = false
same_bytes (x ∷ xs) [] = false
same_bytes (x ∷ xs) (y ∷ ys) = eqb x y && same_bytes xs ys

-- 16: the record's row is another. 17: the record has a conflict.
abbrev pub claim_checks : Bool → ℕ → List Check
claim_checks same count = (not same, other_row) ∷ (not (eqb count 0), conflict) ∷ []

-- With the conflict count of the record's tree,
module _ (ops : Operators) (row bytes : List ℕ) (count : ℕ) where
  -- of the record beside the row: its own list, then 16 and 17;
  abbrev pub beside_checks : List Check
  beside_checks = record_checks ops bytes ++ claim_checks (same_bytes (row_of (tree_of (class ops) bytes)) row) count

  -- of the pair: the row's list first.
  abbrev pub pair_checks : List Check
  pair_checks = row_checks ops row ++ beside_checks

-- the count by a sheet's rules
abbrev pub count_by : List Rule → Option Tree → ℕ
count_by rules none = 0
count_by rules (some t) = conflict_count rules t

-- The checks of the pair by a sheet's operators and rules, and its number;
abbrev pub pair_checks_by : Operators → List Rule → List ℕ → List ℕ → List Check
pair_checks_by ops rules row bytes = pair_checks ops row bytes (count_by rules (tree_of (class ops) bytes))

unfoldable pub claim_number : Operators → List Rule → List ℕ → List ℕ → ℕ
claim_number ops rules row bytes = first (pair_checks_by ops rules row bytes)

-- the same under the words of a sheet, and of the record beside the row.
module _ (sheet row bytes : List ℕ) where
  abbrev count : ℕ
  count = count_in sheet (tree_of (class (operators_of sheet)) bytes)

  abbrev pub pair_checks_in : List Check
  pair_checks_in = pair_checks (operators_of sheet) row bytes count

  unfoldable pub claim_number_in : ℕ
  claim_number_in = first pair_checks_in

  unfoldable pub beside_number_in : ℕ
  beside_number_in = first (beside_checks (operators_of sheet) row bytes count)
