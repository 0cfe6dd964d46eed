-- The checks of a row and of a record, in the order of docs/REFERENCE.md, section 4. Assumes nothing.
use Rattle.std.specs.Prelude.{ℕ, Bool, true, false, not, List, [], ◌∷◌, ◌++◌, eqb, ltb, length}
use Rattle.std.proofs.Math.Option.{Option, none, some}
use Rattle.expression.specs.Lists.{any_holds, how_many}
use Rattle.expression.specs.Limits.{most_tokens, most_record_bytes}
use Rattle.expression.specs.Refusal.{Check, first, oversize, stranger, no_row, no_tree, short}
use Rattle.expression.specs.Token.{Class, Infix, Prefix, Opening, Closing, Reading, Meaningless, closing, Operators, class}
use Rattle.expression.specs.Tree.{Tree, yield}
use Rattle.expression.specs.RowTest.{is_row}
use Rattle.expression.specs.Decode.{tree_of}

-- a byte without meaning
abbrev pub strange_in_row : Class → Bool
strange_in_row Infix = false
strange_in_row Prefix = false
strange_in_row Opening = false
strange_in_row Closing = false
strange_in_row Reading = false
strange_in_row Meaningless = true

-- in a record, 21 is one too
abbrev pub strange_in_record : Class → Bool
strange_in_record Infix = false
strange_in_record Prefix = false
strange_in_record Opening = false
strange_in_record Closing = true
strange_in_record Reading = false
strange_in_record Meaningless = true

-- the lent output is shorter than the answer
abbrev pub short_check : ℕ → ℕ → Check
short_check answer room = (ltb room answer, short)

abbrev pub is_none : Option Tree → Bool
is_none none = true
is_none (some t) = false

-- the number of tokens of the tree's row
abbrev pub row_tokens : Option Tree → ℕ
row_tokens none = 0
row_tokens (some t) = length (yield t)

-- the number of bytes of a record of the row: brackets have one byte there, and two tokens
abbrev pub record_bytes : List ℕ → ℕ
record_bytes tokens = how_many (λ c. not (eqb c closing)) tokens

module _ (ops : Operators) where
  -- Of a row: 1, 3, 6.
  abbrev pub row_checks : List ℕ → List Check
  row_checks tokens =
      (ltb most_tokens (length tokens), oversize)
      ∷ (any_holds (λ c. strange_in_row (class ops c)) tokens, stranger)
      ∷ (not (is_row (class ops) tokens), no_row)
      ∷ []

  -- Of a record: 1 for its bytes, 3, 7, 1 for its row.
  abbrev pub record_checks : List ℕ → List Check
  record_checks bytes =
      (ltb most_record_bytes (length bytes), oversize)
      ∷ (any_holds (λ c. strange_in_record (class ops c)) bytes, stranger)
      ∷ (is_none (tree_of (class ops) bytes), no_tree)
      ∷ (ltb most_tokens (row_tokens (tree_of (class ops) bytes)), oversize)
      ∷ []

  -- The number of a row over the sheet's operators.
  unfoldable pub row_number : List ℕ → ℕ
  row_number tokens = first (row_checks tokens)

  -- The number of a record.
  unfoldable pub record_number : List ℕ → ℕ
  record_number bytes = first (record_checks bytes)

  -- Where the answer goes to a lent output, 10 comes last. A row is answered by its tree's record,
  unfoldable pub build_number : List ℕ → ℕ → ℕ
  build_number tokens room = first (row_checks tokens ++ (short_check (record_bytes tokens) room ∷ []))

  -- a repaired record by one of the same length,
  unfoldable pub repair_number : List ℕ → ℕ → ℕ
  repair_number bytes room = first (record_checks bytes ++ (short_check (length bytes) room ∷ []))

  -- and a yield by the tree's row.
  unfoldable pub yield_number : List ℕ → ℕ → ℕ
  yield_number bytes room = first (record_checks bytes ++ (short_check (row_tokens (tree_of (class ops) bytes)) room ∷ []))
