-- The cases 1 to 13 of docs/REFERENCE.md, section 11, as one table of what is given and what is answered. Assumes nothing.
use Rattle.std.specs.Prelude.{ℕ, ◌≡◌, List, [], ◌∷◌, ◌++◌, length, replicate}
use Rattle.std.proofs.Math.Option.{some}
use Rattle.expression.specs.Refusal.{accepted, dead, double, no_row, no_tree}
use Rattle.expression.specs.Token.{infix_kind, Operators, operators, class}
use Rattle.expression.specs.Tree.{Tree, yield}
use Rattle.expression.specs.Decode.{tree_of}
use Rattle.expression.specs.Checks.{row_number, record_number}
use Rattle.disambiguation.specs.Rules.{Rule, priority, left, right, R}
use Rattle.disambiguation.specs.Conflicts.{conflict_count, ConflictFreeTree}
use Rattle.disambiguation.specs.SheetChecks.{rules_of, sheet_number}
use Rattle.disambiguation.specs.Repair.{repair}

-- the kind bytes, as many as there are operators, and the rule bytes
pub record Sheet : Type 0 where
  pub kinds : List ℕ
  pub bytes : List ℕ

-- n infix operators
abbrev pub infixes : ℕ → List ℕ
infixes n = replicate n infix_kind

pub data Case : Type 0 where
  -- a row and the record of its conflict-free tree
  built : Sheet → List ℕ → List ℕ → Case
  -- a record and the record that repair makes of it
  repaired : Sheet → List ℕ → List ℕ → Case
  -- a record and its conflict count
  counted : Sheet → List ℕ → ℕ → Case
  -- a row, a record, a sheet, and its number
  row : Sheet → List ℕ → ℕ → Case
  tree : Sheet → List ℕ → ℕ → Case
  sheet : Sheet → ℕ → Case
  -- n and the bytes after it, and their number
  frame : ℕ → List ℕ → ℕ → Case

abbrev pub ops : Sheet → Operators
ops s = operators (length s.kinds) s.kinds

abbrev pub rules : Sheet → List Rule
rules s = rules_of s.bytes

-- t is the tree that the record is of
abbrev Records : Sheet → List ℕ → Tree → Type 0
Records s bytes t = (record_number (ops s) bytes ≡ accepted) × (tree_of (class (ops s)) bytes ≡ some t)

-- What a line of the table claims.
abbrev pub Holds : Case → Type 0
Holds (built s tokens answer) =
    (row_number (ops s) tokens ≡ accepted) × ((t : Tree) × Records s answer t × ConflictFreeTree (ops s) (rules s) tokens t)
Holds (repaired s bytes answer) =
    (t : Tree) × (u : Tree) × Records s bytes t × Records s answer u × ConflictFreeTree (ops s) (rules s) (yield t) u × (repair (ops s) (R (rules s)) t ≡ u)
Holds (counted s bytes number) = (t : Tree) × Records s bytes t × (conflict_count (rules s) t ≡ number)
Holds (row s tokens number) = row_number (ops s) tokens ≡ number
Holds (tree s bytes number) = record_number (ops s) bytes ≡ number
Holds (sheet s number) = sheet_number (length s.kinds) (s.kinds ++ s.bytes) ≡ number
Holds (frame n bytes number) = sheet_number n bytes ≡ number

-- Sheet A: two operators, 01 over 00, each left with itself.
abbrev pub sheet_a : Sheet
sheet_a = record { kinds = infixes 2; bytes = priority ∷ 1 ∷ 0 ∷ left ∷ 1 ∷ 1 ∷ left ∷ 0 ∷ 0 ∷ [] }

-- n = 1 without rules, and with 00 left and right of itself
abbrev pub undecided : Sheet
undecided = record { kinds = infixes 1; bytes = [] }

abbrev pub excluded : Sheet
excluded = record { kinds = infixes 1; bytes = left ∷ 0 ∷ 0 ∷ right ∷ 0 ∷ 0 ∷ [] }

abbrev pub empty : Sheet
empty = record { kinds = infixes 0; bytes = [] }

-- n = 3, each left with itself, 00 over 01, 01 over 02; and with 02 over 00, by which each operator stands over itself
abbrev pub falling : Sheet
falling = record {
  kinds = infixes 3;
  bytes = left ∷ 0 ∷ 0 ∷ left ∷ 1 ∷ 1 ∷ left ∷ 2 ∷ 2 ∷ priority ∷ 0 ∷ 1 ∷ priority ∷ 1 ∷ 2 ∷ [];
}

abbrev pub round : Sheet
round = record { kinds = infixes 3; bytes = falling.bytes ++ (priority ∷ 2 ∷ 0 ∷ []) }

-- The cases 1 to 13.
abbrev pub table : List Case
table =
    built sheet_a (0x80 ∷ []) (0x80 ∷ [])
    ∷ built sheet_a (0x80 ∷ 0 ∷ 0x81 ∷ 1 ∷ 0x82 ∷ []) (0 ∷ 0x80 ∷ 1 ∷ 0x81 ∷ 0x82 ∷ [])
    ∷ built sheet_a (0x80 ∷ 1 ∷ 0x81 ∷ 0 ∷ 0x82 ∷ []) (0 ∷ 1 ∷ 0x80 ∷ 0x81 ∷ 0x82 ∷ [])
    ∷ built sheet_a (0x80 ∷ 0 ∷ 0x81 ∷ 0 ∷ 0x82 ∷ []) (0 ∷ 0 ∷ 0x80 ∷ 0x81 ∷ 0x82 ∷ [])
    ∷ built sheet_a (0x20 ∷ 0x80 ∷ 0 ∷ 0x81 ∷ 0x21 ∷ 1 ∷ 0x82 ∷ []) (1 ∷ 0x20 ∷ 0 ∷ 0x80 ∷ 0x81 ∷ 0x82 ∷ [])
    ∷ repaired sheet_a (1 ∷ 0 ∷ 0x80 ∷ 0x81 ∷ 0x82 ∷ []) (0 ∷ 0x80 ∷ 1 ∷ 0x81 ∷ 0x82 ∷ [])
    ∷ counted sheet_a (1 ∷ 0 ∷ 0x80 ∷ 0x81 ∷ 0x82 ∷ []) 1
    ∷ row sheet_a [] no_row
    ∷ row sheet_a (0x80 ∷ 0x81 ∷ []) no_row
    ∷ row sheet_a (0x20 ∷ 0x21 ∷ []) no_row
    ∷ tree sheet_a [] no_tree
    ∷ tree sheet_a (0 ∷ 0x80 ∷ []) no_tree
    ∷ tree sheet_a (0x80 ∷ 0x81 ∷ []) no_tree
    ∷ sheet undecided double
    ∷ sheet excluded dead
    ∷ sheet empty accepted
    ∷ sheet round dead
    ∷ sheet falling accepted
    ∷ []
