-- The numbers of some rows and records, by computation: the order of the checks, at their edges. Assumes nothing.
use mathlib.Core.Path.{◌≡◌, refl}
use mathlib.Core.List.{[], ◌∷◌, ◌++◌}
use lib.ListN.{replicate}
use Rattle.expression.specs.Refusal.{accepted, oversize, stranger, no_row, no_tree, short}
use Rattle.expression.specs.Token.{operators, class}
use Rattle.expression.specs.RowTest.{is_row}
use Rattle.expression.specs.Decode.{tree_of}
use Rattle.expression.specs.Checks.{row_number, record_number, build_number, repair_number, yield_number}

-- A stranger comes before 6 and 7, wherever it stands: an operator that is not below n, a byte without meaning, 21 in a record.
pub stranger_before_no_row :
    (row_number (operators 2 []) (0x80 ∷ 0x81 ∷ 2 ∷ []) ≡ stranger)
    × (row_number (operators 2 []) (0x20 ∷ 0x21 ∷ 0x7f ∷ []) ≡ stranger)
    × (row_number (operators 2 []) (0x20 ∷ 0x21 ∷ []) ≡ no_row)
unfolding row_number is_row class
stranger_before_no_row = (refl, refl, refl)

pub stranger_before_no_tree :
    (record_number (operators 2 []) (0x80 ∷ 0x81 ∷ 0x21 ∷ []) ≡ stranger)
    × (record_number (operators 2 []) (0 ∷ 0x22 ∷ []) ≡ stranger)
    × (record_number (operators 2 []) (0 ∷ 0x80 ∷ []) ≡ no_tree)
unfolding record_number tree_of class
stranger_before_no_tree = (refl, refl, refl)

-- 128 bytes whose row has 255 tokens, and 129 whose row has 257: the record's bytes are within the length, its row is not.
pub row_of_record_too_long :
    (record_number (operators 0 []) (replicate 127 0x20 ++ (0x80 ∷ [])) ≡ accepted)
    × (record_number (operators 0 []) (replicate 128 0x20 ++ (0x80 ∷ [])) ≡ oversize)
unfolding record_number tree_of class
row_of_record_too_long = (refl, refl)

-- Too many bytes come before a stranger; 10 comes last, and not where the output is just long enough.
pub oversize_first : row_number (operators 0 []) (replicate 256 0x7f) ≡ oversize
unfolding row_number is_row class
oversize_first = refl

pub short_last :
    (build_number (operators 1 []) (0x20 ∷ 0x80 ∷ 0 ∷ 0x81 ∷ 0x21 ∷ []) 3 ≡ short)
    × (build_number (operators 1 []) (0x20 ∷ 0x80 ∷ 0 ∷ 0x81 ∷ 0x21 ∷ []) 4 ≡ accepted)
    × (build_number (operators 1 []) (0x80 ∷ 0 ∷ []) 0 ≡ no_row)
    × (repair_number (operators 1 []) (0x20 ∷ 0x80 ∷ []) 1 ≡ short)
    × (repair_number (operators 1 []) (0x20 ∷ 0x80 ∷ []) 2 ≡ accepted)
    × (yield_number (operators 1 []) (0x20 ∷ 0x80 ∷ []) 2 ≡ short)
    × (yield_number (operators 1 []) (0x20 ∷ 0x80 ∷ []) 3 ≡ accepted)
unfolding build_number repair_number yield_number is_row tree_of class
short_last = (refl, refl, refl, refl, refl, refl, refl)
