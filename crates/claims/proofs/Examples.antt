-- Rows under small sheets, records that are claimed for them, and the numbers of the pairs, by computation. Assumes nothing.
use Prim.Native.Nat.{ℕ}
use mathlib.Core.Path.{◌≡◌, refl}
use mathlib.Core.List.{List, [], ◌∷◌}
use Rattle.expression.specs.Lists.{All}
use Rattle.expression.specs.Refusal.{accepted, stranger, no_row, no_tree, other_row, conflict}
use Rattle.expression.specs.Token.{class}
use Rattle.expression.specs.RowTest.{is_row}
use Rattle.expression.specs.Decode.{tree_of}
use Rattle.disambiguation.specs.Rules.{L, R}
use Rattle.disambiguation.specs.Cases.{Sheet, ops, rules, sheet_a}
use Rattle.disambiguation.specs.PrefixCases.{tight_not, loose_not}
use Rattle.disambiguation.proofs.Cases.{◌next◌}
use Rattle.claims.specs.Claims.{claim_number}

-- a sheet, a row, a record and the number
abbrev Example : Type 0
Example = Sheet × List ℕ × List ℕ × ℕ

abbrev Holds : Example → Type 0
Holds (s, row, bytes, number) = claim_number (ops s) (rules s) row bytes ≡ number

abbrev examples : List Example
examples =
    -- of one row: its tree; the other tree, by a conflict at the top
    (sheet_a, 0x80 ∷ 0 ∷ 0x81 ∷ 1 ∷ 0x82 ∷ [], 0 ∷ 0x80 ∷ 1 ∷ 0x81 ∷ 0x82 ∷ [], accepted)
    ∷ (sheet_a, 0x80 ∷ 0 ∷ 0x81 ∷ 1 ∷ 0x82 ∷ [], 1 ∷ 0 ∷ 0x80 ∷ 0x81 ∷ 0x82 ∷ [], conflict)
    -- a conflict below the top
    ∷ (sheet_a, 0x80 ∷ 0 ∷ 0x81 ∷ 1 ∷ 0x82 ∷ 0 ∷ 0x83 ∷ [], 0 ∷ 1 ∷ 0 ∷ 0x80 ∷ 0x81 ∷ 0x82 ∷ 0x83 ∷ [], conflict)
    -- a record of another row, as long or not, with a conflict or without
    ∷ (sheet_a, 0x80 ∷ 0 ∷ 0x81 ∷ 1 ∷ 0x82 ∷ [], 0 ∷ 0x80 ∷ 1 ∷ 0x81 ∷ 0x83 ∷ [], other_row)
    ∷ (sheet_a, 0x80 ∷ 0 ∷ 0x81 ∷ 1 ∷ 0x82 ∷ [], 1 ∷ 0 ∷ 0x80 ∷ 0x81 ∷ 0x83 ∷ [], other_row)
    ∷ (sheet_a, 0x80 ∷ 0 ∷ 0x81 ∷ 1 ∷ 0x82 ∷ [], 0 ∷ 0x80 ∷ 0x81 ∷ [], other_row)
    -- brackets are part of the row
    ∷ (sheet_a, 0x20 ∷ 0x80 ∷ 0 ∷ 0x81 ∷ 0x21 ∷ 1 ∷ 0x82 ∷ [], 1 ∷ 0x20 ∷ 0 ∷ 0x80 ∷ 0x81 ∷ 0x82 ∷ [], accepted)
    ∷ (sheet_a, 0x80 ∷ 0 ∷ 0x81 ∷ 1 ∷ 0x82 ∷ [], 0 ∷ 0x80 ∷ 0x20 ∷ 1 ∷ 0x81 ∷ 0x82 ∷ [], other_row)
    -- the row's list comes first, then the record's
    ∷ (sheet_a, 0x80 ∷ 0x81 ∷ [], 0x21 ∷ [], no_row)
    ∷ (sheet_a, 0x80 ∷ [], 0x21 ∷ [], stranger)
    ∷ (sheet_a, 0x80 ∷ [], 0x80 ∷ 0x80 ∷ [], no_tree)
    -- a prefix operator on the edge of a left operand
    ∷ (tight_not, 1 ∷ 0x80 ∷ 0 ∷ 0x81 ∷ [], 0 ∷ 1 ∷ 0x80 ∷ 0x81 ∷ [], accepted)
    ∷ (loose_not, 1 ∷ 0x80 ∷ 0 ∷ 0x81 ∷ [], 0 ∷ 1 ∷ 0x80 ∷ 0x81 ∷ [], conflict)
    ∷ (loose_not, 1 ∷ 0x80 ∷ 0 ∷ 0x81 ∷ [], 1 ∷ 0 ∷ 0x80 ∷ 0x81 ∷ [], accepted)
    ∷ []

pub examples_hold : All Holds examples
unfolding class is_row tree_of L R claim_number
examples_hold =
    refl next refl next refl next refl next refl next refl next refl next refl next refl next refl next refl next refl next refl next refl next tt
