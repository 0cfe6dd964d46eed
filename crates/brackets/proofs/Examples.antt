-- Records under small sheets and their shortest rows, by computation. Assumes nothing.
use Prim.Native.Nat.{ℕ}
use mathlib.Core.Path.{◌≡◌, refl}
use mathlib.Core.List.{List, [], ◌∷◌}
use Rattle.expression.specs.Lists.{All}
use Rattle.expression.specs.Token.{infix_kind, prefix_kind, class}
use Rattle.expression.specs.Decode.{tree_of}
use Rattle.disambiguation.specs.Rules.{priority, left, L, R}
use Rattle.disambiguation.specs.LeftToRight.{parse, made}
use Rattle.disambiguation.specs.Repair.{repair}
use Rattle.disambiguation.specs.Cases.{Sheet, ops, rules, sheet_a}
use Rattle.disambiguation.specs.PrefixCases.{tight_not, loose_not}
use Rattle.brackets.specs.Shortest.{shortest_by}

-- 01 and 03 are prefix operators: 01 is tightest, then 02, then 00, and 03 is loosest
abbrev four_levels : Sheet
four_levels = record {
  kinds = infix_kind ∷ prefix_kind ∷ infix_kind ∷ prefix_kind ∷ [];
  bytes = priority ∷ 1 ∷ 2 ∷ priority ∷ 2 ∷ 0 ∷ priority ∷ 0 ∷ 3 ∷ left ∷ 0 ∷ 0 ∷ left ∷ 2 ∷ 2 ∷ [];
}

-- a sheet, a record and a row
abbrev Example : Type 0
Example = Sheet × List ℕ × List ℕ

abbrev Holds : Example → Type 0
Holds (s, bytes, row) = shortest_by (ops s) (rules s) (tree_of (class (ops s)) bytes) ≡ row

abbrev examples : List Example
examples =
    -- spare brackets, around a reading and around what binds tighter, go
    (sheet_a, 0 ∷ 0x20 ∷ 0x80 ∷ 0x20 ∷ 0x20 ∷ 1 ∷ 0x81 ∷ 0x82 ∷ [], 0x80 ∷ 0 ∷ 0x81 ∷ 1 ∷ 0x82 ∷ [])
    -- needed ones stay, on the left and on the right, one pair each
    ∷ (sheet_a, 1 ∷ 0x20 ∷ 0x20 ∷ 0 ∷ 0x80 ∷ 0x81 ∷ 0x82 ∷ [], 0x20 ∷ 0x80 ∷ 0 ∷ 0x81 ∷ 0x21 ∷ 1 ∷ 0x82 ∷ [])
    ∷ (sheet_a, 0 ∷ 0x80 ∷ 0x20 ∷ 0 ∷ 0x81 ∷ 0x82 ∷ [], 0x80 ∷ 0 ∷ 0x20 ∷ 0x81 ∷ 0 ∷ 0x82 ∷ 0x21 ∷ [])
    -- a record with a conflict means what its row means: no brackets come in
    ∷ (sheet_a, 1 ∷ 0 ∷ 0x80 ∷ 0x81 ∷ 0x82 ∷ [], 0x80 ∷ 0 ∷ 0x81 ∷ 1 ∷ 0x82 ∷ [])
    -- around the whole row brackets are spare
    ∷ (sheet_a, 0x20 ∷ 0 ∷ 0x80 ∷ 0x81 ∷ [], 0x80 ∷ 0 ∷ 0x81 ∷ [])
    -- a prefix operator's operand, and a prefix operator left of an infix one
    ∷ (tight_not, 1 ∷ 0x20 ∷ 0 ∷ 0x80 ∷ 0x81 ∷ [], 1 ∷ 0x20 ∷ 0x80 ∷ 0 ∷ 0x81 ∷ 0x21 ∷ [])
    ∷ (tight_not, 0 ∷ 0x20 ∷ 1 ∷ 0x80 ∷ 0x81 ∷ [], 1 ∷ 0x80 ∷ 0 ∷ 0x81 ∷ [])
    ∷ (loose_not, 0 ∷ 0x20 ∷ 1 ∷ 0x80 ∷ 0x81 ∷ [], 0x20 ∷ 1 ∷ 0x80 ∷ 0x21 ∷ 0 ∷ 0x81 ∷ [])
    -- on the edge below an infix operator; and none beside brackets that end it
    ∷ (four_levels, 0 ∷ 0x20 ∷ 2 ∷ 0x80 ∷ 3 ∷ 0x81 ∷ 0x82 ∷ [], 0x20 ∷ 0x80 ∷ 2 ∷ 3 ∷ 0x81 ∷ 0x21 ∷ 0 ∷ 0x82 ∷ [])
    ∷ (four_levels, 0 ∷ 0x20 ∷ 1 ∷ 0x20 ∷ 2 ∷ 0x80 ∷ 3 ∷ 0x81 ∷ 0x82 ∷ [], 1 ∷ 0x20 ∷ 0x80 ∷ 2 ∷ 3 ∷ 0x81 ∷ 0x21 ∷ 0 ∷ 0x82 ∷ [])
    ∷ []

pub examples_hold : All Holds examples
unfolding class tree_of L R parse made repair
examples_hold = (refl, (refl, (refl, (refl, (refl, (refl, (refl, (refl, (refl, (refl, tt))))))))))
