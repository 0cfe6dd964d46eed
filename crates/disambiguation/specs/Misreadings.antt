-- Small sheets and trees, each of which a misreading of docs/REFERENCE.md, section 3, would answer otherwise. Assumes nothing.
use Rattle.std.specs.Prelude.{List, [], ◌∷◌}
use Rattle.expression.specs.Refusal.{accepted, double}
use Rattle.disambiguation.specs.Rules.{priority, left, right}
use Rattle.disambiguation.specs.Cases.{Sheet, infixes, Case, repaired, counted, sheet, sheet_a}

-- two operators and one rule: 00 left 01, 00 right 01, 00 over 01
abbrev pub left_only : Sheet
left_only = record { kinds = infixes 2; bytes = left ∷ 0 ∷ 1 ∷ [] }

abbrev pub right_only : Sheet
right_only = record { kinds = infixes 2; bytes = right ∷ 0 ∷ 1 ∷ [] }

abbrev pub over_only : Sheet
over_only = record { kinds = infixes 2; bytes = priority ∷ 0 ∷ 1 ∷ [] }

-- each left with itself and 00 left 01, without and with 01 left 00
abbrev pub one_order : Sheet
one_order = record { kinds = infixes 2; bytes = left ∷ 0 ∷ 0 ∷ left ∷ 1 ∷ 1 ∷ left ∷ 0 ∷ 1 ∷ [] }

abbrev pub both_orders : Sheet
both_orders = record { kinds = infixes 2; bytes = left ∷ 0 ∷ 0 ∷ left ∷ 1 ∷ 1 ∷ left ∷ 0 ∷ 1 ∷ left ∷ 1 ∷ 0 ∷ [] }

-- Every pair is settled, and what closes is transitive; but 00 does not close before 01, nor 01 before 02, yet 00 before 02.
abbrev pub uneven : Sheet
uneven = record {
  kinds = infixes 3;
  bytes =
      left ∷ 0 ∷ 2 ∷ right ∷ 0 ∷ 0 ∷ right ∷ 1 ∷ 0 ∷ right ∷ 0 ∷ 1 ∷ right ∷ 1 ∷ 1
      ∷ right ∷ 2 ∷ 1 ∷ right ∷ 0 ∷ 2 ∷ right ∷ 1 ∷ 2 ∷ right ∷ 2 ∷ 2 ∷ [];
}

abbrev pub misreadings : List Case
misreadings =
    -- 00 left 01 excludes 01 on top of 00's right operand, and nothing else
    counted left_only (0 ∷ 0x80 ∷ 1 ∷ 0x81 ∷ 0x82 ∷ []) 1
    ∷ counted left_only (0 ∷ 1 ∷ 0x80 ∷ 0x81 ∷ 0x82 ∷ []) 0
    ∷ counted left_only (1 ∷ 0x80 ∷ 0 ∷ 0x81 ∷ 0x82 ∷ []) 0
    ∷ counted left_only (1 ∷ 0 ∷ 0x80 ∷ 0x81 ∷ 0x82 ∷ []) 0
    -- 00 right 01 excludes it on top of the left operand
    ∷ counted right_only (0 ∷ 1 ∷ 0x80 ∷ 0x81 ∷ 0x82 ∷ []) 1
    ∷ counted right_only (0 ∷ 0x80 ∷ 1 ∷ 0x81 ∷ 0x82 ∷ []) 0
    ∷ counted right_only (1 ∷ 0x80 ∷ 0 ∷ 0x81 ∷ 0x82 ∷ []) 0
    -- 00 over 01 excludes both, and a node with both counts twice
    ∷ counted over_only (0 ∷ 1 ∷ 0x80 ∷ 0x81 ∷ 0x82 ∷ []) 1
    ∷ counted over_only (0 ∷ 0x80 ∷ 1 ∷ 0x81 ∷ 0x82 ∷ []) 1
    ∷ counted over_only (0 ∷ 1 ∷ 0x80 ∷ 0x81 ∷ 1 ∷ 0x82 ∷ 0x83 ∷ []) 2
    ∷ counted over_only (1 ∷ 0 ∷ 0x80 ∷ 0x81 ∷ 0 ∷ 0x82 ∷ 0x83 ∷ []) 0
    -- each order needs its rule
    ∷ sheet one_order double
    ∷ sheet both_orders accepted
    -- settling the pairs is not enough, nor is transitivity one way
    ∷ sheet uneven double
    -- a bracket node is not the operator inside it, and stays in repair
    ∷ counted sheet_a (1 ∷ 0x20 ∷ 0 ∷ 0x80 ∷ 0x81 ∷ 0x82 ∷ []) 0
    ∷ repaired sheet_a (1 ∷ 0x20 ∷ 0 ∷ 0x80 ∷ 0x81 ∷ 0x82 ∷ []) (1 ∷ 0x20 ∷ 0 ∷ 0x80 ∷ 0x81 ∷ 0x82 ∷ [])
    -- what stands before a bracket waits on while it closes
    ∷ repaired sheet_a (1 ∷ 0 ∷ 0x80 ∷ 0x20 ∷ 0 ∷ 0x81 ∷ 0x82 ∷ 0x83 ∷ []) (0 ∷ 0x80 ∷ 1 ∷ 0x20 ∷ 0 ∷ 0x81 ∷ 0x82 ∷ 0x83 ∷ [])
    -- a conflict below the top counts, and is repaired
    ∷ counted sheet_a (0 ∷ 1 ∷ 0 ∷ 0x80 ∷ 0x81 ∷ 0x82 ∷ 0x83 ∷ []) 1
    ∷ repaired sheet_a (1 ∷ 1 ∷ 0 ∷ 0x80 ∷ 0x81 ∷ 0x82 ∷ 0x83 ∷ []) (0 ∷ 0x80 ∷ 1 ∷ 1 ∷ 0x81 ∷ 0x82 ∷ 0x83 ∷ [])
    ∷ []
