-- Small sheets with chains of priority, and with rules that only look like one: trees and their counts, sheets and their numbers. Assumes nothing.
use Rattle.std.specs.Prelude.{List, [], ◌∷◌}
use Rattle.expression.specs.Refusal.{dead, double}
use Rattle.disambiguation.specs.Rules.{priority, left, right}
use Rattle.disambiguation.specs.Cases.{Sheet, infixes, Case, counted, sheet, falling}

-- 02 over 03 and 00 over 01; and with 01 over 02, which joins them
abbrev pub apart : Sheet
apart = record { kinds = infixes 4; bytes = priority ∷ 2 ∷ 3 ∷ priority ∷ 0 ∷ 1 ∷ [] }

abbrev pub joined : Sheet
joined = record { kinds = infixes 4; bytes = priority ∷ 2 ∷ 3 ∷ priority ∷ 0 ∷ 1 ∷ priority ∷ 1 ∷ 2 ∷ [] }

-- from 00 to 04 in four rules, in no order
abbrev pub steps : Sheet
steps = record { kinds = infixes 5; bytes = priority ∷ 3 ∷ 4 ∷ priority ∷ 1 ∷ 2 ∷ priority ∷ 0 ∷ 1 ∷ priority ∷ 2 ∷ 3 ∷ [] }

-- 00 over 01 and 01 over 00
abbrev pub circle : Sheet
circle = record { kinds = infixes 2; bytes = priority ∷ 0 ∷ 1 ∷ priority ∷ 1 ∷ 0 ∷ [] }

-- what would be chains if left and right were priorities, and chains that they break
abbrev pub lefts : Sheet
lefts = record { kinds = infixes 3; bytes = left ∷ 0 ∷ 1 ∷ left ∷ 1 ∷ 2 ∷ [] }

abbrev pub rights : Sheet
rights = record { kinds = infixes 3; bytes = right ∷ 0 ∷ 1 ∷ right ∷ 1 ∷ 2 ∷ [] }

abbrev pub broken : Sheet
broken = record { kinds = infixes 3; bytes = priority ∷ 0 ∷ 1 ∷ left ∷ 1 ∷ 2 ∷ right ∷ 1 ∷ 2 ∷ [] }

-- Case 12 with left and right in place of each priority: every pair is settled, and nothing leads on.
abbrev pub round_by_sides : Sheet
round_by_sides = record {
  kinds = infixes 3;
  bytes =
      left ∷ 0 ∷ 0 ∷ left ∷ 1 ∷ 1 ∷ left ∷ 2 ∷ 2
      ∷ left ∷ 0 ∷ 1 ∷ right ∷ 0 ∷ 1 ∷ left ∷ 1 ∷ 2 ∷ right ∷ 1 ∷ 2 ∷ left ∷ 2 ∷ 0 ∷ right ∷ 2 ∷ 0 ∷ [];
}

abbrev pub chain_cases : List Case
chain_cases =
    -- through one operator, through two and through three, on both sides; not the other way
    counted falling (0 ∷ 2 ∷ 0x80 ∷ 0x81 ∷ 2 ∷ 0x82 ∷ 0x83 ∷ []) 2
    ∷ counted falling (2 ∷ 0 ∷ 0x80 ∷ 0x81 ∷ 0 ∷ 0x82 ∷ 0x83 ∷ []) 0
    ∷ counted joined (0 ∷ 3 ∷ 0x80 ∷ 0x81 ∷ 3 ∷ 0x82 ∷ 0x83 ∷ []) 2
    ∷ counted joined (0 ∷ 2 ∷ 0x80 ∷ 0x81 ∷ 2 ∷ 0x82 ∷ 0x83 ∷ []) 2
    ∷ counted joined (1 ∷ 3 ∷ 0x80 ∷ 0x81 ∷ 3 ∷ 0x82 ∷ 0x83 ∷ []) 2
    ∷ counted joined (3 ∷ 0 ∷ 0x80 ∷ 0x81 ∷ 0 ∷ 0x82 ∷ 0x83 ∷ []) 0
    ∷ counted steps (0 ∷ 4 ∷ 0x80 ∷ 0x81 ∷ 4 ∷ 0x82 ∷ 0x83 ∷ []) 2
    ∷ counted steps (4 ∷ 0 ∷ 0x80 ∷ 0x81 ∷ 0 ∷ 0x82 ∷ 0x83 ∷ []) 0
    -- without the rule that joins them, none
    ∷ counted apart (0 ∷ 3 ∷ 0x80 ∷ 0x81 ∷ 3 ∷ 0x82 ∷ 0x83 ∷ []) 0
    ∷ counted apart (0 ∷ 2 ∷ 0x80 ∷ 0x81 ∷ 2 ∷ 0x82 ∷ 0x83 ∷ []) 0
    ∷ counted apart (1 ∷ 3 ∷ 0x80 ∷ 0x81 ∷ 3 ∷ 0x82 ∷ 0x83 ∷ []) 0
    -- in a circle each stands over itself
    ∷ counted circle (0 ∷ 0 ∷ 0x80 ∷ 0x81 ∷ 0 ∷ 0x82 ∷ 0x83 ∷ []) 2
    ∷ counted circle (1 ∷ 1 ∷ 0x80 ∷ 0x81 ∷ 1 ∷ 0x82 ∷ 0x83 ∷ []) 2
    ∷ sheet circle dead
    -- left and right are not chained, and lead nothing on
    ∷ counted lefts (0 ∷ 2 ∷ 0x80 ∷ 0x81 ∷ 2 ∷ 0x82 ∷ 0x83 ∷ []) 0
    ∷ counted rights (0 ∷ 2 ∷ 0x80 ∷ 0x81 ∷ 2 ∷ 0x82 ∷ 0x83 ∷ []) 0
    ∷ counted broken (0 ∷ 2 ∷ 0x80 ∷ 0x81 ∷ 2 ∷ 0x82 ∷ 0x83 ∷ []) 0
    ∷ sheet round_by_sides double
    ∷ []
