-- Small sheets with prefix operators: rows both ways, patterns along an edge, rules that exclude nothing, and the numbers of sheets. Assumes nothing.
use Rattle.std.specs.Prelude.{ℕ, List, [], ◌∷◌}
use Rattle.expression.specs.Refusal.{accepted, torn, stranger, dead, double, no_row, no_tree}
use Rattle.expression.specs.Token.{infix_kind, prefix_kind}
use Rattle.disambiguation.specs.Rules.{priority, left, right}
use Rattle.disambiguation.specs.Cases.{Sheet, infixes, Case, built, repaired, counted, row, tree, sheet, frame}

-- 00 is infix and 01 prefix
abbrev pub and_not : List ℕ
and_not = infix_kind ∷ prefix_kind ∷ []

-- "and" with itself left, and "not" over it, or it over "not"
abbrev pub tight_not : Sheet
tight_not = record { kinds = and_not; bytes = left ∷ 0 ∷ 0 ∷ priority ∷ 1 ∷ 0 ∷ [] }

abbrev pub loose_not : Sheet
loose_not = record { kinds = and_not; bytes = left ∷ 0 ∷ 0 ∷ priority ∷ 0 ∷ 1 ∷ [] }

-- the same by left and right
abbrev pub tight_by_side : Sheet
tight_by_side = record { kinds = and_not; bytes = left ∷ 0 ∷ 0 ∷ left ∷ 1 ∷ 0 ∷ [] }

abbrev pub loose_by_side : Sheet
loose_by_side = record { kinds = and_not; bytes = left ∷ 0 ∷ 0 ∷ right ∷ 0 ∷ 1 ∷ [] }

-- both at once, and neither
abbrev pub both_not : Sheet
both_not = record { kinds = and_not; bytes = left ∷ 0 ∷ 0 ∷ left ∷ 1 ∷ 0 ∷ right ∷ 0 ∷ 1 ∷ [] }

abbrev pub open_not : Sheet
open_not = record { kinds = and_not; bytes = left ∷ 0 ∷ 0 ∷ [] }

-- "and" alone
abbrev pub no_not : Sheet
no_not = record { kinds = infixes 1; bytes = left ∷ 0 ∷ 0 ∷ [] }

-- rules that exclude nothing: 00 left 01, 01 right 00, and of 01 with itself
abbrev pub idle : Sheet
idle = record { kinds = and_not; bytes = left ∷ 0 ∷ 1 ∷ right ∷ 1 ∷ 0 ∷ priority ∷ 1 ∷ 1 ∷ left ∷ 1 ∷ 1 ∷ right ∷ 1 ∷ 1 ∷ [] }

-- 00 to 02 are infix, 03 is a minus that 00 keeps from the right edge of its left operand, by priority or by right
abbrev pub over_minus : Sheet
over_minus = record { kinds = infix_kind ∷ infix_kind ∷ infix_kind ∷ prefix_kind ∷ []; bytes = priority ∷ 0 ∷ 3 ∷ [] }

abbrev pub right_minus : Sheet
right_minus = record { kinds = infix_kind ∷ infix_kind ∷ infix_kind ∷ prefix_kind ∷ []; bytes = right ∷ 0 ∷ 3 ∷ [] }

-- 00 over the prefix operator 01, and that over 02: a chain passes through it
abbrev pub through : Sheet
through = record { kinds = infix_kind ∷ prefix_kind ∷ infix_kind ∷ []; bytes = priority ∷ 0 ∷ 1 ∷ priority ∷ 1 ∷ 2 ∷ [] }

-- 00 over the prefix operator 01, that over the prefix operator 02, and that over 03: without the rule between the two no chain leads from 00 to 03
abbrev pub through_two : Sheet
through_two = record { kinds = infix_kind ∷ prefix_kind ∷ prefix_kind ∷ infix_kind ∷ []; bytes = priority ∷ 0 ∷ 1 ∷ priority ∷ 1 ∷ 2 ∷ priority ∷ 2 ∷ 3 ∷ [] }

abbrev pub not_through : Sheet
not_through = record { kinds = infix_kind ∷ prefix_kind ∷ prefix_kind ∷ infix_kind ∷ []; bytes = priority ∷ 0 ∷ 1 ∷ priority ∷ 2 ∷ 3 ∷ [] }

-- the prefix operator 00 closes before 01 and 01 before 02, yet 00 does not close before 02
abbrev pub uneven_not : Sheet
uneven_not = record {
  kinds = prefix_kind ∷ infix_kind ∷ infix_kind ∷ [];
  bytes =
      left ∷ 1 ∷ 1 ∷ left ∷ 2 ∷ 2 ∷ left ∷ 1 ∷ 2 ∷ right ∷ 1 ∷ 2 ∷ left ∷ 0 ∷ 1 ∷ right ∷ 2 ∷ 0 ∷ [];
}

abbrev pub prefix_cases : List Case
prefix_cases =
    -- "not w and x", both ways by the sheet
    built tight_not (1 ∷ 0x80 ∷ 0 ∷ 0x81 ∷ []) (0 ∷ 1 ∷ 0x80 ∷ 0x81 ∷ [])
    ∷ built loose_not (1 ∷ 0x80 ∷ 0 ∷ 0x81 ∷ []) (1 ∷ 0 ∷ 0x80 ∷ 0x81 ∷ [])
    ∷ built tight_by_side (1 ∷ 0x80 ∷ 0 ∷ 0x81 ∷ []) (0 ∷ 1 ∷ 0x80 ∷ 0x81 ∷ [])
    ∷ built loose_by_side (1 ∷ 0x80 ∷ 0 ∷ 0x81 ∷ []) (1 ∷ 0 ∷ 0x80 ∷ 0x81 ∷ [])
    -- "w and not x and y": the prefix operator is the right operand, and takes what follows by the sheet
    ∷ built tight_not (0x80 ∷ 0 ∷ 1 ∷ 0x81 ∷ 0 ∷ 0x82 ∷ []) (0 ∷ 0 ∷ 0x80 ∷ 1 ∷ 0x81 ∷ 0x82 ∷ [])
    ∷ built loose_not (0x80 ∷ 0 ∷ 1 ∷ 0x81 ∷ 0 ∷ 0x82 ∷ []) (0 ∷ 0x80 ∷ 1 ∷ 0 ∷ 0x81 ∷ 0x82 ∷ [])
    ∷ repaired tight_not (1 ∷ 0 ∷ 0x80 ∷ 0x81 ∷ []) (0 ∷ 1 ∷ 0x80 ∷ 0x81 ∷ [])
    -- on the right edge, one, two and three nodes down
    ∷ counted over_minus (0 ∷ 3 ∷ 0x80 ∷ 0x81 ∷ []) 1
    ∷ counted over_minus (0 ∷ 1 ∷ 0x80 ∷ 3 ∷ 0x81 ∷ 0x82 ∷ []) 1
    ∷ counted right_minus (0 ∷ 1 ∷ 0x80 ∷ 2 ∷ 0x81 ∷ 3 ∷ 0x82 ∷ 0x83 ∷ []) 1
    -- a bracket ends the edge, wherever it stands; a left operand is not on it
    ∷ counted right_minus (0 ∷ 1 ∷ 0x80 ∷ 0x20 ∷ 2 ∷ 0x81 ∷ 3 ∷ 0x82 ∷ 0x83 ∷ []) 0
    ∷ counted right_minus (0 ∷ 0x20 ∷ 3 ∷ 0x80 ∷ 0x81 ∷ []) 0
    ∷ counted right_minus (0 ∷ 1 ∷ 3 ∷ 0x80 ∷ 0x81 ∷ 0x82 ∷ []) 0
    -- each node met on the edge counts
    ∷ counted right_minus (0 ∷ 3 ∷ 1 ∷ 0x80 ∷ 3 ∷ 0x81 ∷ 0x82 ∷ []) 2
    -- what stands right of 00 is no conflict, nor is 00 below the minus
    ∷ counted right_minus (0 ∷ 0x80 ∷ 3 ∷ 0x81 ∷ []) 0
    ∷ counted over_minus (3 ∷ 0 ∷ 0x80 ∷ 0x81 ∷ []) 0
    -- under its operand only the top counts
    ∷ counted tight_not (1 ∷ 0 ∷ 0x80 ∷ 0x81 ∷ []) 1
    ∷ counted tight_not (1 ∷ 1 ∷ 0 ∷ 0x80 ∷ 0x81 ∷ []) 1
    ∷ counted tight_not (1 ∷ 0x20 ∷ 0 ∷ 0x80 ∷ 0x81 ∷ []) 0
    -- rules that exclude nothing
    ∷ counted idle (0 ∷ 1 ∷ 0x80 ∷ 1 ∷ 0x81 ∷ []) 0
    ∷ counted idle (1 ∷ 1 ∷ 0 ∷ 0x80 ∷ 0x81 ∷ []) 0
    -- a chain through a prefix operator
    ∷ counted through (0 ∷ 2 ∷ 0x80 ∷ 0x81 ∷ 2 ∷ 0x82 ∷ 0x83 ∷ []) 2
    -- and through two
    ∷ counted through_two (0 ∷ 3 ∷ 0x80 ∷ 0x81 ∷ 3 ∷ 0x82 ∷ 0x83 ∷ []) 2
    ∷ counted not_through (0 ∷ 3 ∷ 0x80 ∷ 0x81 ∷ 3 ∷ 0x82 ∷ 0x83 ∷ []) 0
    -- sheets: refused for the prefix operator alone, with 5 and with 4
    ∷ sheet no_not accepted
    ∷ sheet open_not double
    ∷ sheet both_not dead
    ∷ sheet tight_not accepted
    ∷ sheet loose_not accepted
    ∷ sheet uneven_not double
    -- too few kind bytes; with more, they are rules; an unknown kind
    ∷ frame 2 (0 ∷ []) torn
    ∷ frame 2 (0 ∷ 1 ∷ 0 ∷ []) torn
    ∷ frame 1 (1 ∷ 1 ∷ 0 ∷ 0 ∷ []) accepted
    ∷ frame 1 (2 ∷ []) stranger
    ∷ frame 0 [] accepted
    -- rows and records
    ∷ row tight_not (0x80 ∷ 1 ∷ 0x81 ∷ []) no_row
    ∷ row tight_not (1 ∷ []) no_row
    ∷ row tight_not (1 ∷ 0 ∷ 0x80 ∷ []) no_row
    ∷ tree tight_not (1 ∷ []) no_tree
    ∷ tree tight_not (1 ∷ 0x80 ∷ 0x81 ∷ []) no_tree
    ∷ []
