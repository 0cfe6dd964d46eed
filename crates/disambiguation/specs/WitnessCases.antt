-- Small sheets and the witness of each, in bytes. Assumes nothing.
use Rattle.std.specs.Prelude.{ℕ, ◌≡◌, List, [], ◌∷◌}
use Rattle.expression.specs.Token.{infix_kind, prefix_kind}
use Rattle.disambiguation.specs.Rules.{left, right}
use Rattle.disambiguation.specs.Cases.{Sheet, infixes, ops, rules, undecided, excluded, empty, falling, round}
use Rattle.disambiguation.specs.ChainCases.{round_by_sides}
use Rattle.disambiguation.specs.Witness.{witness_of, witness_bytes}

-- three operators of which 00 closes before 02 alone, and all others yield
abbrev pub yielding : Sheet
yielding = record {
  kinds = infixes 3;
  bytes =
      left ∷ 0 ∷ 2
      ∷ right ∷ 0 ∷ 0 ∷ right ∷ 1 ∷ 0 ∷ right ∷ 0 ∷ 1 ∷ right ∷ 1 ∷ 1 ∷ right ∷ 2 ∷ 1 ∷ right ∷ 0 ∷ 2 ∷ right ∷ 1 ∷ 2 ∷ right ∷ 2 ∷ 2 ∷ [];
}

-- three operators of which each closes before each, but 00 before 02 and 01 before 00 are left open
abbrev pub open_twice : Sheet
open_twice = record {
  kinds = infixes 3;
  bytes = left ∷ 0 ∷ 0 ∷ left ∷ 0 ∷ 1 ∷ left ∷ 1 ∷ 1 ∷ left ∷ 1 ∷ 2 ∷ left ∷ 2 ∷ 0 ∷ left ∷ 2 ∷ 1 ∷ left ∷ 2 ∷ 2 ∷ [];
}

-- 00 groups to the left, and of 01, which is prefix, nothing is said; then that each excludes the other
abbrev pub loose_prefix : Sheet
loose_prefix = record { kinds = infix_kind ∷ prefix_kind ∷ []; bytes = left ∷ 0 ∷ 0 ∷ [] }

abbrev pub stuck_prefix : Sheet
stuck_prefix = record { kinds = infix_kind ∷ prefix_kind ∷ []; bytes = left ∷ 0 ∷ 0 ∷ left ∷ 1 ∷ 0 ∷ right ∷ 0 ∷ 1 ∷ [] }

-- a sheet and its answer
abbrev pub witness_cases : List (Sheet × List ℕ)
witness_cases =
    (empty, 0 ∷ [])
    ∷ (falling, 0 ∷ [])
    ∷ (excluded, 4 ∷ 0x80 ∷ 0 ∷ 0x81 ∷ 0 ∷ 0x82 ∷ [])
    ∷ (round, 4 ∷ 0x80 ∷ 0 ∷ 0x81 ∷ 0 ∷ 0x82 ∷ [])
    ∷ (stuck_prefix, 4 ∷ 1 ∷ 0x80 ∷ 0 ∷ 0x81 ∷ [])
    ∷ (undecided, 5 ∷ 0x80 ∷ 0 ∷ 0x81 ∷ 0 ∷ 0x82 ∷ 0 ∷ 0x80 ∷ 0 ∷ 0x81 ∷ 0x82 ∷ 0 ∷ 0 ∷ 0x80 ∷ 0x81 ∷ 0x82 ∷ [])
    ∷ (open_twice, 5 ∷ 0x80 ∷ 0 ∷ 0x81 ∷ 2 ∷ 0x82 ∷ 0 ∷ 0x80 ∷ 2 ∷ 0x81 ∷ 0x82 ∷ 2 ∷ 0 ∷ 0x80 ∷ 0x81 ∷ 0x82 ∷ [])
    ∷ (loose_prefix, 5 ∷ 1 ∷ 0x80 ∷ 0 ∷ 0x81 ∷ 1 ∷ 0 ∷ 0x80 ∷ 0x81 ∷ 0 ∷ 1 ∷ 0x80 ∷ 0x81 ∷ [])
    ∷ (
      round_by_sides,
      5 ∷ 0x80 ∷ 0 ∷ 0x81 ∷ 1 ∷ 0x82 ∷ 2 ∷ 0x83 ∷ 0 ∷ 0x80 ∷ 2 ∷ 1 ∷ 0x81 ∷ 0x82 ∷ 0x83 ∷ 2 ∷ 1 ∷ 0 ∷ 0x80 ∷ 0x81 ∷ 0x82 ∷ 0x83 ∷ [],
    )
    ∷ (
      yielding,
      5 ∷ 0x80 ∷ 0 ∷ 0x81 ∷ 1 ∷ 0x82 ∷ 2 ∷ 0x83 ∷ 0 ∷ 0x80 ∷ 1 ∷ 0x81 ∷ 2 ∷ 0x82 ∷ 0x83 ∷ 2 ∷ 0 ∷ 0x80 ∷ 1 ∷ 0x81 ∷ 0x82 ∷ 0x83 ∷ [],
    )
    ∷ []

abbrev pub Answered : Sheet × List ℕ → Type 0
Answered (s, answer) = witness_bytes (witness_of (ops s) (rules s)) ≡ answer
