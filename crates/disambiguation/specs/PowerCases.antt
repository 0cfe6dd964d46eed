-- The binding powers of small sheets, as one table. Assumes nothing.
use Rattle.std.specs.Prelude.{ℕ, ◌≡◌, List, [], ◌∷◌}
use Rattle.expression.specs.Lists.{All}
use Rattle.expression.specs.Refusal.{accepted}
use Rattle.expression.specs.Token.{Infix, infix_kind, prefix_kind, class}
use Rattle.disambiguation.specs.Rules.{priority, left, right, R}
use Rattle.disambiguation.specs.Verdict.{verdict}
use Rattle.disambiguation.specs.Powers.{left_power, right_power}
use Rattle.disambiguation.specs.Cases.{Sheet, infixes, ops, rules, sheet_a}

-- an infix operator, its left and its right power
pub record Powered : Type 0 where
  pub operator : ℕ
  pub left : ℕ
  pub right : ℕ

abbrev has : ℕ → ℕ → ℕ → Powered
has operator left right = record { operator = operator; left = left; right = right }

-- a sheet and its infix operators
pub record Case : Type 0 where
  pub sheet : Sheet
  pub powered : List Powered

abbrev case : Sheet → List Powered → Case
case sheet powered = record { sheet = sheet; powered = powered }

-- What a line of the table claims: the sheet is accepted, and these are the powers.
abbrev pub Holds : Case → Type 0
Holds c =
    (verdict (ops c.sheet) (rules c.sheet) ≡ accepted)
    × All (λ p. (class (ops c.sheet) p.operator ≡ Infix) × (left_power (ops c.sheet) (R (rules c.sheet)) p.operator ≡ p.left)
    × (right_power (ops c.sheet) (R (rules c.sheet)) p.operator ≡ p.right)) c.powered

-- 00 is right with itself
abbrev one_right : Sheet
one_right = record { kinds = infixes 1; bytes = right ∷ 0 ∷ 0 ∷ [] }

-- 00 over 01 over 02 by a chain, each left with itself
abbrev chain : Sheet
chain = record { kinds = infixes 3; bytes = left ∷ 0 ∷ 0 ∷ left ∷ 1 ∷ 1 ∷ left ∷ 2 ∷ 2 ∷ priority ∷ 0 ∷ 1 ∷ priority ∷ 1 ∷ 2 ∷ [] }

-- 00 groups to the right and lies above 01, which groups to the left: both close before 01 alone
abbrev right_above_left : Sheet
right_above_left = record { kinds = infixes 2; bytes = right ∷ 0 ∷ 0 ∷ left ∷ 1 ∷ 1 ∷ priority ∷ 0 ∷ 1 ∷ [] }

-- 00 and 01 are one level that groups to the right; 02 lies above both
abbrev right_level : Sheet
right_level =
    record {
      kinds = infixes 3;
      bytes = right ∷ 0 ∷ 0 ∷ right ∷ 0 ∷ 1 ∷ right ∷ 1 ∷ 0 ∷ right ∷ 1 ∷ 1 ∷ left ∷ 2 ∷ 2 ∷ priority ∷ 2 ∷ 0 ∷ priority ∷ 2 ∷ 1 ∷ [];
    }

-- or, and, not: 02 over 01 over 00
abbrev or_and_not : Sheet
or_and_not = record { kinds = infix_kind ∷ infix_kind ∷ prefix_kind ∷ []; bytes = priority ∷ 2 ∷ 1 ∷ priority ∷ 1 ∷ 0 ∷ left ∷ 1 ∷ 1 ∷ left ∷ 0 ∷ 0 ∷ [] }

-- the prefix operator between the two infix ones: 02 over 01 over 00
abbrev between : Sheet
between = record { kinds = infix_kind ∷ prefix_kind ∷ infix_kind ∷ []; bytes = priority ∷ 2 ∷ 1 ∷ priority ∷ 1 ∷ 0 ∷ left ∷ 2 ∷ 2 ∷ left ∷ 0 ∷ 0 ∷ [] }

abbrev pub table : List Case
table =
    case sheet_a (has 0 2 2 ∷ has 1 4 4 ∷ [])
    ∷ case one_right (has 0 2 1 ∷ [])
    ∷ case chain (has 0 6 6 ∷ has 1 4 4 ∷ has 2 2 2 ∷ [])
    ∷ case right_above_left (has 0 4 3 ∷ has 1 2 2 ∷ [])
    ∷ case right_level (has 0 2 1 ∷ has 1 2 1 ∷ has 2 6 6 ∷ [])
    ∷ case or_and_not (has 0 2 2 ∷ has 1 4 4 ∷ [])
    ∷ case between (has 0 2 2 ∷ has 2 4 4 ∷ [])
    ∷ []
