-- The left-to-right machine on rows under sheet A, token by token, by computation. Assumes nothing.
use Prim.Native.Nat.{ℕ}
use mathlib.Core.Path.{◌≡◌, refl}
use mathlib.Core.Option.{none, some}
use mathlib.Core.List.{List, [], ◌∷◌}
use Rattle.expression.specs.Token.{class}
use Rattle.expression.specs.Tree.{Tree, reading, bracket, binary}
use Rattle.disambiguation.specs.Rules.{L, R}
use Rattle.disambiguation.specs.SheetChecks.{rules_of}
use Rattle.disambiguation.specs.Cases.{ops, sheet_a}
use Rattle.disambiguation.specs.LeftToRight.{State, due, have, stuck, after, bottom, opened, waiting, finish, state_after}

abbrev state : List ℕ → State
state = state_after (R (rules_of sheet_a.bytes)) (class (ops sheet_a))

abbrev x : Tree
x = reading 0x80

abbrev y : Tree
y = reading 0x81

abbrev z : Tree
z = reading 0x82

-- Case 2's row: 00 waits until the end, since 01 binds tighter. Each beginning that is a row has its tree.
pub waits_for_the_end :
    (state (0x80 ∷ 0 ∷ 0x81 ∷ 1 ∷ []) ≡ due (waiting (after y 1) (waiting (after x 0) bottom)))
    × (finish (state (0x80 ∷ [])) ≡ some x)
    × (finish (state (0x80 ∷ 0 ∷ [])) ≡ none)
    × (finish (state (0x80 ∷ 0 ∷ 0x81 ∷ [])) ≡ some (binary 0 x y))
    × (finish (state (0x80 ∷ 0 ∷ 0x81 ∷ 1 ∷ 0x82 ∷ [])) ≡ some (binary 0 x (binary 1 y z)))
unfolding class L R
waits_for_the_end = (refl, refl, refl, refl, refl)

-- Case 3's row: 01 closes where 00 comes. Case 4's: 00 closes before itself.
pub closes_at_once :
    (state (0x80 ∷ 1 ∷ 0x81 ∷ 0 ∷ []) ≡ due (waiting (after (binary 1 x y) 0) bottom))
    × (state (0x80 ∷ 0 ∷ 0x81 ∷ 0 ∷ []) ≡ due (waiting (after (binary 0 x y) 0) bottom))
unfolding class L R
closes_at_once = (refl, refl)

-- Case 5's row: the bracket closes what waits inside it, and nothing before it.
pub closes_to_the_bracket :
    (state (0x80 ∷ 0 ∷ 0x20 ∷ 0x81 ∷ 0 ∷ 0x82 ∷ []) ≡ have (waiting (after y 0) (opened (waiting (after x 0) bottom))) z)
    × (state (0x80 ∷ 0 ∷ 0x20 ∷ 0x81 ∷ 0 ∷ 0x82 ∷ 0x21 ∷ []) ≡ have (waiting (after x 0) bottom) (bracket (binary 0 y z)))
    × (finish (state (0x20 ∷ 0x80 ∷ 0 ∷ 0x81 ∷ 0x21 ∷ 1 ∷ 0x82 ∷ [])) ≡ some (binary 1 (bracket (binary 0 x y)) z))
unfolding class L R
closes_to_the_bracket = (refl, refl, refl)

-- An operator where an operand is due, two readings, a bracket that was not opened: no row begins so.
pub gets_stuck :
    (state (0 ∷ []) ≡ stuck) × (state (0x80 ∷ 0x81 ∷ []) ≡ stuck) × (state (0x80 ∷ 0x21 ∷ []) ≡ stuck) × (state (0x80 ∷ 2 ∷ []) ≡ stuck)
unfolding class L R
gets_stuck = (refl, refl, refl, refl)
