-- The table of binding powers, and rows read by powers, by computation. Assumes nothing.
use Prim.Native.Nat.{ℕ}
use mathlib.Core.Path.{◌≡◌, refl}
use mathlib.Core.Option.{Option, none, some}
use mathlib.Core.List.{List, [], ◌∷◌}
use Rattle.expression.specs.Lists.{All}
use Rattle.expression.specs.Token.{class}
use Rattle.expression.specs.Tree.{Tree, bracket, binary}
use Rattle.disambiguation.specs.Below.{all_below, count_below}
use Rattle.disambiguation.specs.Rules.{L, R}
use Rattle.disambiguation.specs.Verdict.{safe, total, within, level, verdict}
use Rattle.disambiguation.specs.Powers.{below, left_power, right_power}
use Rattle.disambiguation.specs.ByPowers.{expression, operand, onward, read_by_powers}
use Rattle.disambiguation.specs.Cases.{ops, rules, sheet_a}
use Rattle.disambiguation.specs.PowerCases.{Holds, table}
use Rattle.disambiguation.proofs.Cases.{w, x, y, ◌next◌}

pub powers_hold : All Holds table
unfolding class L R all_below count_below safe total within level verdict below left_power right_power
powers_hold =
    (refl, (refl, refl, refl) next (refl, refl, refl) next tt)
    next (refl, (refl, refl, refl) next tt)
    next (refl, (refl, refl, refl) next (refl, refl, refl) next (refl, refl, refl) next tt)
    next (refl, (refl, refl, refl) next (refl, refl, refl) next tt)
    next (refl, (refl, refl, refl) next (refl, refl, refl) next (refl, refl, refl) next tt)
    next (refl, (refl, refl, refl) next (refl, refl, refl) next tt)
    next (refl, (refl, refl, refl) next (refl, refl, refl) next tt)
    next tt

-- under sheet A
abbrev read_a : List ℕ → Option Tree
read_a = read_by_powers (class (ops sheet_a)) (left_power (ops sheet_a) (R (rules sheet_a))) (right_power (ops sheet_a) (R (rules sheet_a)))

-- The rows of cases 2 to 5, and some that are no rows.
pub reads_as_built :
    (read_a (0x80 ∷ 0 ∷ 0x81 ∷ 1 ∷ 0x82 ∷ []) ≡ some (binary 0 w (binary 1 x y)))
    × (read_a (0x80 ∷ 1 ∷ 0x81 ∷ 0 ∷ 0x82 ∷ []) ≡ some (binary 0 (binary 1 w x) y))
    × (read_a (0x80 ∷ 0 ∷ 0x81 ∷ 0 ∷ 0x82 ∷ []) ≡ some (binary 0 (binary 0 w x) y))
    × (read_a (0x20 ∷ 0x80 ∷ 0 ∷ 0x81 ∷ 0x21 ∷ 1 ∷ 0x82 ∷ []) ≡ some (binary 1 (bracket (binary 0 w x)) y))
    × (read_a [] ≡ none)
    × (read_a (0x80 ∷ 0x81 ∷ []) ≡ none)
    × (read_a (0x20 ∷ 0x21 ∷ []) ≡ none)
unfolding class L R count_below below left_power right_power expression operand onward read_by_powers
reads_as_built = (refl, refl, refl, refl, refl, refl, refl)
