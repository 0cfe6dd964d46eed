-- The cases of chains hold of the definitions, by computation. Assumes nothing.
use Prim.Native.Nat.{ℕ}
use native.Mathlib.Omega.{arith}
use mathlib.Core.Path.{◌≡◌, refl}
use mathlib.Core.List.{[], ◌∷◌}
use Rattle.expression.specs.Lists.{All}
use Rattle.expression.specs.Token.{class}
use Rattle.expression.specs.Tree.{Tree, binary}
use Rattle.expression.specs.Decode.{tree_of}
use Rattle.expression.specs.Checks.{record_number}
use Rattle.disambiguation.specs.Rules.{L, R}
use Rattle.disambiguation.specs.Below.{all_below}
use Rattle.disambiguation.specs.Verdict.{safe, total, within, level}
use Rattle.disambiguation.specs.SheetChecks.{sheet_number}
use Rattle.disambiguation.specs.ExactlyOne.{HasTwo}
use Rattle.disambiguation.specs.Cases.{ops, rules, Holds}
use Rattle.disambiguation.specs.ChainCases.{round_by_sides, chain_cases}
use Rattle.disambiguation.proofs.Cases.{w, x, y, z, ◌next◌}

-- b on both sides of a
abbrev under : ℕ → ℕ → Tree
under a b = binary a (binary b w x) (binary b y z)

pub chains_hold : All Holds chain_cases
unfolding class tree_of record_number L R all_below safe total within level sheet_number
chains_hold =
    (under 0 2, (refl, refl), refl)
    next (under 2 0, (refl, refl), refl)
    next (under 0 3, (refl, refl), refl)
    next (under 0 2, (refl, refl), refl)
    next (under 1 3, (refl, refl), refl)
    next (under 3 0, (refl, refl), refl)
    next (under 0 4, (refl, refl), refl)
    next (under 4 0, (refl, refl), refl)
    next (under 0 3, (refl, refl), refl)
    next (under 0 2, (refl, refl), refl)
    next (under 1 3, (refl, refl), refl)
    next (under 0 0, (refl, refl), refl)
    next (under 1 1, (refl, refl), refl)
    next refl
    next (under 0 2, (refl, refl), refl)
    next (under 0 2, (refl, refl), refl)
    next (under 0 2, (refl, refl), refl)
    next refl
    next tt

-- Every pair is settled, yet this row has two trees.
pub round_has_two : HasTwo (ops round_by_sides) (rules round_by_sides) (0x80 ∷ 0 ∷ 0x81 ∷ 1 ∷ 0x82 ∷ 2 ∷ 0x83 ∷ [])
unfolding class L R
round_has_two = (
  binary 2 (binary 1 (binary 0 w x) y) z,
  binary 0 w (binary 2 (binary 1 x y) z),
  record { over = (refl, (refl, (refl, refl, refl), refl), refl); yields = refl; free = refl },
  record { over = (refl, refl, (refl, (refl, refl, refl), refl)); yields = refl; free = refl },
  λ e. let clash : ◌≡◌ {A = ℕ} 0 1 = cc in omega arith,
)
