-- The cases of prefix operators hold of the definitions, by computation; and under two of the sheets a row has two conflict-free trees. Assumes nothing.
use Prim.Native.Nat.{ℕ}
use native.Mathlib.Omega.{arith}
use mathlib.Core.Path.{◌≡◌, refl}
use mathlib.Core.List.{[], ◌∷◌}
use Rattle.expression.specs.Lists.{All}
use Rattle.expression.specs.Token.{class}
use Rattle.expression.specs.Tree.{Tree, bracket, binary, prefix}
use Rattle.expression.specs.RowTest.{is_row}
use Rattle.expression.specs.Decode.{tree_of}
use Rattle.expression.specs.Checks.{row_number, record_number}
use Rattle.disambiguation.specs.Rules.{L, R}
use Rattle.disambiguation.specs.Below.{all_below}
use Rattle.disambiguation.specs.ExactlyOne.{HasTwo}
use Rattle.disambiguation.specs.Verdict.{safe, total, within, level}
use Rattle.disambiguation.specs.SheetChecks.{sheet_number}
use Rattle.disambiguation.specs.LeftToRight.{parse, made}
use Rattle.disambiguation.specs.Repair.{repair}
use Rattle.disambiguation.specs.Cases.{ops, rules, Holds}
use Rattle.disambiguation.specs.PrefixCases.{open_not, uneven_not, prefix_cases}
use Rattle.disambiguation.proofs.Cases.{w, x, y, z, ◌next◌}

abbrev tight : Tree
tight = binary 0 (prefix 1 w) x

abbrev loose : Tree
loose = prefix 1 (binary 0 w x)

pub prefix_cases_hold : All Holds prefix_cases
unfolding class is_row tree_of row_number record_number L R all_below safe total within level sheet_number parse made repair
prefix_cases_hold =
    (refl, (tight, (refl, refl), record { over = (refl, (refl, refl), refl); yields = refl; free = refl }))
    next (refl, (loose, (refl, refl), record { over = (refl, (refl, refl, refl)); yields = refl; free = refl }))
    next (refl, (tight, (refl, refl), record { over = (refl, (refl, refl), refl); yields = refl; free = refl }))
    next (refl, (loose, (refl, refl), record { over = (refl, (refl, refl, refl)); yields = refl; free = refl }))
    next (refl, (binary 0 (binary 0 w (prefix 1 x)) y, (refl, refl), record { over = (refl, (refl, refl, (refl, refl)), refl); yields = refl; free = refl }))
    next (refl, (binary 0 w (prefix 1 (binary 0 x y)), (refl, refl), record { over = (refl, refl, (refl, (refl, refl, refl))); yields = refl; free = refl }))
    next (loose, tight, (refl, refl), (refl, refl), record { over = (refl, (refl, refl), refl); yields = refl; free = refl }, refl)
    next (binary 0 (prefix 3 w) x, (refl, refl), refl)
    next (binary 0 (binary 1 w (prefix 3 x)) y, (refl, refl), refl)
    next (binary 0 (binary 1 w (binary 2 x (prefix 3 y))) z, (refl, refl), refl)
    next (binary 0 (binary 1 w (bracket (binary 2 x (prefix 3 y)))) z, (refl, refl), refl)
    next (binary 0 (bracket (prefix 3 w)) x, (refl, refl), refl)
    next (binary 0 (binary 1 (prefix 3 w) x) y, (refl, refl), refl)
    next (binary 0 (prefix 3 (binary 1 w (prefix 3 x))) y, (refl, refl), refl)
    next (binary 0 w (prefix 3 x), (refl, refl), refl)
    next (prefix 3 (binary 0 w x), (refl, refl), refl)
    next (loose, (refl, refl), refl)
    next (prefix 1 loose, (refl, refl), refl)
    next (prefix 1 (bracket (binary 0 w x)), (refl, refl), refl)
    next (binary 0 (prefix 1 w) (prefix 1 x), (refl, refl), refl)
    next (prefix 1 loose, (refl, refl), refl)
    next (binary 0 (binary 2 w x) (binary 2 y z), (refl, refl), refl)
    next (binary 0 (binary 3 w x) (binary 3 y z), (refl, refl), refl)
    next (binary 0 (binary 3 w x) (binary 3 y z), (refl, refl), refl)
    next refl next refl next refl next refl next refl next refl
    next refl next refl next refl next refl next refl
    next refl next refl next refl next refl next refl
    next tt

-- Without a rule for the prefix operator, "not w and x" has two trees.
pub open_has_two : HasTwo (ops open_not) (rules open_not) (1 ∷ 0x80 ∷ 0 ∷ 0x81 ∷ [])
unfolding class L R
open_has_two = (
  tight,
  loose,
  record { over = (refl, (refl, refl), refl); yields = refl; free = refl },
  record { over = (refl, (refl, refl, refl)); yields = refl; free = refl },
  λ e. let clash : ◌≡◌ {A = ℕ} 0 1 = cc in omega arith,
)

-- Where every pair is settled, and the prefix operator closes before 01 and 01 before 02, yet it does not before 02.
pub uneven_has_two : HasTwo (ops uneven_not) (rules uneven_not) (0 ∷ 0x80 ∷ 1 ∷ 0x81 ∷ 2 ∷ 0x82 ∷ [])
unfolding class L R
uneven_has_two = (
  binary 2 (binary 1 (prefix 0 w) x) y,
  prefix 0 (binary 2 (binary 1 w x) y),
  record { over = (refl, (refl, (refl, refl), refl), refl); yields = refl; free = refl },
  record { over = (refl, (refl, (refl, refl, refl), refl)); yields = refl; free = refl },
  λ e. let clash : ◌≡◌ {A = ℕ} 0 1 = cc in omega arith,
)
