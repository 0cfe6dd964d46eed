-- The cases of docs/REFERENCE.md, section 11, and the cases against misreadings, hold of the definitions, by computation. Assumes nothing.
use mathlib.Core.Path.{refl}
use Rattle.expression.specs.Lists.{All}
use Rattle.expression.specs.Token.{class}
use Rattle.expression.specs.Tree.{Tree, reading, bracket, binary}
use Rattle.expression.specs.RowTest.{is_row}
use Rattle.expression.specs.Decode.{tree_of}
use Rattle.expression.specs.Checks.{row_number, record_number}
use Rattle.disambiguation.specs.Rules.{L, R}
use Rattle.disambiguation.specs.Below.{all_below}
use Rattle.disambiguation.specs.Verdict.{safe, total, within, level}
use Rattle.disambiguation.specs.SheetChecks.{sheet_number}
use Rattle.disambiguation.specs.LeftToRight.{parse, made}
use Rattle.disambiguation.specs.Repair.{repair}
use Rattle.disambiguation.specs.Cases.{Holds, table}
use Rattle.disambiguation.specs.Misreadings.{misreadings}

abbrev pub w : Tree
w = reading 0x80

abbrev pub x : Tree
x = reading 0x81

abbrev pub y : Tree
y = reading 0x82

abbrev pub z : Tree
z = reading 0x83

-- a line and the lines after it
infixr 10 ◌next◌
abbrev pub ◌next◌ : {A B : Type 0} → A → B → A × B
a next b = (a, b)

pub cases_hold : All Holds table
unfolding class is_row tree_of row_number record_number L R all_below safe total within level sheet_number parse made repair
cases_hold =
    (refl, (w, (refl, refl), record { over = refl; yields = refl; free = refl }))
    next (refl, (binary 0 w (binary 1 x y), (refl, refl), record { over = (refl, refl, (refl, refl, refl)); yields = refl; free = refl }))
    next (refl, (binary 0 (binary 1 w x) y, (refl, refl), record { over = (refl, (refl, refl, refl), refl); yields = refl; free = refl }))
    next (refl, (binary 0 (binary 0 w x) y, (refl, refl), record { over = (refl, (refl, refl, refl), refl); yields = refl; free = refl }))
    next (refl, (binary 1 (bracket (binary 0 w x)) y, (refl, refl), record { over = (refl, (refl, refl, refl), refl); yields = refl; free = refl }))
    next (
      binary 1 (binary 0 w x) y,
      binary 0 w (binary 1 x y),
      (refl, refl),
      (refl, refl),
      record { over = (refl, refl, (refl, refl, refl)); yields = refl; free = refl },
      refl,
    )
    next (binary 1 (binary 0 w x) y, (refl, refl), refl)
    next refl next refl next refl
    next refl next refl next refl
    next refl next refl next refl next refl next refl
    next tt

pub misreadings_hold : All Holds misreadings
unfolding class is_row tree_of row_number record_number L R all_below safe total within level sheet_number parse made repair
misreadings_hold =
    (binary 0 w (binary 1 x y), (refl, refl), refl)
    next (binary 0 (binary 1 w x) y, (refl, refl), refl)
    next (binary 1 w (binary 0 x y), (refl, refl), refl)
    next (binary 1 (binary 0 w x) y, (refl, refl), refl)
    next (binary 0 (binary 1 w x) y, (refl, refl), refl)
    next (binary 0 w (binary 1 x y), (refl, refl), refl)
    next (binary 1 w (binary 0 x y), (refl, refl), refl)
    next (binary 0 (binary 1 w x) y, (refl, refl), refl)
    next (binary 0 w (binary 1 x y), (refl, refl), refl)
    next (binary 0 (binary 1 w x) (binary 1 y z), (refl, refl), refl)
    next (binary 1 (binary 0 w x) (binary 0 y z), (refl, refl), refl)
    next refl next refl next refl
    next (binary 1 (bracket (binary 0 w x)) y, (refl, refl), refl)
    next (
      binary 1 (bracket (binary 0 w x)) y,
      binary 1 (bracket (binary 0 w x)) y,
      (refl, refl),
      (refl, refl),
      record { over = (refl, (refl, refl, refl), refl); yields = refl; free = refl },
      refl,
    )
    next (
      binary 1 (binary 0 w (bracket (binary 0 x y))) z,
      binary 0 w (binary 1 (bracket (binary 0 x y)) z),
      (refl, refl),
      (refl, refl),
      record { over = (refl, refl, (refl, (refl, refl, refl), refl)); yields = refl; free = refl },
      refl,
    )
    next (binary 0 (binary 1 (binary 0 w x) y) z, (refl, refl), refl)
    next (
      binary 1 (binary 1 (binary 0 w x) y) z,
      binary 0 w (binary 1 (binary 1 x y) z),
      (refl, refl),
      (refl, refl),
      record { over = (refl, refl, (refl, (refl, refl, refl), refl)); yields = refl; free = refl },
      refl,
    )
    next tt
