-- The conflict count of the tree at a place of a record, under a sheet. Assumes nothing.
use Rattle.std.specs.Prelude.{ℕ, ◌+◌, ◌≡◌, Bool, false, not, Option, Some, None, List}
use Rattle.expression.specs.Lists.{how_many}
use Rattle.expression.specs.Tree.{Tree}
use Rattle.disambiguation.specs.Edges.{on_top, prefixes}
use Rattle.disambiguation.specs.Conflicts.{conflicts}
use Rattle.sheet.specs.Layout.{operators_of}
use Rattle.sheet.specs.Relation.{closes_in}
use Rattle.record.specs.TreeAt.{TreeAt}

-- L(o,b) is excluded where b does not close before o, and R(o,b) where o closes before b.
abbrev pub excluded_left : List ℕ → ℕ → ℕ → Bool
excluded_left sheet o b = not (closes_in sheet b o)

abbrev pub conflicts_in : List ℕ → Tree → ℕ
conflicts_in sheet = conflicts (excluded_left sheet) (closes_in sheet)

-- The infix operator right of a tree that sees its right edge, if there is one, excludes operator p there.
abbrev pub sees_edge : List ℕ → Option ℕ → ℕ → Bool
sees_edge sheet None p = false
sees_edge sheet (Some seer) p = excluded_left sheet seer p

-- what it shows with a tree
abbrev pub on_edge : List ℕ → Option ℕ → Tree → ℕ
on_edge sheet seer t = how_many (sees_edge sheet seer) (prefixes t)

-- An infix operator o on top of an operand is seen by the operator above, whose right or only operand that is, and where there is none by the seer, whose left operand it is.
abbrev pub shows_top : List ℕ → Option ℕ → Option ℕ → ℕ → Bool
shows_top sheet None seer o = sees_edge sheet seer o
shows_top sheet (Some above) seer o = closes_in sheet above o

-- the conflicts of a tree, and what those around it show with it
abbrev pub shown : List ℕ → Option ℕ → Option ℕ → Tree → ℕ
shown sheet above seer t = conflicts_in sheet t + (how_many (shows_top sheet above seer) (on_top t) + on_edge sheet seer t)

-- From the place `from`, with so many counted before it and after it.
pub record Counts (sheet bytes : List ℕ) (from : ℕ) (above seer : Option ℕ) (before : ℕ) (r : Option ℕ) (after : ℕ) : Type 0 where
  -- where a tree stands, its end, and what it shows added to the count
  pub counted : (t : Tree) (to : ℕ) → TreeAt (operators_of sheet) bytes from t to → (r ≡ Some to) × (after ≡ before + shown sheet above seer t)
  -- where an end is given, a tree stands up to it
  pub found : (to : ℕ) → r ≡ Some to → (t : Tree) × TreeAt (operators_of sheet) bytes from t to
