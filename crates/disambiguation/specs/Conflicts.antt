-- The conflict count of a tree, and a row's conflict-free trees. Assumes nothing.
use Rattle.std.specs.Prelude.{ℕ, ◌+◌, ◌≡◌, Bool, List}
use Rattle.expression.specs.Lists.{how_many}
use Rattle.expression.specs.Token.{Operators, class}
use Rattle.expression.specs.Tree.{Tree, reading, bracket, binary, prefix, yield, Over}
use Rattle.disambiguation.specs.Rules.{Rule, L, R}
use Rattle.disambiguation.specs.Edges.{shown_as_left_operand, shown_as_right_operand}

-- The number of excluded patterns that the nodes show, where L and R say which are excluded: along an edge, one for each node met there.
abbrev pub conflicts : (ℕ → ℕ → Bool) → (ℕ → ℕ → Bool) → Tree → ℕ
conflicts L R (reading a) = 0
conflicts L R (bracket t) = conflicts L R t
conflicts L R (binary o l r) = how_many (L o) (shown_as_left_operand l) + how_many (R o) (shown_as_right_operand r) + (conflicts L R l + conflicts L R r)
conflicts L R (prefix p t) = how_many (R p) (shown_as_right_operand t) + conflicts L R t

-- the conflict count under a sheet's rules
abbrev pub conflict_count : List Rule → Tree → ℕ
conflict_count rules = conflicts (L rules) (R rules)

-- A row's conflict-free tree under a sheet: a tree over its operators, with that yield and conflict count 0.
pub record ConflictFreeTree (ops : Operators) (rules : List Rule) (row : List ℕ) (t : Tree) : Type 0 where
  pub over : Over (class ops) t
  pub yields : yield t ≡ row
  pub free : conflict_count rules t ≡ 0
