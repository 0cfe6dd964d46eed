-- A tree with brackets just where its operators need them. Assumes nothing.
use Rattle.std.specs.Prelude.{ℕ, Bool, cond}
use Rattle.expression.specs.Lists.{any_holds}
use Rattle.expression.specs.Tree.{Tree, reading, bracket, binary, prefix}
use Rattle.disambiguation.specs.Edges.{shown_as_left_operand, shown_as_right_operand}

-- the tree, in brackets where they are needed
abbrev pub around : Bool → Tree → Tree
around needed t = cond needed (bracket t) t

-- L and R say which patterns are excluded.
module _ (L R : ℕ → ℕ → Bool) where
  -- an operand of o is bracketed exactly where it shows a conflict with o, on the left
  abbrev pub left_of : ℕ → Tree → Tree
  left_of o t = around (any_holds (L o) (shown_as_left_operand t)) t

  -- and on the right, or where it is the only one
  abbrev pub right_of : ℕ → Tree → Tree
  right_of o t = around (any_holds (R o) (shown_as_right_operand t)) t

  -- From the inside out: the brackets that were there are left out.
  abbrev pub enclosed : Tree → Tree
  enclosed (reading a) = reading a
  enclosed (bracket t) = enclosed t
  enclosed (binary o l r) = binary o (left_of o (enclosed l)) (right_of o (enclosed r))
  enclosed (prefix p t) = prefix p (right_of p (enclosed t))
