-- The edges of a tree, and what it shows of them to the operator whose operand it is. Assumes nothing.
use Rattle.std.specs.Prelude.{ℕ, List, [], ◌∷◌, ◌++◌}
use Rattle.expression.specs.Tree.{Tree, reading, bracket, binary, prefix}

-- the operators along the right edge, from the top: down the right operands, a prefix operator's only one, to the first bracket or reading
abbrev pub right_edge : Tree → List ℕ
right_edge (reading a) = []
right_edge (bracket t) = []
right_edge (binary o l r) = o ∷ right_edge r
right_edge (prefix p t) = p ∷ right_edge t

-- the operators along the left edge that have an operand on their left: down the left operands; a prefix operator ends it
abbrev pub left_edge : Tree → List ℕ
left_edge (reading a) = []
left_edge (bracket t) = []
left_edge (binary o l r) = o ∷ left_edge l
left_edge (prefix p t) = []

-- of the right edge the prefix operators
abbrev pub prefixes : Tree → List ℕ
prefixes (reading a) = []
prefixes (bracket t) = []
prefixes (binary o l r) = prefixes r
prefixes (prefix p t) = p ∷ prefixes t

-- the infix operator on top, if there is one; a bracket node is never the operator inside it
abbrev pub on_top : Tree → List ℕ
on_top (reading a) = []
on_top (bracket t) = []
on_top (binary o l r) = o ∷ []
on_top (prefix p t) = []

-- What a tree shows as a left operand, to the operator on its right: an infix operator on top, and the prefix operators anywhere on the right edge.
abbrev pub shown_as_left_operand : Tree → List ℕ
shown_as_left_operand t = on_top t ++ prefixes t

-- what it shows as a right or only operand, to the operator on its left: an infix operator on top
abbrev pub shown_as_right_operand : Tree → List ℕ
shown_as_right_operand t = on_top t
