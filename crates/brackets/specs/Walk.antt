-- What the walk over a record writes: the row of an operand with just the brackets that it needs. Assumes nothing.
use Rattle.std.specs.Prelude.{ℕ, ◌+◌, ◌≤◌, ◌≡◌, Bool, true, false, cond, Option, List, ◌++◌, length}
use Rattle.expression.specs.Lists.{any_holds}
use Rattle.expression.specs.Limits.{most_tokens, most_record_bytes}
use Rattle.expression.specs.Tree.{Tree, yield}
use Rattle.disambiguation.specs.Edges.{shown_as_left_operand, shown_as_right_operand}
use Rattle.sheet.specs.Layout.{operators_of}
use Rattle.record.specs.Counts.{sees_edge}
use Rattle.record.specs.TreeAt.{TreeAt}
use Rattle.brackets.specs.Enclosed.{around}
use Rattle.brackets.specs.Shortest.{enclosed_in}
use Rattle.brackets.specs.Edges.{closes_under, edge_shows, Marked}
use Rattle.brackets.specs.declared.walk.Side.{Side}
use Rattle.brackets.specs.declared.walk.Side.TheVariants.{Left, Shown, Right}

-- a right or only operand, or a tree with no operator above it
abbrev pub is_right : Side → Bool
is_right Left = false
is_right Shown = false
is_right Right = true

-- the side of a left operand, by whether its right edge shows a conflict with the operator above it
abbrev pub left_side : Bool → Side
left_side true = Shown
left_side false = Left

module _ (sheet : List ℕ) where
  -- An operand stands on the left or on the right of an operator, or has none above it, as in brackets and at the top.
  -- An operator o that is seen of it shows a conflict with the one above.
  abbrev pub shows : Option ℕ → Bool → ℕ → Bool
  shows above false o = sees_edge sheet above o
  shows above true o = closes_under sheet above o

  -- a tree in that place shows one
  abbrev pub shown : Option ℕ → Bool → Tree → Bool
  shown above right t = any_holds (shows above right) (cond right (shown_as_right_operand t) (shown_as_left_operand t))

  -- its row there
  abbrev pub row_under : Option ℕ → Bool → Tree → List ℕ
  row_under above right t = yield (around (shown above right (enclosed_in sheet t)) (enclosed_in sheet t))

  -- the side of a tree under the operator above
  abbrev pub side_of : Option ℕ → Bool → Tree → Side
  side_of above right t = cond right Right (left_side (edge_shows sheet above (enclosed_in sheet t)))

  -- A tree of that side stands at the place, within the bytes of a record, with its marks, and its row has room after those tokens.
  pub record StandsWithRoom (bytes : List ℕ) (marks : List Bool) (from : ℕ) (above : Option ℕ) (side : Side) (before : List ℕ) : Type 0 where
    pub tree : Tree
    pub to : ℕ
    pub stands : TreeAt (operators_of sheet) bytes from tree to
    pub within : to ≤ most_record_bytes
    pub marked : Marked sheet bytes marks from to
    pub sided : side ≡ side_of above (is_right side) tree
    pub room : length before + length (row_under above (is_right side) tree) ≤ most_tokens

  -- The row is written after the tokens that were there. The answer is the place after the tree.
  pub record Shortens (bytes : List ℕ) (from : ℕ) (above : Option ℕ) (side : Side) (before after : List ℕ) (end : ℕ) : Type 0 where
    pub wrote : (t : Tree) (to : ℕ) → TreeAt (operators_of sheet) bytes from t to → (end ≡ to) × (after ≡ before ++ row_under above (is_right side) t)
