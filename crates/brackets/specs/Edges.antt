-- The marks of a record: which left operands show a conflict by a prefix operator on their right edge. Assumes nothing.
use Rattle.std.specs.Prelude.{ℕ, ◌≤◌, ◌<◌, ◌≡◌, Bool, false, cond, Option, Some, None, List, length, get_or}
use Rattle.expression.specs.Lists.{any_holds}
use Rattle.expression.specs.Limits.{most_record_bytes}
use Rattle.expression.specs.Tree.{Tree, binary}
use Rattle.disambiguation.specs.Edges.{prefixes, shown_as_right_operand}
use Rattle.sheet.specs.Layout.{operators_of}
use Rattle.sheet.specs.Relation.{closes_in}
use Rattle.record.specs.TreeAt.{TreeAt}
use Rattle.record.specs.Counts.{sees_edge}
use Rattle.brackets.specs.Enclosed.{around}
use Rattle.brackets.specs.Shortest.{enclosed_in}

-- An infix operator on top of a right or only operand shows a conflict with the operator above, if there is one.
abbrev pub closes_under : List ℕ → Option ℕ → ℕ → Bool
closes_under sheet None o = false
closes_under sheet (Some above) o = closes_in sheet above o

module _ (sheet : List ℕ) where
  -- The infix operator right of a tree, the seer, if there is one, excludes a prefix operator on the tree's right edge.
  abbrev pub edge_shows : Option ℕ → Tree → Bool
  edge_shows seer t = any_holds (sees_edge sheet seer) (prefixes t)

  -- a tree as the right or only operand of the operator above it, with the brackets that it needs
  abbrev pub as_right : Option ℕ → Tree → Tree
  as_right above t = around (any_holds (closes_under sheet above) (shown_as_right_operand (enclosed_in sheet t))) (enclosed_in sheet t)

  -- The marks are right from one place to before another: set at just those infix operators whose left operand shows them a conflict on its right edge.
  pub record Marked (bytes : List ℕ) (marks : List Bool) (from to : ℕ) : Type 0 where
    pub mark : (at end o : ℕ) (l r : Tree) → from ≤ at → at < to → TreeAt (operators_of sheet) bytes at (binary o l r) end
        → get_or marks at false ≡ edge_shows (Some o) (enclosed_in sheet l)

  -- A tree stands at the place, within the bytes of a record.
  pub record Stands (bytes : List ℕ) (from : ℕ) : Type 0 where
    pub tree : Tree
    pub to : ℕ
    pub stands : TreeAt (operators_of sheet) bytes from tree to
    pub within : to ≤ most_record_bytes

  -- A tree is all of a record, which is the first bytes, so many.
  pub record Fills (bytes : List ℕ) (size : ℕ) : Type 0 where
    pub tree : Tree
    pub stands : TreeAt (operators_of sheet) bytes 0 tree size
    pub within : size ≤ most_record_bytes

  -- who sees the right edge of operator o's tree under the operator above: none where the tree is bracketed there
  abbrev pub seer_past : Option ℕ → ℕ → Option ℕ → Option ℕ
  seer_past above o seer = cond (closes_under sheet above o) None seer

  -- The tree at the place `from` is marked. The answer is the place after it, and whether the tree, as the right or only operand of the operator above,
  -- shows the seer a conflict on its edge.
  pub record MarksEdges (bytes : List ℕ) (from : ℕ) (above seer : Option ℕ) (before after : List Bool) (end : ℕ) (shown : Bool) : Type 0 where
    pub found : (t : Tree) (to : ℕ) → TreeAt (operators_of sheet) bytes from t to → (end ≡ to) × (shown ≡ edge_shows seer (as_right above t))
    pub marked : Marked bytes after from end
    -- the marks before the place are kept, and there are as many as before
    pub kept : (at : ℕ) → at < from → get_or after at false ≡ get_or before at false
    pub long : length after ≡ length before
