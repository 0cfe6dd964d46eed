-- What an operator sees of the right edge of a tree, by the tree's top. Assumes nothing.
use Prim.Native.Nat.{ℕ}
use mathlib.Core.Path.{◌≡◌, refl, ap}
use mathlib.Core.Bool.{Bool, true, false, ◌||◌, cond}
use mathlib.Core.List.{List, [], ◌∷◌}
use Rattle.std.specs.Prelude.{Option, Some, None}
use Rattle.expression.specs.Lists.{any_holds}
use Rattle.expression.specs.Tree.{Tree, binary}
use Rattle.disambiguation.specs.Edges.{prefixes, on_top}
use Rattle.record.specs.Counts.{sees_edge}
use Rattle.brackets.specs.Enclosed.{around}
use Rattle.brackets.specs.Shortest.{enclosed_in}
use Rattle.brackets.specs.Edges.{closes_under, edge_shows, as_right, seer_past}

-- with no operator above, no operator on top shows a conflict
closes_none : (sheet xs : List ℕ) → any_holds (closes_under sheet None) xs ≡ false
closes_none sheet [] = refl
closes_none sheet (x ∷ xs) = closes_none sheet xs

module _ (sheet : List ℕ) where
  -- no operator sees an edge
  pub none_sees : (xs : List ℕ) → any_holds (sees_edge sheet None) xs ≡ false
  none_sees [] = refl
  none_sees (x ∷ xs) = none_sees xs

  -- with no operator above, a tree has no brackets around it
  pub as_right_plain : (t : Tree) → as_right sheet None t ≡ enclosed_in sheet t
  as_right_plain t = ap (λ b. around b (enclosed_in sheet t)) (closes_none sheet (on_top (enclosed_in sheet t)))

  -- the edge of an operator's tree is that of its right operand
  pub edge_past : (above : Option ℕ) (o : ℕ) (seer : Option ℕ) (l r : Tree)
      → edge_shows sheet (seer_past sheet above o seer) (as_right sheet (Some o) r) ≡ edge_shows sheet seer (as_right sheet above (binary o l r))
  edge_past above o seer l r = go (closes_under sheet above o)
    where
      go : (b : Bool) → edge_shows sheet (cond b None seer) (as_right sheet (Some o) r) ≡ edge_shows sheet seer (around (b || false) (enclosed_in sheet (binary o l r)))
      go true = none_sees (prefixes (as_right sheet (Some o) r))
      go false = refl
