-- The row of an operand under the operator above it, by the operand's tree. Assumes nothing.
use Prim.Native.Nat.{ℕ}
use Rattle.std.specs.Prelude.{Option, Some, None}
use mathlib.Core.Path.{◌≡◌, refl, ap, sym, ◌∙◌}
use mathlib.Core.Bool.{Bool, true, false, ◌||◌, cond, or-true, or-false}
use mathlib.Core.List.{List, [], ◌∷◌, ◌++◌}
use Rattle.expression.specs.Lists.{any_holds}
use Rattle.expression.specs.Token.{opening, closing}
use Rattle.expression.specs.Tree.{Tree, reading, binary, prefix, yield}
use Rattle.expression.proofs.Tests.{any_append}
use Rattle.disambiguation.specs.Edges.{prefixes, on_top}
use Rattle.brackets.specs.Enclosed.{around}
use Rattle.brackets.specs.Shortest.{enclosed_in}
use Rattle.brackets.specs.Edges.{edge_shows}
use Rattle.brackets.specs.Walk.{is_right, left_side, shows, shown, row_under, side_of}
use Rattle.brackets.specs.declared.walk.Side.{Side}
use Rattle.brackets.specs.declared.walk.Side.TheVariants.{Shown, Right}
use Rattle.brackets.proofs.RightEdges.{as_right_plain}

-- a left side is no right one
pub mark_left : (b : Bool) → is_right (left_side b) ≡ false
mark_left true = refl
mark_left false = refl

shown_true : (b : Bool) → Shown ≡ left_side b → b ≡ true
shown_true true e = refl
shown_true false e = cc

module _ (sheet : List ℕ) where
  -- a reading
  pub leaf_row : (above : Option ℕ) (right : Bool) (a : ℕ) → row_under sheet above right (reading a) ≡ a ∷ []
  leaf_row above true a = refl
  leaf_row above false a = refl

  -- with nothing above it, a tree goes without brackets
  pub plain_row : (t : Tree) → row_under sheet None true t ≡ yield (enclosed_in sheet t)
  plain_row t = ap yield (as_right_plain sheet t)

  -- a tree that shows a conflict with the operator above
  pub wrapped_row : (above : Option ℕ) (right : Bool) (t : Tree) → shown sheet above right (enclosed_in sheet t) ≡ true
      → row_under sheet above right t ≡ opening ∷ row_under sheet None true t ++ (closing ∷ [])
  wrapped_row above right t e = ap (λ b. yield (around b (enclosed_in sheet t))) e ∙ sym (ap (λ row. opening ∷ row ++ (closing ∷ [])) (plain_row t))

  -- a left operand shows what its top does, and what its edge does
  left_shown : (above : Option ℕ) (t : Tree) → shown sheet above false t ≡ (any_holds (shows sheet above false) (on_top t) || edge_shows sheet above t)
  left_shown above t = any_append (shows sheet above false) (on_top t) (prefixes t)

  -- an operator on top that shows a conflict
  pub top_shown : (above : Option ℕ) (right : Bool) (o : ℕ) (l r : Tree) → shows sheet above right o ≡ true → shown sheet above right (enclosed_in sheet (binary o l r)) ≡ true
  top_shown above true o l r e = ap (λ b. b || false) e
  top_shown above false o l r e = ap (λ b. b || edge_shows sheet above (enclosed_in sheet (binary o l r))) e

  -- ---- by the side
  module _ (above : Option ℕ) (side : Side) (t : Tree) (sided : side ≡ side_of sheet above (is_right side) t) where
    pub edge_is : side ≡ Shown → edge_shows sheet above (enclosed_in sheet t) ≡ true
    edge_is e =
        let f : Shown ≡ left_side (edge_shows sheet above (enclosed_in sheet t)) = rw e at sided in
        shown_true (edge_shows sheet above (enclosed_in sheet t)) f

    pub edge_shown : side ≡ Shown → shown sheet above (is_right side) (enclosed_in sheet t) ≡ true
    edge_shown e =
        rw e (left_shown above (enclosed_in sheet t) ∙ ap (λ b. any_holds (shows sheet above false) (on_top (enclosed_in sheet t)) || b) (edge_is e)
        ∙ or-true (any_holds (shows sheet above false) (on_top (enclosed_in sheet t))))

    -- without a conflict on its edge, what is on top decides
    pub top_decides : (side ≡ Shown → ⊥) → shown sheet above (is_right side) (enclosed_in sheet t) ≡ any_holds (shows sheet above (is_right side)) (on_top (enclosed_in sheet t))
    top_decides other = go (is_right side) (edge_shows sheet above (enclosed_in sheet t)) refl sided
      where
        go : (right edge : Bool) → edge_shows sheet above (enclosed_in sheet t) ≡ edge → side ≡ cond right Right (left_side edge)
            → shown sheet above right (enclosed_in sheet t) ≡ any_holds (shows sheet above right) (on_top (enclosed_in sheet t))
        go true edge e f = refl
        go false true e f = absurd (other f)
        go false false e f =
            left_shown above (enclosed_in sheet t) ∙ ap (λ b. any_holds (shows sheet above false) (on_top (enclosed_in sheet t)) || b) e
            ∙ or-false (any_holds (shows sheet above false) (on_top (enclosed_in sheet t)))

  module _ (above : Option ℕ) (side : Side) (unshown : side ≡ Shown → ⊥) where
    -- a prefix operator
    pub prefix_row : (p : ℕ) (t : Tree) → side ≡ side_of sheet above (is_right side) (prefix p t) → row_under sheet above (is_right side) (prefix p t) ≡ p ∷ row_under sheet (Some p) true t
    prefix_row p t sided = ap (λ b. yield (around b (enclosed_in sheet (prefix p t)))) (top_decides above side (prefix p t) sided unshown)

    -- an infix operator that shows no conflict
    pub infix_row : (o : ℕ) (l r : Tree) → side ≡ side_of sheet above (is_right side) (binary o l r) → shows sheet above (is_right side) o ≡ false
        → row_under sheet above (is_right side) (binary o l r) ≡ row_under sheet (Some o) false l ++ o ∷ row_under sheet (Some o) true r
    infix_row o l r sided e =
        ap (λ b. yield (around b (enclosed_in sheet (binary o l r)))) (top_decides above side (binary o l r) sided unshown ∙ ap (λ b. b || false) e)
