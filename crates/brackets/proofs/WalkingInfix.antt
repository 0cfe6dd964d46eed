-- What the ways through `write_operand` give for an operator that shows no conflict with the one above: its operands, and itself between them. Assumes nothing.
use Prim.Native.Nat.{ℕ, suc, ◌+◌, ◌-◌, ◌<◌}
use native.Mathlib.Omega.{arith}
use mathlib.Core.Path.{◌≡◌, refl, ap, sym, subst, ◌∙◌}
use mathlib.Core.Bool.{Bool, true, false}
use mathlib.Core.List.{List, [], ◌∷◌, ◌++◌, append_assoc}
use lib.ListN.{length, get_or, length-append}
use borrow.Author.Rules.{rules}
use Rattle.expression.specs.Limits.{most_tokens, most_record_bytes}
use Rattle.expression.specs.Tree.{Tree, binary}
use Rattle.sheet.specs.Layout.{operators_of}
use Rattle.record.specs.Node.{node_at}
use Rattle.record.specs.TreeAt.{TreeAt}
use Rattle.record.specs.declared.Node.{Node}
use Rattle.record.specs.declared.Node.TheVariants as node
use Rattle.record.proofs.Trees.{a_reading, an_operator}
use Rattle.record.proofs.Standing.{onward}
use Rattle.brackets.specs.Shortest.{enclosed_in}
use Rattle.brackets.specs.Edges.{edge_shows, Stands}
use Rattle.brackets.specs.Walk.{left_side, is_right, shows, row_under, side_of, StandsWithRoom, Shortens}
use Rattle.brackets.specs.declared.walk.Side.{Side}
use Rattle.brackets.specs.declared.walk.Side.TheVariants.{Shown, Right}
use Rattle.brackets.proofs.OperandRows.{mark_left, leaf_row, infix_row}
use Rattle.brackets.proofs.Walking.{Leads, due, one_more, inside, sided_as, marked_within, bracket_ways}
use Rattle.brackets.proofs.WalkingNodes.{node_ways}
use Rattle.std.specs.Prelude.{Option, Some}

-- Operator o's left operand, which stands behind the place, is written after the row, and ends there.
pub record Lefts (sheet bytes : List ℕ) (at o : ℕ) (row middle : List ℕ) (mid : ℕ) : Type 0 where
  pub wrote_left : (t : Tree) (to : ℕ) → TreeAt (operators_of sheet) bytes (at + 1) t to → (mid ≡ to) × (middle ≡ row ++ row_under sheet (Some o) false t)

-- a reading, two places on: no call is made for it
pub left_leaf : {sheet bytes : List ℕ} {at : ℕ} (o : ℕ) {row middle : List ℕ} {y : Node} {a : ℕ} → Some y ≡ node_at (operators_of sheet) bytes (at + 1) → y ≡ node.Reading a
    → middle ≡ row ++ a ∷ [] → Lefts sheet bytes at o row middle (at + 2)
left_leaf {sheet} {bytes} {at} o {row} {a = a} next leaf put =
    record {
      wrote_left = λ t to k.
          let (e, f) = a_reading (operators_of sheet) bytes (at + 1) next leaf t k in
          (omega (arith, f), put ∙ ap (λ v. row ++ v) (sym (ap (row_under sheet (Some o) false) e ∙ leaf_row sheet (Some o) false a)));
    }

pub left_walked : {sheet bytes : List ℕ} {at o : ℕ} {row middle : List ℕ} {mid : ℕ} {given : Side} (mark : Bool) → given ≡ left_side mark
    → Shortens sheet bytes (at + 1) (Some o) given row middle mid → Lefts sheet bytes at o row middle mid
left_walked {sheet} {o = o} {row} mark given_is g =
    let on_left = ap is_right given_is ∙ mark_left mark in
    record {
      wrote_left = λ t to k.
          let (a, c) = g.wrote t to k in
          (a, c ∙ ap (λ right. row ++ row_under sheet (Some o) right t) on_left);
    }

module _ {sheet bytes : List ℕ} {marks : List Bool} {from : ℕ} {above : Option ℕ} {side : Side} {before : List ℕ} {at : ℕ} {above_it : Option ℕ} {side_it : Side} {row : List ℕ}
    (lead : Leads sheet bytes marks from above side before at above_it side_it row) {x : Node} (found : Some x ≡ node_at (operators_of sheet) bytes at) {o : ℕ}
    (is : x ≡ node.Operator o) (unshown : side_it ≡ Shown → ⊥) {b : Bool} (tested : b ≡ shows sheet above_it (is_right side_it) o) (not_shown : b ≡ false) where
  abbrev h : StandsWithRoom sheet bytes marks at above_it side_it row
  h = lead.here

  record Operands (t : Tree) (to : ℕ) : Type 0 where
    left : Tree
    right_one : Tree
    mid : ℕ
    tree_is : t ≡ binary o left right_one
    left_at : TreeAt (operators_of sheet) bytes (at + 1) left mid
    right_at : TreeAt (operators_of sheet) bytes mid right_one to
    row_is : row_under sheet above_it (is_right side_it) t ≡ row_under sheet (Some o) false left ++ o ∷ row_under sheet (Some o) true right_one
    long : length (row_under sheet above_it (is_right side_it) t) ≡ length (row_under sheet (Some o) false left) + suc (length (row_under sheet (Some o) true right_one))

  operands : (t : Tree) {to : ℕ} → TreeAt (operators_of sheet) bytes at t to → Operands t to
  operands t {to} k =
      let (l, r, mid, e, y, z) = an_operator (operators_of sheet) bytes at found is t k in
      let sided = sided_as lead t to k ∙ ap (side_of sheet above_it (is_right side_it)) e in
      let w : row_under sheet above_it (is_right side_it) t ≡ row_under sheet (Some o) false l ++ o ∷ row_under sheet (Some o) true r =
      ap (row_under sheet above_it (is_right side_it)) e ∙ infix_row sheet above_it side_it unshown o l r sided (sym tested ∙ not_shown) in
      record {
        left = l;
        right_one = r;
        mid = mid;
        tree_is = e;
        left_at = y;
        right_at = z;
        row_is = w;
        long = ap length w ∙ length-append (row_under sheet (Some o) false l) (o ∷ row_under sheet (Some o) true r);
      }

  abbrev here : Operands h.tree h.to
  here = operands h.tree h.stands

  in_order : (at + 1 < here.mid) × (here.mid < h.to)
  in_order = (onward (operators_of sheet) bytes (at + 1) here.left here.left_at, onward (operators_of sheet) bytes here.mid here.right_one here.right_at)

  pub left_here : Stands sheet bytes (at + 1)
  left_here = record { tree = here.left; to = here.mid; stands = here.left_at; within = omega (arith, in_order, h.within) }

  pub leaf_first : length row < most_tokens
  leaf_first = omega (arith, h.room, here.long)

  -- the mark at the place gives the left operand's side
  mark_is : get_or marks at false ≡ edge_shows sheet (Some o) (enclosed_in sheet here.left)
  mark_is = h.marked.mark at h.to o here.left here.right_one (omega arith) (omega (arith, in_order)) (subst (λ t. TreeAt (operators_of sheet) bytes at t h.to) here.tree_is h.stands)

  pub left_falls : {t : ℕ} → due from above ≡ t → due (at + 1) (Some o) < t
  left_falls e = let d = inside lead in omega (arith, lead.forward)

  pub left_stands : {given : Side} → given ≡ left_side (get_or marks at false) → StandsWithRoom sheet bytes marks (at + 1) (Some o) given row
  left_stands given_is =
      let on_left = ap is_right given_is ∙ mark_left (get_or marks at false) in
      record {
        tree = here.left;
        to = here.mid;
        stands = here.left_at;
        within = omega (arith, in_order, h.within);
        marked = marked_within h.marked (at + 1) here.mid (omega arith) (omega (arith, in_order));
        sided = given_is ∙ ap left_side mark_is ∙ sym (ap (λ right. side_of sheet (Some o) right here.left) on_left);
        room = omega (arith, h.room, here.long, ap (λ right. length (row_under sheet (Some o) right here.left)) on_left);
      }

  module _ {middle : List ℕ} {mid : ℕ} (g : Lefts sheet bytes at o row middle mid) where
    seam : (mid ≡ here.mid) × (length middle ≡ length row + length (row_under sheet (Some o) false here.left))
    seam =
        let (a, c) = g.wrote_left here.left here.mid here.left_at in
        (a, ap length c ∙ length-append row (row_under sheet (Some o) false here.left))

    pub seam_room : length middle < most_tokens
    seam_room = omega (arith, h.room, here.long, seam.1)

    pub right_falls : {t : ℕ} → most_record_bytes - at ≡ t → most_record_bytes - mid < t
    right_falls e = let d = inside lead in omega (arith, seam.0, in_order)

    pub an_infix : {next : List ℕ} → next ≡ middle ++ o ∷ [] → Leads sheet bytes marks from above side before mid (Some o) Right next
    an_infix put =
        record {
          forward = let d = inside lead in omega (arith, lead.forward, seam.0, in_order);
          here = record {
            tree = here.right_one;
            to = h.to;
            stands = rw (sym seam.0) at here.right_at;
            within = h.within;
            marked = marked_within h.marked mid h.to (omega (arith, seam.0, in_order)) (omega arith);
            sided = refl;
            room = omega (arith, h.room, here.long, seam.1, ap length put, one_more middle o);
          };
          on = λ q. lead.on (record {
            wrote = λ t to k.
                let n = operands t k in
                let (a, c) = g.wrote_left n.left n.mid n.left_at in
                let (e, f) = q.wrote n.right_one to (rw (sym a) at n.right_at) in
                let v = row_under sheet (Some o) false n.left in
                let w = row_under sheet (Some o) true n.right_one in (
                  e,
                  f ∙ ap (λ d. d ++ w) put ∙ append_assoc middle (o ∷ []) w ∙ ap (λ d. d ++ o ∷ w) c ∙ append_assoc row v (o ∷ w) ∙ ap (λ d. row ++ d) (sym n.row_is),
                );
          });
        }

pub ruleset infix_ways = (left_leaf, left_walked, left_here, leaf_first, left_falls, left_stands, seam_room, right_falls, an_infix)

pub ruleset ways = (bracket_ways, node_ways, infix_ways, rules)
