-- What the ways through `mark_edges` give for an infix operator: its left operand, its own mark, its right operand. Assumes nothing.
use Prim.Native.Nat.{ℕ, ◌+◌, ◌-◌, ◌≤◌, ◌<◌}
use native.Mathlib.Decide.{dec_lt}
use native.Mathlib.Omega.{arith}
use mathlib.Core.Path.{◌≡◌, ap, sym, ◌∙◌}
use mathlib.Core.Bool.{Bool, false}
use mathlib.Core.List.{List}
use lib.ListN.{get_or, set, length-set}
use lib.Seq.{get_or-set_same, get_or-set_other}
use Rattle.expression.specs.Limits.{most_record_bytes}
use Rattle.expression.specs.Tree.{Tree, binary}
use Rattle.sheet.specs.Layout.{operators_of}
use Rattle.record.specs.Node.{node_at}
use Rattle.record.specs.TreeAt.{TreeAt}
use Rattle.record.specs.declared.Node.{Node}
use Rattle.record.specs.declared.Node.TheVariants as node
use Rattle.record.proofs.Trees.{top_node, an_operator}
use Rattle.record.proofs.Standing.{onward}
use Rattle.brackets.specs.Shortest.{enclosed_in}
use Rattle.brackets.specs.Edges.{edge_shows, as_right, Stands, seer_past, MarksEdges}
use Rattle.brackets.proofs.OneTree.{operands_at}
use Rattle.brackets.proofs.RightEdges.{as_right_plain, edge_past}
use Rattle.brackets.proofs.MarkingEdges.{Leads, inside, mark_ways}
use Rattle.std.specs.Prelude.{Option, None, Some}

module _ {sheet bytes : List ℕ} {from : ℕ} {above seer : Option ℕ} {before : List Bool} {at : ℕ} {above_it sees_it : Option ℕ} {shown : Bool} {marks : List Bool}
    (lead : Leads sheet bytes from above seer before at above_it sees_it shown marks) {x : Node} (found : Some x ≡ node_at (operators_of sheet) bytes at) {o : ℕ} (is : x ≡ node.Operator o) where
  abbrev h : Stands sheet bytes at
  h = lead.stands

  pub left_stands : Stands sheet bytes (at + 1)
  left_stands =
      let (l, r, mid, e, y, z) = an_operator (operators_of sheet) bytes at found is h.tree h.stands in
      record { tree = l; to = mid; stands = y; within = omega (arith, onward (operators_of sheet) bytes mid r z, h.within) }

  module _ {middle : List Bool} {seam : ℕ} {mark : Bool} (g : MarksEdges sheet bytes (at + 1) None (Some o) marks middle seam mark) where
    -- what the left operand shows
    shown_left : (l : Tree) (mid : ℕ) → TreeAt (operators_of sheet) bytes (at + 1) l mid → mark ≡ edge_shows sheet (Some o) (enclosed_in sheet l)
    shown_left l mid y = (g.found l mid y).1 ∙ ap (edge_shows sheet (Some o)) (as_right_plain sheet l)

    seam_is : (at + 1 < seam) × (seam ≤ h.to)
    seam_is =
        let (l, r, mid, e, y, z) = an_operator (operators_of sheet) bytes at found is h.tree h.stands in
        (omega (arith, (g.found l mid y).0, onward (operators_of sheet) bytes (at + 1) l y), omega (arith, (g.found l mid y).0, onward (operators_of sheet) bytes mid r z))

    pub right_falls : {t : ℕ} → most_record_bytes - at ≡ t → most_record_bytes - seam < t
    right_falls e = let d = inside lead in omega (arith, seam_is)

    module _ {next : Option ℕ} (next_is : next ≡ seer_past sheet above_it o sees_it) where
      module _ {last : List Bool} {end : ℕ} {more : Bool} (f : MarksEdges sheet bytes seam (Some o) next (set middle at mark) last end more) where
        edge_is : (t : Tree) (to : ℕ) → TreeAt (operators_of sheet) bytes at t to → (end ≡ to) × (more ≡ edge_shows sheet sees_it (as_right sheet above_it t))
        edge_is t to k =
            let (l, u, mid, e, y, z) = an_operator (operators_of sheet) bytes at found is t k in
            let (a, b) = f.found u to (rw (sym (g.found l mid y).0) at z) in (
              a,
              b ∙ ap (λ s. edge_shows sheet s (as_right sheet (Some o) u)) next_is ∙ edge_past sheet above_it o sees_it l u
                  ∙ ap (λ v. edge_shows sheet sees_it (as_right sheet above_it v)) (sym e),
            )

        -- the mark at the place, and those before the seam, are kept by the second walk
        here_kept : get_or last at false ≡ mark
        here_kept = f.kept at (omega (arith, seam_is)) ∙ get_or-set_same middle at mark false (omega (arith, inside lead, g.long, lead.long))

        left_kept : (i : ℕ) → (i ≡ at → ⊥) → i < seam → get_or last i false ≡ get_or middle i false
        left_kept i other low = f.kept i low ∙ get_or-set_other middle at i mark false other

        marked_is : (i stop c : ℕ) (l u : Tree) → at ≤ i → i < end → TreeAt (operators_of sheet) bytes i (binary c l u) stop → Dec (at < i) → Dec (i < seam)
            → get_or last i false ≡ edge_shows sheet (Some c) (enclosed_in sheet l)
        marked_is i stop c l u low high k (yes d) (yes w) = left_kept i (λ e. omega arith) w ∙ g.marked.mark i stop c l u (omega arith) w k
        marked_is i stop c l u low high k (yes d) (no w) = f.marked.mark i stop c l u (omega arith) high k
        marked_is i stop c l u low high k (no d) w =
            let same : i ≡ at = omega arith in
            let k' : TreeAt (operators_of sheet) bytes at (binary c l u) stop = rw same at k in
            let (mid, y, z) = operands_at (operators_of sheet) bytes at c l u k' in
            let q : Some (node.Operator o) ≡ Some (node.Operator c) = ap Some (sym is) ∙ found ∙ top_node (operators_of sheet) bytes at (binary c l u) k' in
            let p : o ≡ c = cc in
            ap (λ j. get_or last j false) same ∙ here_kept ∙ shown_left l mid y ∙ ap (λ b. edge_shows sheet (Some b) (enclosed_in sheet l)) p

        both : MarksEdges sheet bytes at above_it sees_it marks last end more
        both =
            record {
              found = edge_is;
              marked = record { mark = λ i stop c l u low high k. marked_is i stop c l u low high k (dec_lt at i) (dec_lt i seam) };
              kept = λ i low. left_kept i (λ e. omega arith) (omega (arith, seam_is)) ∙ g.kept i (omega arith);
              long = f.long ∙ length-set middle at mark ∙ g.long;
            }

      pub an_infix : Leads sheet bytes from above seer before seam (Some o) next shown (set middle at mark)
      an_infix =
          let (l, r, mid, e, y, z) = an_operator (operators_of sheet) bytes at found is h.tree h.stands in
          record {
            forward = omega (arith, lead.forward, seam_is);
            stands = record { tree = r; to = h.to; stands = rw (sym (g.found l mid y).0) at z; within = h.within };
            long = length-set middle at mark ∙ g.long ∙ lead.long;
            on = λ f. lead.on (both f);
          }

pub ruleset infix_ways = (left_stands, right_falls, an_infix)

pub ruleset ways = (infix_ways, mark_ways)
