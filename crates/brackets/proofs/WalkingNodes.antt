-- What the ways through `write_operand` give for a reading, a bracket and a prefix operator. Assumes nothing.
use Prim.Native.Nat.{ℕ, ◌+◌, ◌<◌}
use native.Mathlib.Omega.{arith}
use mathlib.Core.Path.{◌≡◌, refl, ap, sym, ◌∙◌}
use mathlib.Core.Bool.{Bool, true}
use mathlib.Core.List.{List, [], ◌∷◌, ◌++◌, append_assoc}
use lib.ListN.{length}
use Rattle.expression.specs.Limits.{most_tokens}
use Rattle.expression.specs.Tree.{Tree}
use Rattle.sheet.specs.Layout.{operators_of}
use Rattle.record.specs.Node.{node_at}
use Rattle.record.specs.TreeAt.{TreeAt}
use Rattle.record.specs.declared.Node.{Node}
use Rattle.record.specs.declared.Node.TheVariants as node
use Rattle.record.proofs.Trees.{a_reading, a_bracket, a_prefix}
use Rattle.brackets.specs.Walk.{is_right, row_under, side_of, StandsWithRoom, Shortens}
use Rattle.brackets.specs.declared.walk.Side.{Side}
use Rattle.brackets.specs.declared.walk.Side.TheVariants.{Shown, Right}
use Rattle.brackets.proofs.OperandRows.{leaf_row, prefix_row}
use Rattle.brackets.proofs.Walking.{Leads, one_more, marked_within, inside, sided_as}
use Rattle.std.specs.Prelude.{Option, Some}

module _ {sheet bytes : List ℕ} {marks : List Bool} {from : ℕ} {above : Option ℕ} {side : Side} {before : List ℕ} {at : ℕ} {above_it : Option ℕ} {side_it : Side} {row : List ℕ}
    (lead : Leads sheet bytes marks from above side before at above_it side_it row) {x : Node} (found : Some x ≡ node_at (operators_of sheet) bytes at) where
  abbrev h : StandsWithRoom sheet bytes marks at above_it side_it row
  h = lead.here

  -- a reading
  pub leaf_room : {a : ℕ} → x ≡ node.Reading a → length row < most_tokens
  leaf_room {a} is =
      let (e, _) = a_reading (operators_of sheet) bytes at found is h.tree h.stands in
      omega (arith, h.room, ap (λ t. length (row_under sheet above_it (is_right side_it) t)) e, ap length (leaf_row sheet above_it (is_right side_it) a))

  pub a_leaf : {a : ℕ} {next : List ℕ} → x ≡ node.Reading a → next ≡ row ++ a ∷ [] → Shortens sheet bytes from above side before next (at + 1)
  a_leaf {a} is put =
      lead.on (record {
        wrote = λ t to k.
            let (e, f) = a_reading (operators_of sheet) bytes at found is t k in
            let row_is : row_under sheet above_it (is_right side_it) t ≡ a ∷ [] = ap (row_under sheet above_it (is_right side_it)) e ∙ leaf_row sheet above_it (is_right side_it) a in
            (sym f, put ∙ ap (λ v. row ++ v) (sym row_is));
      })

  -- a bracket
  pub a_bracketed : x ≡ node.Bracket → Leads sheet bytes marks from above side before (at + 1) above_it side_it row
  a_bracketed is =
      let (u, e, y) = a_bracket (operators_of sheet) bytes at found is h.tree h.stands in
      record {
        forward = let d = inside lead in omega (arith, lead.forward);
        here = record {
          tree = u;
          to = h.to;
          stands = y;
          within = h.within;
          marked = marked_within h.marked (at + 1) h.to (omega arith) (omega arith);
          sided = h.sided ∙ ap (side_of sheet above_it (is_right side_it)) e;
          room = rw e at h.room;
        };
        on = λ g. lead.on (record {
          wrote = λ t to k.
              let (u, e, y) = a_bracket (operators_of sheet) bytes at found is t k in
              rw e (g.wrote u to y);
        });
      }

  -- a prefix operator
  module _ (unshown : side_it ≡ Shown → ⊥) {p : ℕ} (is : x ≡ node.Prefix p) where
    prefixed_row : (t : Tree) (to : ℕ) → TreeAt (operators_of sheet) bytes at t to
        → (u : Tree) × TreeAt (operators_of sheet) bytes (at + 1) u to × (row_under sheet above_it (is_right side_it) t ≡ p ∷ row_under sheet (Some p) true u)
    prefixed_row t to k =
        let (u, e, y) = a_prefix (operators_of sheet) bytes at found is t k in
        (u, y, ap (row_under sheet above_it (is_right side_it)) e ∙ prefix_row sheet above_it side_it unshown p u (sided_as lead t to k ∙ ap (side_of sheet above_it (is_right side_it)) e))

    pub prefix_room : length row < most_tokens
    prefix_room = let (u, y, row_is) = prefixed_row h.tree h.to h.stands in omega (arith, h.room, ap length row_is)

    pub a_prefixed : {next : List ℕ} → next ≡ row ++ p ∷ [] → Leads sheet bytes marks from above side before (at + 1) (Some p) Right next
    a_prefixed put =
        let (u, y, row_is) = prefixed_row h.tree h.to h.stands in
        record {
          forward = let d = inside lead in omega (arith, lead.forward);
          here = record {
            tree = u;
            to = h.to;
            stands = y;
            within = h.within;
            marked = marked_within h.marked (at + 1) h.to (omega arith) (omega arith);
            sided = refl;
            room = omega (arith, h.room, ap length row_is, ap length put, one_more row p);
          };
          on = λ g. lead.on (record {
            wrote = λ t to k.
                let (u, y, row_is) = prefixed_row t to k in
                let (a, c) = g.wrote u to y in
                let v = row_under sheet (Some p) true u in
                (a, c ∙ ap (λ d. d ++ v) put ∙ append_assoc row (p ∷ []) v ∙ ap (λ d. row ++ d) (sym row_is));
          });
        }

pub ruleset node_ways = (leaf_room, a_leaf, a_bracketed, prefix_room, a_prefixed)
