-- What each way through `mark_edges` gives where no infix operator stands. Assumes nothing.
use Prim.Native.Nat.{ℕ, ◌+◌, ◌-◌, ◌≤◌, ◌<◌}
use native.Mathlib.Decide.{dec_lt}
use native.Mathlib.Omega.{arith}
use mathlib.Core.Path.{◌≡◌, refl, ap, sym, ◌∙◌}
use mathlib.Core.Bool.{Bool, true, false, ◌||◌, or-false}
use mathlib.Core.List.{List}
use lib.ListN.{length, get_or}
use borrow.Author.Rules.{rules}
use mir.Syntax.{w64}
use mir.Val.{Fits}
use Rattle.expression.specs.Limits.{most_record_bytes}
use Rattle.expression.specs.Tree.{Tree, binary}
use Rattle.sheet.specs.Layout.{operators_of}
use Rattle.record.specs.Node.{node_at}
use Rattle.record.specs.TreeAt.{TreeAt}
use Rattle.record.specs.Counts.{sees_edge}
use Rattle.record.specs.declared.Node.{Node}
use Rattle.record.specs.declared.Node.TheVariants as node
use Rattle.record.proofs.Trees.{top_node, a_reading, a_bracket, a_prefix, no_tree_lem}
use Rattle.record.proofs.Standing.{onward}
use Rattle.brackets.specs.Shortest.{enclosed_in}
use Rattle.brackets.specs.Edges.{closes_under, edge_shows, as_right, Marked, Stands, seer_past, MarksEdges}
use Rattle.std.specs.Prelude.{Option, Some, None, IsSome}

-- ---- seer_past
module _ (sheet : List ℕ) (above : Option ℕ) (o : ℕ) (seer : Option ℕ) {b : Bool} (tested : b ≡ closes_under sheet above o) where
  pub ends_there : b ≡ true → None ≡ seer_past sheet above o seer
  ends_there e = rw (sym tested ∙ e)

  pub goes_on : b ≡ false → seer ≡ seer_past sheet above o seer
  goes_on e = rw (sym tested ∙ e)

pub ruleset seer_past_ways = (ends_there, goes_on, rules)

-- ---- top_at: some node is there
pub top_here : {sheet bytes : List ℕ} {at : ℕ} {r : Option Node} → Stands sheet bytes at → r ≡ node_at (operators_of sheet) bytes at → IsSome r
top_here {sheet} {bytes} {at} {r} h e = go r e
  where
    go : (r : Option Node) → r ≡ node_at (operators_of sheet) bytes at → IsSome r
    go None e = no_tree_lem (operators_of sheet) bytes at e h.tree h.stands
    go (Some x) e = refl

-- ---- mark_edges
joined : (q shown more : Bool) → ((shown || q) || more) ≡ (shown || (q || more))
joined q true more = refl
joined q false more = refl

-- What the later place gives, the earlier one gives with what was shown between them.
pub record Leads (sheet bytes : List ℕ) (from : ℕ) (above seer : Option ℕ) (before : List Bool) (at : ℕ) (above_it sees_it : Option ℕ) (shown : Bool) (marks : List Bool) : Type 0 where
  pub forward : from ≤ at
  pub stands : Stands sheet bytes at
  pub long : length marks ≡ most_record_bytes
  pub on : {after : List Bool} {end : ℕ} {more : Bool} → MarksEdges sheet bytes at above_it sees_it marks after end more → MarksEdges sheet bytes from above seer before after end (shown || more)

pub starts : (sheet bytes : List ℕ) (from : ℕ) (above seer : Option ℕ) (before : List Bool) → Stands sheet bytes from → length before ≡ most_record_bytes
    → Leads sheet bytes from above seer before from above seer false before
starts sheet bytes from above seer before h all = record { forward = omega arith; stands = h; long = all; on = λ g. g }

-- a tree stands at the place
module _ {sheet bytes : List ℕ} {from : ℕ} {above seer : Option ℕ} {before : List Bool} {at : ℕ} {above_it sees_it : Option ℕ} {shown : Bool} {marks : List Bool}
    (lead : Leads sheet bytes from above seer before at above_it sees_it shown marks) where
  -- the place is within a record
  pub inside : at < most_record_bytes
  inside = omega (arith, onward (operators_of sheet) bytes at lead.stands.tree lead.stands.stands, lead.stands.within)

  pub next_fits : Fits w64 (at + 1)
  next_fits = let d = inside in omega arith

  pub call_falls : {t : ℕ} → most_record_bytes - from ≡ t → most_record_bytes - (at + 1) < t
  call_falls e = let d = inside in omega (arith, lead.forward)

  pub next_falls : {t : ℕ} → most_record_bytes - at ≡ t → most_record_bytes - (at + 1) < t
  next_falls e = let d = inside in omega arith

  -- and the node there is x
  module _ {x : Node} (found : Some x ≡ node_at (operators_of sheet) bytes at) where
    -- where no infix operator stands at the place, the marks behind it are all
    behind : {y : Node} {after : List Bool} {to : ℕ} → x ≡ y → ((o : ℕ) → node.Operator o ≡ y → ⊥) → Marked sheet bytes after (at + 1) to → Marked sheet bytes after at to
    behind {y} {after} {to} is none m =
        record {
          mark = λ i end o l r low high k. go i end o l r low high k (dec_lt at i);
        }
      where
        go : (i end o : ℕ) (l r : Tree) → at ≤ i → i < to → TreeAt (operators_of sheet) bytes i (binary o l r) end → Dec (at < i)
            → get_or after i false ≡ edge_shows sheet (Some o) (enclosed_in sheet l)
        go i end o l r low high k (yes d) = m.mark i end o l r (omega arith) high k
        go i end o l r low high k (no d) =
            let e : i ≡ at = omega arith in
            let z : Some (node.Operator o) ≡ Some x = sym (top_node (operators_of sheet) bytes at (binary o l r) (rw e at k)) ∙ sym found in
            let q : node.Operator o ≡ x = cc in
            absurd (none o (q ∙ is))

    no_marks : {after : List Bool} {to : ℕ} → to ≤ at + 1 → Marked sheet bytes after (at + 1) to
    no_marks short = record { mark = λ i end o l r low high k. absurd (omega arith) }

    pub a_leaf : {a : ℕ} → x ≡ node.Reading a → MarksEdges sheet bytes from above seer before marks (at + 1) shown
    a_leaf {a} is =
        let g : MarksEdges sheet bytes from above seer before marks (at + 1) (shown || false) = lead.on (record {
          found = λ t to k.
              let (e, f) = a_reading (operators_of sheet) bytes at found is t k in
              (sym f, sym (ap (λ u. edge_shows sheet sees_it (as_right sheet above_it u)) e));
          marked = behind is (λ o e. cc) (no_marks (omega arith));
          kept = λ i low. refl;
          long = refl;
        }) in
        rw (or-false shown) at g

    pub a_bracketed : x ≡ node.Bracket → Leads sheet bytes from above seer before (at + 1) above_it sees_it shown marks
    a_bracketed is =
        let (u, e, y) = a_bracket (operators_of sheet) bytes at found is lead.stands.tree lead.stands.stands in
        record {
          forward = omega (arith, lead.forward);
          stands = record { tree = u; to = lead.stands.to; stands = y; within = lead.stands.within };
          long = lead.long;
          on = λ g. lead.on (record {
            found = λ t to k.
                let (u, e, y) = a_bracket (operators_of sheet) bytes at found is t k in
                rw e (g.found u to y);
            marked = behind is (λ o e. cc) g.marked;
            kept = λ i low. g.kept i (omega arith);
            long = g.long;
          });
        }

    pub a_prefixed : {p : ℕ} {q : Bool} → x ≡ node.Prefix p → q ≡ sees_edge sheet sees_it p → Leads sheet bytes from above seer before (at + 1) (Some p) sees_it (shown || q) marks
    a_prefixed {p} {q} is tested =
        let (u, e, y) = a_prefix (operators_of sheet) bytes at found is lead.stands.tree lead.stands.stands in
        record {
          forward = omega (arith, lead.forward);
          stands = record { tree = u; to = lead.stands.to; stands = y; within = lead.stands.within };
          long = lead.long;
          on = λ {after} {end} {more} g.
              let all : MarksEdges sheet bytes from above seer before after end (shown || (q || more)) = lead.on (record {
                found = λ t to k.
                    let (u, e, y) = a_prefix (operators_of sheet) bytes at found is t k in
                    let (a, b) = g.found u to y in (
                      a,
                      ap (λ s. s || more) tested ∙ ap (λ m. sees_edge sheet sees_it p || m) b ∙ sym (ap (λ v. edge_shows sheet sees_it (as_right sheet above_it v)) e),
                    );
                marked = behind is (λ o e. cc) g.marked;
                kept = λ i low. g.kept i (omega arith);
                long = g.long;
              }) in
              rw (joined q shown more) all;
        }

pub ruleset mark_ways = (starts, next_fits, call_falls, next_falls, inside, a_leaf, a_bracketed, a_prefixed, rules)
