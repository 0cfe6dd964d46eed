-- What the ways through `shows` give, and those through `write_operand` that open a bracket. Assumes nothing.
use Prim.Native.Nat.{ℕ, ◌+◌, ◌-◌, ◌*◌, ◌≤◌, ◌<◌}
use native.Mathlib.Omega.{arith}
use mathlib.Core.Path.{◌≡◌, refl, ap, sym, ◌∙◌}
use mathlib.Core.Bool.{Bool, true, false, false≢true}
use mathlib.Core.List.{List, [], ◌∷◌, ◌++◌, append_assoc}
use lib.ListN.{length, length-append}
use borrow.Author.Rules.{rules}
use mir.Syntax.{w64}
use mir.Val.{Fits}
use Rattle.expression.specs.Limits.{most_tokens, most_record_bytes}
use Rattle.expression.specs.Token.{opening, closing}
use Rattle.expression.specs.Tree.{Tree}
use Rattle.disambiguation.specs.Edges.{prefixes}
use Rattle.sheet.specs.Layout.{operators_of}
use Rattle.record.specs.Node.{node_at}
use Rattle.record.specs.TreeAt.{TreeAt}
use Rattle.record.specs.Counts.{sees_edge}
use Rattle.record.specs.declared.Node.{Node}
use Rattle.record.specs.declared.Node.TheVariants as node
use Rattle.record.proofs.Trees.{an_operator}
use Rattle.record.proofs.Standing.{onward}
use Rattle.brackets.specs.Shortest.{enclosed_in}
use Rattle.brackets.specs.Edges.{closes_under, edge_shows, Marked, Stands}
use Rattle.brackets.specs.Walk.{is_right, shows, shown, row_under, side_of, StandsWithRoom, Shortens}
use Rattle.brackets.specs.declared.walk.Side.{Side}
use Rattle.brackets.specs.declared.walk.Side.TheVariants.{Left, Shown, Right}
use Rattle.brackets.proofs.OneTree.{one_tree_lem}
use Rattle.brackets.proofs.RightEdges.{none_sees}
use Rattle.brackets.proofs.OperandRows.{wrapped_row, top_shown, edge_is, edge_shown}
use Rattle.std.specs.Prelude.{Option, None, Some}

pub one_more : (xs : List ℕ) (x : ℕ) → length (xs ++ x ∷ []) ≡ length xs + 1
one_more xs x = length-append xs (x ∷ [])

wrapped_length : (row : List ℕ) → length (opening ∷ row ++ (closing ∷ [])) ≡ length row + 2
wrapped_length row = omega (arith, length-append row (closing ∷ []))

-- ---- shows
module _ (sheet : List ℕ) (above : Option ℕ) {side : Side} (o : ℕ) where
  pub on_right : {b : Bool} → side ≡ Right → b ≡ closes_under sheet above o → b ≡ shows sheet above (is_right side) o
  on_right r e = rw r e

  pub on_left : {b : Bool} → (side ≡ Right → ⊥) → b ≡ sees_edge sheet above o → b ≡ shows sheet above (is_right side) o
  on_left r e = go side r e
    where
      go : (s : Side) → (s ≡ Right → ⊥) → {b : Bool} → b ≡ sees_edge sheet above o → b ≡ shows sheet above (is_right s) o
      go Left r e = e
      go Shown r e = e
      go Right r e = absurd (r refl)

pub ruleset shows_ways = (on_right, on_left, rules)

-- one more where there is an operator above
abbrev pub under : Option ℕ → ℕ
under None = 0
under (Some o) = 1

-- only an operator above shows a conflict
top_under : (sheet : List ℕ) (above : Option ℕ) (right : Bool) (o : ℕ) → shows sheet above right o ≡ true → under above ≡ 1
top_under sheet None true o e = absurd (false≢true e)
top_under sheet None false o e = absurd (false≢true e)
top_under sheet (Some a) right o e = refl

edge_under : (sheet : List ℕ) (above : Option ℕ) (t : Tree) → edge_shows sheet above t ≡ true → under above ≡ 1
edge_under sheet None t e = absurd (false≢true (sym (none_sees sheet (prefixes t)) ∙ e))
edge_under sheet (Some a) t e = refl

-- the marks of a part
pub marked_within : {sheet bytes : List ℕ} {marks : List Bool} {from to : ℕ} → Marked sheet bytes marks from to → (low high : ℕ) → from ≤ low → high ≤ to → Marked sheet bytes marks low high
marked_within m low high a b = record { mark = λ at end o l r c d k. m.mark at end o l r (omega arith) (omega arith) k }

-- ---- write_operand
-- what falls: the bytes from the place on, and at one place from an operator above to none
abbrev pub due : ℕ → Option ℕ → ℕ
due from above = 2 * (most_record_bytes - from) + under above

-- what stands at the place shows a conflict with the operator above
pub record Opens (sheet bytes : List ℕ) (from : ℕ) (above : Option ℕ) (side : Side) : Type 0 where
  pub under_it : under above ≡ 1
  pub shows_it : (t : Tree) (to : ℕ) → TreeAt (operators_of sheet) bytes from t to → shown sheet above (is_right side) (enclosed_in sheet t) ≡ true

-- What is written from the later place on is what is written from the earlier one.
pub record Leads (sheet bytes : List ℕ) (marks : List Bool) (from : ℕ) (above : Option ℕ) (side : Side) (before : List ℕ) (at : ℕ) (above_it : Option ℕ) (side_it : Side) (row : List ℕ) : Type 0 where
  pub forward : due at above_it ≤ due from above
  pub here : StandsWithRoom sheet bytes marks at above_it side_it row
  pub on : {after : List ℕ} {end : ℕ} → Shortens sheet bytes at above_it side_it row after end → Shortens sheet bytes from above side before after end

pub starts : {sheet bytes : List ℕ} {marks : List Bool} {from : ℕ} {above : Option ℕ} {side : Side} {before : List ℕ} → StandsWithRoom sheet bytes marks from above side before
    → Leads sheet bytes marks from above side before from above side before
starts h = record { forward = omega arith; here = h; on = λ g. g }

module _ {sheet bytes : List ℕ} {marks : List Bool} {from : ℕ} {above : Option ℕ} {side : Side} {before : List ℕ} {at : ℕ} {above_it : Option ℕ} {side_it : Side} {row : List ℕ}
    (lead : Leads sheet bytes marks from above side before at above_it side_it row) where
  abbrev h : StandsWithRoom sheet bytes marks at above_it side_it row
  h = lead.here

  -- the place is within a record
  pub inside : at < most_record_bytes
  inside = omega (arith, onward (operators_of sheet) bytes at h.tree h.stands, h.within)

  pub next_fits : Fits w64 (at + 1)
  next_fits = let d = inside in omega arith

  pub past_fits : Fits w64 (at + 2)
  past_fits = let d = inside in omega arith

  pub stands_here : Stands sheet bytes at
  stands_here = record { tree = h.tree; to = h.to; stands = h.stands; within = h.within }

  -- any tree there is of the side
  pub sided_as : (t : Tree) (to : ℕ) → TreeAt (operators_of sheet) bytes at t to → side_it ≡ side_of sheet above_it (is_right side_it) t
  sided_as t to k = h.sided ∙ ap (side_of sheet above_it (is_right side_it)) (one_tree_lem (operators_of sheet) bytes at h.tree t h.to to h.stands k).0

  -- ---- brackets: it shows a conflict by its edge
  pub by_edge : side_it ≡ Shown → Opens sheet bytes at above_it side_it
  by_edge e =
      record {
        under_it = edge_under sheet above_it (enclosed_in sheet h.tree) (edge_is sheet above_it side_it h.tree h.sided e);
        shows_it = λ t to k. edge_shown sheet above_it side_it t (sided_as t to k) e;
      }

  -- or by the operator on top
  pub by_top : {x : Node} {o : ℕ} {b : Bool} → Some x ≡ node_at (operators_of sheet) bytes at → x ≡ node.Operator o → b ≡ shows sheet above_it (is_right side_it) o → b ≡ true → Opens sheet bytes at above_it side_it
  by_top {x} {o} found is tested yes-shown =
      record {
        under_it = top_under sheet above_it (is_right side_it) o (sym tested ∙ yes-shown);
        shows_it = λ t to k.
            let (l, r, mid, e, y, z) = an_operator (operators_of sheet) bytes at found is t k in
            rw e (top_shown sheet above_it (is_right side_it) o l r (sym tested ∙ yes-shown));
      }

  module _ (opens : Opens sheet bytes at above_it side_it) where
    row_of : (t : Tree) {to : ℕ} → TreeAt (operators_of sheet) bytes at t to → row_under sheet above_it (is_right side_it) t ≡ opening ∷ row_under sheet None true t ++ (closing ∷ [])
    row_of t {to} k = wrapped_row sheet above_it (is_right side_it) t (opens.shows_it t to k)

    long : length (row_under sheet above_it (is_right side_it) h.tree) ≡ length (row_under sheet None true h.tree) + 2
    long = ap length (row_of h.tree h.stands) ∙ wrapped_length (row_under sheet None true h.tree)

    pub open_room : length row < most_tokens
    open_room = omega (arith, h.room, long)

    pub wrapped_falls : {t : ℕ} → due from above ≡ t → due at None < t
    wrapped_falls e = omega (arith, opens.under_it, lead.forward)

    module _ {next : List ℕ} (opened : next ≡ row ++ opening ∷ []) where
      pub wrapped_stands : StandsWithRoom sheet bytes marks at None Right next
      wrapped_stands =
          record {
            tree = h.tree;
            to = h.to;
            stands = h.stands;
            within = h.within;
            marked = h.marked;
            sided = refl;
            room = omega (arith, h.room, long, ap length opened, one_more row opening);
          }

      module _ {after : List ℕ} {end : ℕ} (g : Shortens sheet bytes at None Right next after end) where
        pub close_room : length after < most_tokens
        close_room =
            omega (arith, h.room, long, ap length opened, one_more row opening, ap length (g.wrote h.tree h.to h.stands).1, length-append next (row_under sheet None true h.tree))

        pub wrapped : {last : List ℕ} → last ≡ after ++ closing ∷ [] → Shortens sheet bytes from above side before last end
        wrapped closed =
            lead.on (record {
              wrote = λ t to k.
                  let (a, s) = g.wrote t to k in
                  let v = row_under sheet None true t in (
                    a,
                    closed ∙ ap (λ d. d ++ (closing ∷ [])) (s ∙ ap (λ d. d ++ v) opened) ∙ ap (λ d. d ++ (closing ∷ [])) (append_assoc row (opening ∷ []) v)
                        ∙ append_assoc row (opening ∷ v) (closing ∷ []) ∙ ap (λ d. row ++ d) (sym (row_of t k)),
                  );
            })

pub ruleset bracket_ways = (starts, inside, next_fits, past_fits, stands_here, by_edge, by_top, open_room, wrapped_falls, wrapped_stands, close_room, wrapped)
