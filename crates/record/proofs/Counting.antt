-- What each step of `count_at` gives. Assumes nothing.
use Prim.Native.Nat.{ℕ, ◌+◌, ◌-◌, ◌≤◌}
use native.Mathlib.Omega.{arith}
use Rattle.std.specs.Prelude.{Option, Some, None}
use mathlib.Core.Path.{◌≡◌, refl, ap, sym, ◌∙◌}
use mathlib.Core.Bool.{Bool}
use mathlib.Core.List.{List, [], ◌∷◌}
use borrow.Author.Rules.{rules}
use mir.Val.{bool_byte}
use Rattle.expression.specs.Lists.{one_if, how_many}
use Rattle.expression.specs.Tree.{Tree, reading, bracket, binary, prefix}
use Rattle.expression.proofs.Lengths.{count_append}
use Rattle.disambiguation.specs.Edges.{prefixes, on_top}
use Rattle.sheet.specs.Layout.{operators_of}
use Rattle.record.specs.Front.{front}
use Rattle.record.specs.Node.{node_at}
use Rattle.record.specs.TreeAt.{TreeAt}
use Rattle.record.specs.Counts.{excluded_left, conflicts_in, sees_edge, shows_top, shown, Counts}
use Rattle.record.specs.declared.Node.{Node}
use Rattle.record.specs.declared.Node.TheVariants as node
use Rattle.record.proofs.Checking.{one_counted}
use Rattle.record.proofs.Trees.{a_reading, a_bracket, a_prefix, no_tree_lem}
use Rattle.record.proofs.Standing.{leaf_at, bracket_at, prefix_at_lem, onward, operands_in, joined_in}

-- ---- what is shown
module _ (sheet : List ℕ) where
  -- where there is no operator, none sees a thing
  pub unseen_edge : (xs : List ℕ) → how_many (sees_edge sheet None) xs ≡ 0
  unseen_edge [] = refl
  unseen_edge (x ∷ xs) = omega (arith, unseen_edge xs)

  unseen_top : (xs : List ℕ) → how_many (shows_top sheet None None) xs ≡ 0
  unseen_top [] = refl
  unseen_top (x ∷ xs) = omega (arith, unseen_top xs)

  pub alone : (t : Tree) → shown sheet None None t ≡ conflicts_in sheet t
  alone t = omega (arith, unseen_top (on_top t), unseen_edge (prefixes t))

  prefix_shows : (above seer : Option ℕ) (p : ℕ) (t : Tree) → shown sheet above seer (prefix p t) ≡ one_if (sees_edge sheet seer p) + shown sheet (Some p) seer t
  prefix_shows above seer p t = omega arith

  infix_shows : (above seer : Option ℕ) (o : ℕ) (l r : Tree)
      → shown sheet above seer (binary o l r) ≡ one_if (shows_top sheet above seer o) + (shown sheet None (Some o) l + shown sheet (Some o) seer r)
  infix_shows above seer o l r = omega (arith, count_append (excluded_left sheet o) (on_top l) (prefixes l))

-- nothing is counted where no tree stands
none_here : (sheet : List ℕ) {bytes : List ℕ} {from : ℕ} (above seer : Option ℕ) (before after : ℕ) → ((t : Tree) (to : ℕ) → TreeAt (operators_of sheet) bytes from t to → ⊥)
    → Counts sheet bytes from above seer before None after
none_here sheet above seer before after never = record { counted = λ t to k. absurd (never t to k); found = λ to e. cc }

-- What is counted from the later place on is what is counted from the earlier one.
pub record Leads (sheet bytes : List ℕ) (from : ℕ) (above seer : Option ℕ) (before at : ℕ) (above_it sees_it : Option ℕ) (count : ℕ) : Type 0 where
  pub forward : from ≤ at
  pub few : count ≤ at
  pub on : (r : Option ℕ) (after : ℕ) → Counts sheet bytes at above_it sees_it count r after → Counts sheet bytes from above seer before r after

pub starts : (sheet bytes : List ℕ) (from : ℕ) (above seer : Option ℕ) (before : ℕ) → before ≤ from → Leads sheet bytes from above seer before from above seer before
starts sheet bytes from above seer before h = record { forward = omega arith; few = h; on = λ r after k. k }

module _ (sheet : List ℕ) {bytes : List ℕ} {from : ℕ} {above seer : Option ℕ} {before at : ℕ} {above_it sees_it : Option ℕ} {count : ℕ}
    (lead : Leads sheet bytes from above seer before at above_it sees_it count) where
  pub no_node : None ≡ node_at (operators_of sheet) bytes at → Counts sheet bytes from above seer before None count
  no_node e = lead.on None count (none_here sheet above_it sees_it count count (λ t to k. no_tree_lem (operators_of sheet) bytes at e t k))

  module _ {x : Node} (found : Some x ≡ node_at (operators_of sheet) bytes at) where
    pub a_leaf : {a : ℕ} → x ≡ node.Reading a → Counts sheet bytes from above seer before (Some (at + 1)) count
    a_leaf {a} is =
        lead.on (Some (at + 1)) count (record {
          counted = λ t to h.
              let u = a_reading (operators_of sheet) bytes at found is t h in
              (ap Some (sym u.1), omega (arith, ap (shown sheet above_it sees_it) u.0));
          found = λ to e. let z : at + 1 ≡ to = cc in (reading a, rw z at (leaf_at (operators_of sheet) bytes at found is));
        })

    pub a_bracketed : x ≡ node.Bracket → Leads sheet bytes from above seer before (at + 1) None None count
    a_bracketed is =
        record {
          forward = omega (arith, lead.forward);
          few = omega (arith, lead.few);
          on = λ r after h. lead.on r after (record {
            counted = λ t to k.
                let u = a_bracket (operators_of sheet) bytes at found is t k in
                let a = h.counted u.0 to u.2 in
                (a.0, omega (arith, a.1, alone sheet u.0, ap (shown sheet above_it sees_it) u.1));
            found = λ to e. let (u, y) = h.found to e in (bracket u, bracket_at (operators_of sheet) bytes at found is u y);
          });
        }

    pub a_prefixed : {p seen : ℕ} {b : Bool} → x ≡ node.Prefix p → seen ≡ bool_byte b → b ≡ sees_edge sheet sees_it p
        → Leads sheet bytes from above seer before (at + 1) (Some p) sees_it (count + seen)
    a_prefixed {p} {b = b} is counted tested =
        let seen_is = counted ∙ (one_counted b).0 ∙ ap one_if tested in
        let low = (one_counted b).1 in
        record {
          forward = omega (arith, lead.forward);
          few = omega (arith, lead.few, counted, low);
          on = λ r after h. lead.on r after (record {
            counted = λ t to k.
                let u = a_prefix (operators_of sheet) bytes at found is t k in
                let a = h.counted u.0 to u.2 in
                (a.0, omega (arith, a.1, seen_is, ap (shown sheet above_it sees_it) u.1));
            found = λ to e. let (u, y) = h.found to e in (prefix p u, prefix_at_lem (operators_of sheet) bytes at found is u y);
          });
        }

-- a left operand that is a reading, two places on: no call is made for it
left_leaf : (sheet : List ℕ) {bytes : List ℕ} (at : ℕ) (above seer : Option ℕ) (count : ℕ) {a : ℕ} {y : Node} → Some y ≡ node_at (operators_of sheet) bytes (at + 1)
    → y ≡ node.Reading a → count ≤ at + 1 → Counts sheet bytes (at + 1) above seer count (Some (at + 2)) count
left_leaf sheet {bytes} at above seer count next leaf few =
    let two : at + 1 + 1 ≡ at + 2 = omega arith in
    rw two at (a_leaf sheet (starts sheet bytes (at + 1) above seer count few) next leaf)

-- The left operand is counted within a byte less.
module _ (sheet : List ℕ) (size : ℕ) (whole : List ℕ) {from : ℕ} {above seer : Option ℕ} {before at : ℕ} {above_it sees_it : Option ℕ} {count : ℕ}
    (lead : Leads sheet (front size whole) from above seer before at above_it sees_it count) {x : Node} (found : Some x ≡ node_at (operators_of sheet) (front size whole) at) {o : ℕ}
    (is : x ≡ node.Operator o) where
  pub left_refused : {after begun : ℕ} → Counts sheet (front (size - 1) whole) (at + 1) None (Some o) begun None after
      → Counts sheet (front size whole) from above seer before None after
  left_refused {after} h =
      lead.on None after (none_here sheet above_it sees_it count after (λ t to k.
      let u = operands_in (operators_of sheet) size whole at found is t k in
      let z : None ≡ Some u.2 = (h.counted u.0 u.2 u.4).0 in
      cc))

  pub an_infix : {shows mid counted : ℕ} {b : Bool} → shows ≡ bool_byte b → b ≡ shows_top sheet above_it sees_it o → Counts sheet (front (size - 1) whole) (at + 1) None (Some o) (count + shows) (Some mid) counted
      → counted ≤ mid → Leads sheet (front size whole) from above seer before mid (Some o) sees_it counted
  an_infix {mid = mid} {counted} {b} added tested h low =
      let shows_is = added ∙ (one_counted b).0 ∙ ap one_if tested in
      record {
        forward = let (u, a) = h.found mid refl in omega (arith, lead.forward, onward (operators_of sheet) (front (size - 1) whole) (at + 1) u a);
        few = low;
        on = λ r after g. lead.on r after (record {
          counted = λ t to k.
              let u = operands_in (operators_of sheet) size whole at found is t k in
              let a = h.counted u.0 u.2 u.4 in
              let z : Some mid ≡ Some u.2 = a.0 in
              let e : u.2 ≡ mid = cc in
              let b = g.counted u.1 to (rw e at u.5) in
              (b.0, omega (arith, b.1, a.1, shows_is, infix_shows sheet above_it sees_it o u.0 u.1, ap (shown sheet above_it sees_it) u.3));
          found = λ to e.
              let (u, a) = h.found mid refl in
              let (v, b) = g.found to e in
              (binary o u v, joined_in (operators_of sheet) size whole at found is u v a b);
        });
      }

  pub a_leaf_infix : {shows a : ℕ} {b : Bool} {y : Node} → shows ≡ bool_byte b → b ≡ shows_top sheet above_it sees_it o → Some y ≡ node_at (operators_of sheet) (front (size - 1) whole) (at + 1)
      → y ≡ node.Reading a → Leads sheet (front size whole) from above seer before (at + 2) (Some o) sees_it (count + shows)
  a_leaf_infix {shows} {b = b} added tested next leaf =
      let few : count + shows ≤ at + 1 = omega (arith, lead.few, added, (one_counted b).1) in
      an_infix added tested (left_leaf sheet at None (Some o) (count + shows) next leaf few) (omega arith)

pub ruleset count_at_ways = (starts, no_node, a_leaf, a_bracketed, a_prefixed, a_leaf_infix, left_refused, an_infix, rules)
