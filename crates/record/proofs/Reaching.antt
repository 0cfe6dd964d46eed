-- What each step of `end_at` gives. Assumes nothing.
use Prim.Native.Nat.{ℕ, ◌+◌, ◌-◌, ◌≤◌}
use native.Mathlib.Omega.{arith}
use Rattle.std.specs.Prelude.{Option, Some, None}
use mathlib.Core.Path.{◌≡◌, refl, ap, sym}
use mathlib.Core.List.{List}
use borrow.Author.Rules.{rules}
use Rattle.expression.specs.Token.{Operators}
use Rattle.expression.specs.Tree.{Tree, reading, bracket, binary, prefix}
use Rattle.record.specs.Front.{front}
use Rattle.record.specs.Node.{node_at}
use Rattle.record.specs.TreeAt.{TreeAt}
use Rattle.record.specs.Reach.{Reaches}
use Rattle.record.specs.declared.Node.{Node}
use Rattle.record.specs.declared.Node.TheVariants as node
use Rattle.record.proofs.Trees.{a_reading, a_bracket, a_prefix, no_tree_lem}
use Rattle.record.proofs.Standing.{leaf_at, bracket_at, prefix_at_lem, onward, operands_in, joined_in}

-- no end is given where no tree stands
none_here : {ops : Operators} {bytes : List ℕ} {from : ℕ} → ((t : Tree) (to : ℕ) → TreeAt ops bytes from t to → ⊥) → Reaches ops bytes from None
none_here never = record { reached = λ t to k. absurd (never t to k); found = λ to e. cc }

-- The end that is reached from the later place is that from the earlier one.
pub record Leads (ops : Operators) (bytes : List ℕ) (from at : ℕ) : Type 0 where
  pub forward : from ≤ at
  pub on : (r : Option ℕ) → Reaches ops bytes at r → Reaches ops bytes from r

pub starts : (ops : Operators) (bytes : List ℕ) (from : ℕ) → Leads ops bytes from from
starts ops bytes from = record { forward = omega arith; on = λ r h. h }

module _ {ops : Operators} {bytes : List ℕ} {from at : ℕ} (lead : Leads ops bytes from at) where
  pub no_node : None ≡ node_at ops bytes at → Reaches ops bytes from None
  no_node e = lead.on None (none_here (λ t to k. no_tree_lem ops bytes at e t k))

  module _ {x : Node} (found : Some x ≡ node_at ops bytes at) where
    pub a_leaf : {a : ℕ} → x ≡ node.Reading a → Reaches ops bytes from (Some (at + 1))
    a_leaf {a} is =
        lead.on (Some (at + 1)) (record {
          reached = λ t to h. ap Some (sym (a_reading ops bytes at found is t h).1);
          found = λ to e. let z : at + 1 ≡ to = cc in (reading a, rw z at (leaf_at ops bytes at found is));
        })

    pub a_bracketed : x ≡ node.Bracket → Leads ops bytes from (at + 1)
    a_bracketed is =
        record {
          forward = omega (arith, lead.forward);
          on = λ r h. lead.on r (record {
            reached = λ t to k. let u = a_bracket ops bytes at found is t k in h.reached u.0 to u.2;
            found = λ to e. let (u, y) = h.found to e in (bracket u, bracket_at ops bytes at found is u y);
          });
        }

    pub a_prefixed : {p : ℕ} → x ≡ node.Prefix p → Leads ops bytes from (at + 1)
    a_prefixed {p} is =
        record {
          forward = omega (arith, lead.forward);
          on = λ r h. lead.on r (record {
            reached = λ t to k. let u = a_prefix ops bytes at found is t k in h.reached u.0 to u.2;
            found = λ to e. let (u, y) = h.found to e in (prefix p u, prefix_at_lem ops bytes at found is u y);
          });
        }

-- a left operand that is a reading, two places on: no call is made for it
pub left_leaf : {ops : Operators} {bytes : List ℕ} (at : ℕ) {a : ℕ} {y : Node} → Some y ≡ node_at ops bytes (at + 1) → y ≡ node.Reading a → Reaches ops bytes (at + 1) (Some (at + 2))
left_leaf {ops} {bytes} at next leaf = let two : at + 1 + 1 ≡ at + 2 = omega arith in rw two at (a_leaf (starts ops bytes (at + 1)) next leaf)

-- The left operand is read within a byte less.
module _ (ops : Operators) (size : ℕ) (whole : List ℕ) {from at : ℕ} (lead : Leads ops (front size whole) from at) {x : Node} (found : Some x ≡ node_at ops (front size whole) at) {o : ℕ}
    (is : x ≡ node.Operator o) where
  pub left_refused : Reaches ops (front (size - 1) whole) (at + 1) None → Reaches ops (front size whole) from None
  left_refused h =
      lead.on None (none_here (λ t to k. let u = operands_in ops size whole at found is t k in let z : None ≡ Some u.2 = h.reached u.0 u.2 u.4 in cc))

  pub an_infix : {mid : ℕ} → Reaches ops (front (size - 1) whole) (at + 1) (Some mid) → Leads ops (front size whole) from mid
  an_infix {mid} h =
      record {
        forward = let (u, a) = h.found mid refl in omega (arith, lead.forward, onward ops (front (size - 1) whole) (at + 1) u a);
        on = λ r g. lead.on r (record {
          reached = λ t to k.
              let u = operands_in ops size whole at found is t k in
              let z : Some mid ≡ Some u.2 = h.reached u.0 u.2 u.4 in
              let e : u.2 ≡ mid = cc in
              g.reached u.1 to (rw e at u.5);
          found = λ to e.
              let (u, a) = h.found mid refl in
              let (v, b) = g.found to e in
              (binary o u v, joined_in ops size whole at found is u v a b);
        });
      }

pub ruleset end_at_ways = (starts, no_node, a_leaf, a_bracketed, a_prefixed, left_leaf, left_refused, an_infix, rules)
