-- Trees at places of a record: what the node at the place says of them. Assumes nothing.
use Prim.Native.Nat.{ℕ, ◌+◌, ◌≤◌, ◌<◌}
use native.Mathlib.Nat.{add-zero}
use native.Mathlib.Omega.{arith}
use Rattle.std.specs.Prelude.{Some, None}
use mathlib.Core.Path.{◌≡◌, refl, ap, sym, ◌∙◌}
use mathlib.Core.Option.{some}
use mathlib.Core.List.{List, ◌∷◌, ◌++◌, append_assoc, append-nil}
use lib.ListN.{length, get_or, drop, length-drop, length-append}
use lib.Seq.{get_or-drop, drop-drop, drop-append_seam, drop-length}
use Rattle.expression.specs.Token.{opening, Operators, class}
use Rattle.expression.specs.Tree.{Tree, reading, bracket, binary, prefix, record_of}
use Rattle.expression.specs.Decode.{tree_of}
use Rattle.expression.proofs.Classes.{brackets}
use Rattle.expression.proofs.RecordsAndTrees.{record_tree_of}
use Rattle.record.specs.Node.{node_of, node_at}
use Rattle.record.specs.TreeAt.{TreeAt}
use Rattle.record.specs.declared.Node.{Node}
use Rattle.record.specs.declared.Node.TheVariants as node
use Rattle.record.proofs.Nodes.{within_node}

-- the node on top of a tree
abbrev pub top_of : Tree → Node
top_of (reading a) = node.Reading a
top_of (bracket t) = node.Bracket
top_of (binary o l r) = node.Operator o
top_of (prefix p t) = node.Prefix p

pub record_positive : (t : Tree) → 1 ≤ length (record_of t)
record_positive (reading a) = omega arith
record_positive (bracket t) = omega arith
record_positive (binary o l r) = omega arith
record_positive (prefix p t) = omega arith

module _ (ops : Operators) (bytes : List ℕ) where
  -- a record that is read as a tree holds it from its start to its end
  pub whole : (t : Tree) → tree_of (class ops) bytes ≡ some t → TreeAt ops bytes 0 t (length bytes)
  whole t e =
      let (r, h) = record_tree_of (class ops) (brackets ops) bytes t e in
      record {
        over = h;
        ends = omega (arith, ap length r);
        stands = sym (rw (drop-length, append-nil) r);
      }

  module _ (from : ℕ) where
    head_in : (b : ℕ) (rest : List ℕ) → drop from bytes ≡ b ∷ rest → from < length bytes
    head_in b rest h = omega (arith, length-drop from bytes, ap length h)

    head_node : (b : ℕ) (rest : List ℕ) → drop from bytes ≡ b ∷ rest → node_at ops bytes from ≡ node_of (class ops b) b
    head_node b rest h =
        let e : get_or bytes from 0 ≡ b = sym (get_or-drop from bytes 0 0 ∙ rw add-zero) ∙ ap (λ l. get_or l 0 0) h in
        within_node ops bytes from (head_in b rest h) ∙ ap (λ c. node_of (class ops c) c) e

    tail_after : (b : ℕ) (rest : List ℕ) → drop from bytes ≡ b ∷ rest → drop (from + 1) bytes ≡ rest
    tail_after b rest h = sym (drop-drop 1 from bytes) ∙ ap (drop 1) h

    pub top_node : (t : Tree) {to : ℕ} → TreeAt ops bytes from t to → node_at ops bytes from ≡ Some (top_of t)
    top_node (reading a) x = head_node a _ x.stands ∙ ap (λ k. node_of k a) x.over
    top_node (bracket t) x = head_node opening _ x.stands ∙ ap (λ k. node_of k opening) (brackets ops).opens
    top_node (binary o l r) x = head_node o _ x.stands ∙ ap (λ k. node_of k o) x.over.0
    top_node (prefix p t) x = head_node p _ x.stands ∙ ap (λ k. node_of k p) x.over.0

    pub ends_within : (t : Tree) (to : ℕ) → TreeAt ops bytes from t to → to ≤ length bytes
    ends_within t to x =
        omega (arith, record_positive t, length-drop from bytes, ap length x.stands, length-append (record_of t) (drop to bytes), x.ends)

    -- the tree in a bracket
    pub in_bracket : (t : Tree) (to : ℕ) → TreeAt ops bytes from (bracket t) to → TreeAt ops bytes (from + 1) t to
    in_bracket t to x =
        record {
          over = x.over;
          ends = omega (arith, x.ends);
          stands = tail_after opening _ x.stands;
        }

    -- the operand of a prefix operator
    pub in_prefix : (p : ℕ) (t : Tree) (to : ℕ) → TreeAt ops bytes from (prefix p t) to → TreeAt ops bytes (from + 1) t to
    in_prefix p t to x =
        record {
          over = x.over.1;
          ends = omega (arith, x.ends);
          stands = tail_after p _ x.stands;
        }

    -- the operands of an operator
    module _ (o : ℕ) (l r : Tree) (to : ℕ) (x : TreeAt ops bytes from (binary o l r) to) where
      abbrev seam : ℕ
      seam = from + 1 + length (record_of l)

      behind : drop (from + 1) bytes ≡ record_of l ++ (record_of r ++ drop to bytes)
      behind = tail_after o _ x.stands ∙ append_assoc (record_of l) (record_of r) (drop to bytes)

      at_seam : drop seam bytes ≡ record_of r ++ drop to bytes
      at_seam = sym (drop-drop (length (record_of l)) (from + 1) bytes) ∙ ap (drop (length (record_of l))) behind ∙ drop-append_seam (record_of l) (record_of r ++ drop to bytes)

      left_at : TreeAt ops bytes (from + 1) l seam
      left_at = record { over = x.over.1; ends = refl; stands = behind ∙ ap (λ rest. record_of l ++ rest) (sym at_seam) }

      right_at : TreeAt ops bytes seam r to
      right_at = record { over = x.over.2; ends = omega (arith, x.ends, length-append (record_of l) (record_of r)); stands = at_seam }

-- What stands at a place, by the node there.
module _ (ops : Operators) (bytes : List ℕ) (from : ℕ) {x : Node} (found : Some x ≡ node_at ops bytes from) where
  top_is : {y : Node} (t : Tree) {to : ℕ} → TreeAt ops bytes from t to → x ≡ y → top_of t ≡ y
  top_is t h e = let z : Some (top_of t) ≡ Some x = sym (top_node ops bytes from t h) ∙ sym found in cc

  pub a_reading : {a : ℕ} → x ≡ node.Reading a → (t : Tree) {to : ℕ} → TreeAt ops bytes from t to → (t ≡ reading a) × (to ≡ from + 1)
  a_reading {a} e t {to} h = go t h (top_is t h e)
    where
      go : (t : Tree) → TreeAt ops bytes from t to → top_of t ≡ node.Reading a → (t ≡ reading a) × (to ≡ from + 1)
      go (reading b) h q = let z : b ≡ a = cc in (ap reading z, h.ends)
      go (bracket t) h q = cc
      go (binary o l r) h q = cc
      go (prefix p u) h q = cc

  pub a_bracket : x ≡ node.Bracket → (t : Tree) {to : ℕ} → TreeAt ops bytes from t to → (u : Tree) × (t ≡ bracket u) × TreeAt ops bytes (from + 1) u to
  a_bracket e t {to} h = go t h (top_is t h e)
    where
      go : (t : Tree) → TreeAt ops bytes from t to → top_of t ≡ node.Bracket → (u : Tree) × (t ≡ bracket u) × TreeAt ops bytes (from + 1) u to
      go (reading b) h q = cc
      go (bracket u) h q = (u, refl, in_bracket ops bytes from u to h)
      go (binary o l r) h q = cc
      go (prefix p u) h q = cc

  pub a_prefix : {p : ℕ} → x ≡ node.Prefix p → (t : Tree) {to : ℕ} → TreeAt ops bytes from t to → (u : Tree) × (t ≡ prefix p u) × TreeAt ops bytes (from + 1) u to
  a_prefix {p} e t {to} h = go t h (top_is t h e)
    where
      go : (t : Tree) → TreeAt ops bytes from t to → top_of t ≡ node.Prefix p → (u : Tree) × (t ≡ prefix p u) × TreeAt ops bytes (from + 1) u to
      go (reading b) h q = cc
      go (bracket u) h q = cc
      go (binary o l r) h q = cc
      go (prefix o u) h q = let z : o ≡ p = cc in (u, ap (λ v. prefix v u) z, in_prefix ops bytes from o u to h)

  pub an_operator : {o : ℕ} → x ≡ node.Operator o → (t : Tree) {to : ℕ} → TreeAt ops bytes from t to
      → (l : Tree) × (r : Tree) × (mid : ℕ) × (t ≡ binary o l r) × TreeAt ops bytes (from + 1) l mid × TreeAt ops bytes mid r to
  an_operator {o} e t {to} h = go t h (top_is t h e)
    where
      go : (t : Tree) → TreeAt ops bytes from t to → top_of t ≡ node.Operator o
          → (l : Tree) × (r : Tree) × (mid : ℕ) × (t ≡ binary o l r) × TreeAt ops bytes (from + 1) l mid × TreeAt ops bytes mid r to
      go (reading b) h q = cc
      go (bracket u) h q = cc
      go (binary p l r) h q =
          let z : p ≡ o = cc in
          (l, r, seam ops bytes from p l r to h, ap (λ p. binary p l r) z, left_at ops bytes from p l r to h, right_at ops bytes from p l r to h)
      go (prefix p u) h q = cc

-- where no node is, no tree stands
pub no_tree_lem : {A : Type 0} (ops : Operators) (bytes : List ℕ) (from : ℕ) → None ≡ node_at ops bytes from → (t : Tree) {to : ℕ} → TreeAt ops bytes from t to → A
no_tree_lem ops bytes from e t h = let z : None ≡ Some (top_of t) = e ∙ top_node ops bytes from t h in cc
