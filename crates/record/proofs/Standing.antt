-- Trees that stand at places: made of what the nodes say, within more or fewer bytes, and read back. Assumes nothing.
use Prim.Native.Nat.{ℕ, ◌+◌, ◌-◌, ◌≤◌, ◌<◌}
use native.Mathlib.Numerals.{add-one}
use native.Mathlib.Omega.{arith}
use Rattle.std.specs.Prelude.{Some}
use mathlib.Core.Path.{◌≡◌, refl, ap, sym, ◌∙◌}
use mathlib.Core.Option.{some}
use mathlib.Core.List.{List, ◌∷◌, ◌++◌, append_assoc, append-nil}
use lib.ListN.{length, get_or, take, drop, length-take, length-append, take-append-drop}
use lib.Seq.{drop-cons, drop-length, drop-append-le, take_at}
use Rattle.expression.specs.Token.{opening, Operators, class}
use Rattle.expression.specs.Tree.{Tree, reading, bracket, binary, prefix, record_of}
use Rattle.expression.specs.Decode.{tree_of}
use Rattle.expression.proofs.Classes.{brackets}
use Rattle.expression.proofs.RecordsAndTrees.{tree_of_record}
use Rattle.record.specs.Front.{front}
use Rattle.record.specs.Node.{node_of, node_at}
use Rattle.record.specs.TreeAt.{TreeAt}
use Rattle.record.specs.declared.Node.{Node}
use Rattle.record.specs.declared.Node.TheVariants as node
use Rattle.record.proofs.Nodes.{within_as, within_node, of_reading, of_bracket, of_operator, of_prefix}
use Rattle.record.proofs.Holding.{front_short}
use Rattle.record.proofs.Trees.{record_positive, ends_within, an_operator}

-- The tree that a node and the trees behind it make.
module _ (ops : Operators) (bytes : List ℕ) (from : ℕ) {x : Node} (found : Some x ≡ node_at ops bytes from) where
  byte_node : {y : Node} → from < length bytes → x ≡ y → node_of (class ops (get_or bytes from 0)) (get_or bytes from 0) ≡ Some y
  byte_node d is = sym (within_node ops bytes from d) ∙ sym found ∙ ap Some is

  here : from < length bytes → drop from bytes ≡ get_or bytes from 0 ∷ drop (from + 1) bytes
  here d = drop-cons bytes from 0 d ∙ ap (λ i. get_or bytes from 0 ∷ drop i bytes) (sym (add-one from))

  pub leaf_at : {a : ℕ} → x ≡ node.Reading a → TreeAt ops bytes from (reading a) (from + 1)
  leaf_at is =
      let d = within_as ops bytes from found in
      let (k, e) = of_reading (class ops (get_or bytes from 0)) (get_or bytes from 0) (byte_node d is) in
      record {
        over = ap (class ops) (sym e) ∙ k;
        ends = omega arith;
        stands = here d ∙ ap (λ c. c ∷ drop (from + 1) bytes) e;
      }

  pub bracket_at : x ≡ node.Bracket → (u : Tree) {to : ℕ} → TreeAt ops bytes (from + 1) u to → TreeAt ops bytes from (bracket u) to
  bracket_at is u {to} h =
      let d = within_as ops bytes from found in
      let e = (brackets ops).opening_only (get_or bytes from 0) (of_bracket (class ops (get_or bytes from 0)) (get_or bytes from 0) (byte_node d is)) in
      record {
        over = h.over;
        ends = omega (arith, h.ends);
        stands = here d ∙ ap (λ c. c ∷ drop (from + 1) bytes) e ∙ ap (λ rest. opening ∷ rest) h.stands;
      }

  pub prefix_at_lem : {p : ℕ} → x ≡ node.Prefix p → (u : Tree) {to : ℕ} → TreeAt ops bytes (from + 1) u to → TreeAt ops bytes from (prefix p u) to
  prefix_at_lem {p} is u {to} h =
      let d = within_as ops bytes from found in
      let (k, e) = of_prefix (class ops (get_or bytes from 0)) (get_or bytes from 0) (byte_node d is) in
      record {
        over = (ap (class ops) (sym e) ∙ k, h.over);
        ends = omega (arith, h.ends);
        stands = here d ∙ ap (λ c. c ∷ drop (from + 1) bytes) e ∙ ap (λ rest. p ∷ rest) h.stands;
      }

  pub operator_at : {o : ℕ} → x ≡ node.Operator o → (l r : Tree) {mid to : ℕ} → TreeAt ops bytes (from + 1) l mid → TreeAt ops bytes mid r to
      → TreeAt ops bytes from (binary o l r) to
  operator_at {o} is l r {mid} {to} h g =
      let d = within_as ops bytes from found in
      let (k, e) = of_operator (class ops (get_or bytes from 0)) (get_or bytes from 0) (byte_node d is) in
      record {
        over = (ap (class ops) (sym e) ∙ k, h.over, g.over);
        ends = omega (arith, h.ends, g.ends, length-append (record_of l) (record_of r));
        stands =
            here d ∙ ap (λ c. c ∷ drop (from + 1) bytes) e
            ∙ ap (λ rest. o ∷ rest) (h.stands ∙ ap (λ rest. record_of l ++ rest) g.stands ∙ sym (append_assoc (record_of l) (record_of r) (drop to bytes)));
      }

-- a tree lies further on
pub onward : (ops : Operators) (bytes : List ℕ) (from : ℕ) (t : Tree) {to : ℕ} → TreeAt ops bytes from t to → from < to
onward ops bytes from t x = omega (arith, x.ends, record_positive t)

-- A tree that is the whole of the bytes is read back from them.
pub read_back : (ops : Operators) (bytes : List ℕ) (t : Tree) {to : ℕ} → TreeAt ops bytes 0 t to → to ≡ length bytes → tree_of (class ops) bytes ≡ some t
read_back ops bytes t {to} x e =
    let r : bytes ≡ record_of t = x.stands ∙ ap (λ rest. record_of t ++ rest) (ap (λ i. drop i bytes) e ∙ drop-length bytes) ∙ append-nil (record_of t) in
    ap (tree_of (class ops)) r ∙ tree_of_record (class ops) (brackets ops) t x.over

-- A tree stands in bytes whatever comes behind them.
module _ (ops : Operators) (a b : List ℕ) (from : ℕ) (t : Tree) (to : ℕ) where
  with_more : TreeAt ops a from t to → TreeAt ops (a ++ b) from t to
  with_more x =
      let w = ends_within ops a from t to x in
      record {
        over = x.over;
        ends = x.ends;
        stands =
            drop-append-le from a b (omega (arith, x.ends)) ∙ ap (λ s. s ++ b) x.stands ∙ append_assoc (record_of t) (drop to a) b
            ∙ ap (λ s. record_of t ++ s) (sym (drop-append-le to a b w));
      }

  module _ (x : TreeAt ops (a ++ b) from t to) (w : to ≤ length a) where
    before_rest : drop from a ++ b ≡ (record_of t ++ drop to a) ++ b
    before_rest =
        sym (drop-append-le from a b (omega (arith, x.ends))) ∙ x.stands ∙ ap (λ s. record_of t ++ s) (drop-append-le to a b w)
        ∙ sym (append_assoc (record_of t) (drop to a) b)

    as_long : length (record_of t ++ drop to a) ≡ length (drop from a)
    as_long = omega (arith, ap length before_rest, length-append (drop from a) b, length-append (record_of t ++ drop to a) b)

    with_less : TreeAt ops a from t to
    with_less =
        record {
          over = x.over;
          ends = x.ends;
          stands =
              sym (take_at (drop from a) b (length (drop from a)) refl) ∙ ap (take (length (drop from a))) before_rest
              ∙ take_at (record_of t ++ drop to a) b (length (drop from a)) as_long;
        }

-- A tree at the front of some bytes stands in every front that reaches its end.
pub in_front : (ops : Operators) (whole : List ℕ) (size other from : ℕ) (t : Tree) (to : ℕ) → TreeAt ops (front size whole) from t to → to ≤ other
    → TreeAt ops (front other whole) from t to
unfolding front
in_front ops whole size other from t to x h =
    let all : TreeAt ops whole from t to = rw (take-append-drop size whole) at (with_more ops (take size whole) (drop size whole) from t to x) in
    let w = ends_within ops whole from t to all in
    with_less ops (take other whole) (drop other whole) from t to (rw (sym (take-append-drop other whole)) at all) (omega (arith, length-take other whole))

-- The operands of an operator: the left one leaves a byte.
module _ (ops : Operators) (size : ℕ) (whole : List ℕ) (from : ℕ) {x : Node} (found : Some x ≡ node_at ops (front size whole) from) {o : ℕ} (is : x ≡ node.Operator o) where
  pub operands_in : (t : Tree) {to : ℕ} → TreeAt ops (front size whole) from t to
      → (l : Tree) × (r : Tree) × (mid : ℕ) × (t ≡ binary o l r) × TreeAt ops (front (size - 1) whole) (from + 1) l mid × TreeAt ops (front size whole) mid r to
  operands_in t {to} k =
      let (l, r, mid, e, a, b) = an_operator ops (front size whole) from found is t k in
      let w = ends_within ops (front size whole) mid r to b in
      (l, r, mid, e, in_front ops whole size (size - 1) (from + 1) l mid a (omega (arith, onward ops (front size whole) mid r b, front_short size whole)), b)

  pub widened : (l : Tree) {at mid : ℕ} → TreeAt ops (front (size - 1) whole) at l mid → TreeAt ops (front size whole) at l mid
  widened l {at} {mid} a =
      in_front ops whole (size - 1) size at l mid a (omega (arith, ends_within ops (front (size - 1) whole) at l mid a, front_short (size - 1) whole))

  pub joined_in : (l r : Tree) {mid to : ℕ} → TreeAt ops (front (size - 1) whole) (from + 1) l mid → TreeAt ops (front size whole) mid r to
      → TreeAt ops (front size whole) from (binary o l r) to
  joined_in l r a b = operator_at ops (front size whole) from found is l r (widened l a) b
