-- At a place of a record stands one tree at most. Assumes nothing.
use Prim.Native.Nat.{ℕ, ◌+◌}
use native.Mathlib.Omega.{arith}
use mathlib.Core.Path.{◌≡◌, refl, ap, ap₂, sym, ◌∙◌}
use mathlib.Core.List.{List}
use Rattle.expression.specs.Token.{Operators}
use Rattle.expression.specs.Tree.{Tree, reading, bracket, binary, prefix}
use Rattle.record.specs.TreeAt.{TreeAt}
use Rattle.record.proofs.Trees.{top_node, in_bracket, in_prefix, a_reading, a_bracket, a_prefix, an_operator}

module _ (ops : Operators) (bytes : List ℕ) where
  -- the operands of an operator stand behind it
  pub operands_at : (from o : ℕ) (l r : Tree) {to : ℕ} → TreeAt ops bytes from (binary o l r) to
      → (mid : ℕ) × TreeAt ops bytes (from + 1) l mid × TreeAt ops bytes mid r to
  operands_at from o l r {to} x =
      let (k, m, mid, e, y, z) = an_operator ops bytes from (sym (top_node ops bytes from (binary o l r) x)) refl (binary o l r) x in
      let p : k ≡ l = cc in
      let q : m ≡ r = cc in
      let left : TreeAt ops bytes (from + 1) l mid = rw p at y in
      let right : TreeAt ops bytes mid r to = rw q at z in
      (mid, left, right)

  pub one_tree_lem : (from : ℕ) (t u : Tree) (to end : ℕ) → TreeAt ops bytes from t to → TreeAt ops bytes from u end → (t ≡ u) × (to ≡ end)
  one_tree_lem from (reading a) u to end x y =
      let (e, f) = a_reading ops bytes from (sym (top_node ops bytes from (reading a) x)) refl u y in
      (sym e, omega (arith, f, x.ends))
  one_tree_lem from (bracket t) u to end x y =
      let (v, e, z) = a_bracket ops bytes from (sym (top_node ops bytes from (bracket t) x)) refl u y in
      let (p, q) = one_tree_lem (from + 1) t v to end (in_bracket ops bytes from t to x) z in
      (ap bracket p ∙ sym e, q)
  one_tree_lem from (binary o l r) u to end x y =
      let (mid, a, b) = operands_at from o l r x in
      let (k, m, mid', e, c, d) = an_operator ops bytes from (sym (top_node ops bytes from (binary o l r) x)) refl u y in
      let (p, q) = one_tree_lem (from + 1) l k mid mid' a c in
      let (s, t) = one_tree_lem mid r m to end b (rw (sym q) at d) in
      (ap₂ (binary o) p s ∙ sym e, t)
  one_tree_lem from (prefix p t) u to end x y =
      let (v, e, z) = a_prefix ops bytes from (sym (top_node ops bytes from (prefix p t) x)) refl u y in
      let (q, s) = one_tree_lem (from + 1) t v to end (in_prefix ops bytes from p t to x) z in
      (ap (prefix p) q ∙ sym e, s)
