-- Whether a record has a prefix operator: what each way through the test gives, and the marks of a record that has none. Assumes nothing.
use Prim.Native.Nat.{ℕ, ◌+◌, ◌≤◌, ◌<◌}
use native.Mathlib.Decide.{dec_lt}
use native.Mathlib.Omega.{arith}
use mathlib.Core.Path.{◌≡◌, refl, ap, sym, ◌∙◌}
use mathlib.Core.Bool.{Bool, true, false, not, cond}
use mathlib.Core.List.{List, [], ◌∷◌}
use lib.ListN.{get_or}
use borrow.Author.Rules.{rules}
use borrow.Author.Tests.{not-true}
use Rattle.expression.specs.Lists.{any_holds}
use Rattle.expression.specs.Token.{Infix, Prefix, opening, class}
use Rattle.expression.specs.Tree.{Tree, reading, bracket, binary, prefix, record_of, Over}
use Rattle.expression.proofs.Classes.{prefix_byte}
use Rattle.expression.proofs.Tests.{both_false, any_append}
use Rattle.disambiguation.specs.Edges.{prefixes, on_top}
use Rattle.sheet.specs.Layout.{operators_of, prefix_in, some_prefix}
use Rattle.sheet.specs.Relation.{closes_in}
use Rattle.sheet.proofs.Laws.{class_in, none_prefix}
use Rattle.record.specs.TreeAt.{TreeAt}
use Rattle.record.specs.Counts.{sees_edge}
use Rattle.std.specs.Prelude.{Some}
use Rattle.record.proofs.Trees.{in_bracket}
use Rattle.brackets.specs.Enclosed.{around}
use Rattle.brackets.specs.Shortest.{enclosed_in}
use Rattle.brackets.specs.Edges.{edge_shows, Marked}
use Rattle.brackets.proofs.OneTree.{operands_at, one_tree_lem}

-- ---- has_prefix
-- a sheet without a prefix operator
pub none_at_all : (sheet bytes : List ℕ) {b : Bool} → b ≡ some_prefix sheet → not b ≡ true → false ≡ any_holds (prefix_in sheet) bytes
none_at_all sheet bytes {b} tested e = sym (go bytes)
  where
    go : (xs : List ℕ) → any_holds (prefix_in sheet) xs ≡ false
    go [] = refl
    go (x ∷ xs) = rw (none_prefix sheet (sym tested ∙ not-true b e) x) (go xs)

pub ruleset has_prefix_ways = (none_at_all, rules)

-- ---- a record without a prefix operator
by_order : {A : Type 0} (a b : ℕ) → (a < b → A) → (b ≤ a → A) → A
by_order {A} a b f g = go (dec_lt a b)
  where
    go : Dec (a < b) → A
    go (yes d) = f d
    go (no d) = g (omega arith)

module _ (sheet : List ℕ) where
  -- no byte of the tree's record is a prefix operator
  abbrev pub Unprefixed : Tree → Type 0
  Unprefixed t = any_holds (prefix_in sheet) (record_of t) ≡ false

  left_unprefixed : (o : ℕ) (l r : Tree) → Unprefixed (binary o l r) → Unprefixed l
  left_unprefixed o l r e =
      (both_false (any_holds (prefix_in sheet) (record_of l)) (any_holds (prefix_in sheet) (record_of r))
      (sym (any_append (prefix_in sheet) (record_of l) (record_of r)) ∙ (both_false (prefix_in sheet o) _ e).1)).0

  right_unprefixed : (o : ℕ) (l r : Tree) → Unprefixed (binary o l r) → Unprefixed r
  right_unprefixed o l r e =
      (both_false (any_holds (prefix_in sheet) (record_of l)) (any_holds (prefix_in sheet) (record_of r))
      (sym (any_append (prefix_in sheet) (record_of l) (record_of r)) ∙ (both_false (prefix_in sheet o) _ e).1)).1

  -- a prefix operator is one under the sheet
  known_prefix : {A : Type 0} (p : ℕ) → class (operators_of sheet) p ≡ Prefix → prefix_in sheet p ≡ false → A
  known_prefix p k e =
      let (a, b) = prefix_byte (operators_of sheet) p k in
      let f : Prefix ≡ Infix = sym k ∙ class_in sheet p a b ∙ ap (λ q. cond q Prefix Infix) e in
      let z : ◌≡◌ {A = ℕ} 0 1 = cc in
      absurd (omega arith)

  -- so none is seen on its edge
  no_edge : (t : Tree) → Over (class (operators_of sheet)) t → Unprefixed t → prefixes (enclosed_in sheet t) ≡ []
  no_edge (reading a) h e = refl
  no_edge (bracket t) h e = no_edge t h (both_false (prefix_in sheet opening) _ e).1
  no_edge (binary o l r) h e = go (any_holds (closes_in sheet o) (on_top (enclosed_in sheet r))) (no_edge r h.2 (right_unprefixed o l r e))
    where
      go : (b : Bool) → prefixes (enclosed_in sheet r) ≡ [] → prefixes (around b (enclosed_in sheet r)) ≡ []
      go true f = refl
      go false f = f
  no_edge (prefix p t) h e = known_prefix p h.0 (both_false (prefix_in sheet p) _ e).0

  module _ (bytes : List ℕ) (marks : List Bool) where
    -- no left operand shows a conflict on its edge: the one at the place, and all behind it
    none_here : (t : Tree) (from to : ℕ) → TreeAt (operators_of sheet) bytes from t to → Unprefixed t
        → (end o : ℕ) (l r : Tree) → TreeAt (operators_of sheet) bytes from (binary o l r) end → edge_shows sheet (Some o) (enclosed_in sheet l) ≡ false
    none_here t from to k none end o l r x =
        let (e, _) = one_tree_lem (operators_of sheet) bytes from t (binary o l r) to end k x in
        ap (any_holds (sees_edge sheet (Some o))) (no_edge l x.over.1 (left_unprefixed o l r (rw e at none)))

    none_shown : (t : Tree) (from to : ℕ) → TreeAt (operators_of sheet) bytes from t to → Unprefixed t
        → (at end o : ℕ) (l r : Tree) → from ≤ at → at < to → TreeAt (operators_of sheet) bytes at (binary o l r) end → edge_shows sheet (Some o) (enclosed_in sheet l) ≡ false
    none_shown (reading a) from to k none at end o l r low high x =
        let same : at ≡ from = omega (arith, k.ends) in
        none_here (reading a) from to k none end o l r (rw same at x)
    none_shown (bracket t) from to k none at end o l r low high x =
        by_order from at
        (λ d. none_shown t (from + 1) to (in_bracket (operators_of sheet) bytes from t to k) (both_false (prefix_in sheet opening) _ none).1 at end o l r (omega arith) high x)
        (λ d. let same : at ≡ from = omega arith in none_here (bracket t) from to k none end o l r (rw same at x))
    none_shown (binary c u v) from to k none at end o l r low high x =
        let (mid, a, b) = operands_at (operators_of sheet) bytes from c u v k in
        by_order from at
        (λ d. by_order at mid
        (λ w. none_shown u (from + 1) mid a (left_unprefixed c u v none) at end o l r (omega arith) w x)
        (λ w. none_shown v mid to b (right_unprefixed c u v none) at end o l r w high x))
        (λ d. let same : at ≡ from = omega arith in none_here (binary c u v) from to k none end o l r (rw same at x))
    none_shown (prefix p t) from to k none at end o l r low high x = known_prefix p k.over.0 (both_false (prefix_in sheet p) _ none).0

    -- marks of which none is set are right
    pub blank_marked : (t : Tree) (from to : ℕ) → TreeAt (operators_of sheet) bytes from t to → Unprefixed t → ((at : ℕ) → get_or marks at false ≡ false) → Marked sheet bytes marks from to
    blank_marked t from to k none blank =
        record { mark = λ at end o l r low high x. blank at ∙ sym (none_shown t from to k none at end o l r low high x) }
