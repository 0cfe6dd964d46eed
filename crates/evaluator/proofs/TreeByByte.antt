-- The tree at a place, by the byte there and, where that is an operator, by the number of its meaning. Assumes nothing.
use Prim.Native.Nat.{ℕ, ◌+◌, ◌≤◌, ◌<◌}
use native.Mathlib.Nat.{add-zero}
use native.Mathlib.Omega.{arith}
use mathlib.Core.Path.{◌≡◌, refl, ap, sym, ◌∙◌}
use mathlib.Core.Bool.{false, ◌||◌, true≢false}
use mathlib.Core.Option.{none, some}
use mathlib.Core.List.{List, ◌++◌}
use lib.ListN.{get_or, drop}
use lib.Seq.{get_or-drop}
use Rattle.expression.specs.Token.{opening, first_reading, last_reading, Operators}
use Rattle.expression.specs.Tree.{Tree, reading, bracket, binary, prefix, record_of}
use Rattle.expression.proofs.Classes.{infix_byte, prefix_byte, reading_byte}
use Rattle.expression.proofs.Tests.{both_false}
use Rattle.record.specs.TreeAt.{TreeAt}
use Rattle.record.proofs.Trees.{top_node, in_bracket, in_prefix, an_operator}
use Rattle.meanings.specs.Meanings.{PrefixMeaning, prefix_meant, is_missing}
use Rattle.meanings.proofs.Numbers.{in_meant, in_prefix_meant, one_kind}
use Rattle.evaluator.specs.Value.{meaning_in, prefix_meaning_in, lacks_meaning}

-- ---- what operands have of the tree's meanings
pub operands_meant : (lent : List ℕ) (o : ℕ) (l r : Tree) → lacks_meaning lent (binary o l r) ≡ false
    → (is_missing (meaning_in lent o) ≡ false) × (lacks_meaning lent l ≡ false) × (lacks_meaning lent r ≡ false)
operands_meant lent o l r e =
    let (a, b) = both_false (is_missing (meaning_in lent o)) (lacks_meaning lent l || lacks_meaning lent r) e in
    let (c, d) = both_false (lacks_meaning lent l) (lacks_meaning lent r) b in
    (a, c, d)

pub operand_meant : (lent : List ℕ) (p : ℕ) (t : Tree) → lacks_meaning lent (prefix p t) ≡ false → (is_missing (prefix_meaning_in lent p) ≡ false) × (lacks_meaning lent t ≡ false)
operand_meant lent p t e = both_false (is_missing (prefix_meaning_in lent p)) (lacks_meaning lent t) e

-- ---- the tree at a place, by its first byte
module _ (ops : Operators) (bytes : List ℕ) (from : ℕ) where
  first_byte : (t : Tree) {to : ℕ} → TreeAt ops bytes from t to → get_or bytes from 0 ≡ get_or (record_of t) 0 0
  first_byte t {to} x = sym (get_or-drop from bytes 0 0 ∙ ap (λ i. get_or bytes i 0) (add-zero from)) ∙ ap (λ l. get_or l 0 0) x.stands ∙ head t (drop to bytes)
    where
      head : (t : Tree) (rest : List ℕ) → get_or (record_of t ++ rest) 0 0 ≡ get_or (record_of t) 0 0
      head (reading a) rest = refl
      head (bracket t) rest = refl
      head (binary o l r) rest = refl
      head (prefix p t) rest = refl

  pub small_byte : (t : Tree) {to : ℕ} → TreeAt ops bytes from t to → get_or bytes from 0 ≤ last_reading
  small_byte (reading a) x = omega (arith, first_byte (reading a) x, reading_byte ops a x.over)
  small_byte (bracket t) x = omega (arith, first_byte (bracket t) x)
  small_byte (binary o l r) x = omega (arith, first_byte (binary o l r) x, infix_byte ops o x.over.0)
  small_byte (prefix p t) x = omega (arith, first_byte (prefix p t) x, prefix_byte ops p x.over.0)

  pub is_leaf : first_reading ≤ get_or bytes from 0 → (t : Tree) {to : ℕ} → TreeAt ops bytes from t to → (t ≡ reading (get_or bytes from 0)) × (to ≡ from + 1)
  is_leaf h (reading a) x = (ap reading (sym (first_byte (reading a) x)), x.ends)
  is_leaf h (bracket t) x = absurd (omega (arith, first_byte (bracket t) x))
  is_leaf h (binary o l r) x = absurd (omega (arith, first_byte (binary o l r) x, infix_byte ops o x.over.0))
  is_leaf h (prefix p t) x = absurd (omega (arith, first_byte (prefix p t) x, prefix_byte ops p x.over.0))

  pub is_bracket_lem : get_or bytes from 0 ≡ opening → (t : Tree) {to : ℕ} → TreeAt ops bytes from t to → (u : Tree) × (t ≡ bracket u) × TreeAt ops bytes (from + 1) u to
  is_bracket_lem h (reading a) x = absurd (omega (arith, first_byte (reading a) x, reading_byte ops a x.over))
  is_bracket_lem h (bracket u) {to} x = (u, refl, in_bracket ops bytes from u to x)
  is_bracket_lem h (binary o l r) x = absurd (omega (arith, first_byte (binary o l r) x, infix_byte ops o x.over.0))
  is_bracket_lem h (prefix p t) x = absurd (omega (arith, first_byte (prefix p t) x, prefix_byte ops p x.over.0))

  -- Else it is an operator. Where it has a meaning of its kind, the number tells which kind that is.
  module _ (h : get_or bytes from 0 < first_reading) (n : get_or bytes from 0 ≡ opening → ⊥) (lent : List ℕ) where
    no_leaf : {A : Type 0} (a : ℕ) {to : ℕ} → TreeAt ops bytes from (reading a) to → A
    no_leaf a x = absurd (omega (arith, first_byte (reading a) x, reading_byte ops a x.over))

    number_of : (t : Tree) {to : ℕ} → TreeAt ops bytes from t to → get_or lent (get_or (record_of t) 0 0) 0 ≡ get_or lent (get_or bytes from 0) 0
    number_of t x = ap (λ c. get_or lent c 0) (sym (first_byte t x))

    pub is_numbered : (t : Tree) {to : ℕ} → TreeAt ops bytes from t to → lacks_meaning lent t ≡ false → 1 ≤ get_or lent (get_or bytes from 0) 0
    is_numbered (reading a) x m = no_leaf a x
    is_numbered (bracket u) x m = absurd (n (first_byte (bracket u) x))
    is_numbered (binary o l r) x m = omega (arith, number_of (binary o l r) x, in_meant (get_or lent o 0) (operands_meant lent o l r m).0)
    is_numbered (prefix p u) x m = omega (arith, number_of (prefix p u) x, in_prefix_meant (get_or lent p 0) (operand_meant lent p u m).0)

    pub is_infix_lem : prefix_meant (get_or lent (get_or bytes from 0) 0) ≡ none → (t : Tree) {to : ℕ} → TreeAt ops bytes from t to → lacks_meaning lent t ≡ false
        → (l : Tree) × (r : Tree) × (mid : ℕ) × (t ≡ binary (get_or bytes from 0) l r) × TreeAt ops bytes (from + 1) l mid × TreeAt ops bytes mid r to
    is_infix_lem k (reading a) x m = no_leaf a x
    is_infix_lem k (bracket u) x m = absurd (n (first_byte (bracket u) x))
    is_infix_lem k (binary o l r) x m =
        let (u, v, mid, e, a, b) = an_operator ops bytes from (sym (top_node ops bytes from (binary o l r) x)) refl (binary o l r) x in
        (u, v, mid, e ∙ ap (λ p. binary p u v) (sym (first_byte (binary o l r) x)), a, b)
    is_infix_lem k (prefix p u) x m =
        absurd (true≢false (sym (ap is_missing (ap prefix_meant (number_of (prefix p u) x) ∙ k)) ∙ (operand_meant lent p u m).0))

    pub is_prefix_lem : {v : PrefixMeaning} → prefix_meant (get_or lent (get_or bytes from 0) 0) ≡ some v → (t : Tree) {to : ℕ} → TreeAt ops bytes from t to → lacks_meaning lent t ≡ false
        → (u : Tree) × (t ≡ prefix (get_or bytes from 0) u) × TreeAt ops bytes (from + 1) u to
    is_prefix_lem k (reading a) x m = no_leaf a x
    is_prefix_lem k (bracket u) x m = absurd (n (first_byte (bracket u) x))
    is_prefix_lem k (binary o l r) x m =
        absurd (true≢false (sym (one_kind (get_or lent o 0) (ap prefix_meant (number_of (binary o l r) x) ∙ k)) ∙ (operands_meant lent o l r m).0))
    is_prefix_lem k (prefix p u) {to} x m = (u, ap (λ c. prefix c u) (sym (first_byte (prefix p u) x)), in_prefix ops bytes from p u to x)
