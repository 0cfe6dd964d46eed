-- The node at a place, by the byte that stands there. Assumes nothing.
use Prim.Native.Nat.{ℕ, ◌≤◌, ◌<◌}
use native.Mathlib.Omega.{arith}
use native.Mathlib.Decide.{dec_lt}
use mathlib.Core.Path.{◌≡◌, refl, ap, sym, ◌∙◌}
use Rattle.std.specs.Prelude.{Some, None}
use mathlib.Core.Bool.{Bool, true, false, cond}
use mathlib.Core.List.{List}
use lib.ListN.{length, get_or}
use borrow.Author.Rules.{rules}
use borrow.Author.Tests.{lt-ltb, le-ltb}
use mir.Syntax.{w8}
use mir.Val.{Fits}
use Rattle.expression.specs.Limits.{most_operators}
use Rattle.expression.specs.Token.{Class, Infix, Prefix, Opening, Closing, Reading, Meaningless, opening, first_reading, Operators, class}
use Rattle.expression.proofs.Classes.{by_class, class_reading, brackets}
use Rattle.sheet.specs.Layout.{operators_of, prefix_in}
use Rattle.sheet.proofs.Laws.{class_in}
use Rattle.record.specs.Node.{node_of, node_at}
use Rattle.record.specs.declared.Node.{Node}
use Rattle.record.specs.declared.Node.TheVariants as node

-- the node of a byte, by its tests
module _ (ops : Operators) (byte : ℕ) where
  pub no_operator : {n : ℕ} → byte < most_operators → n ≡ ops.count → n ≤ byte → None ≡ node_of (class ops byte) byte
  no_operator a e b =
      by_class ops (λ k. None ≡ node_of k byte) byte (λ _ g _. absurd (omega arith)) (λ _ g _. absurd (omega arith)) (λ g. absurd (omega arith)) (λ _. refl) (λ g _. absurd (omega arith)) refl

  pub a_bracket_byte : byte ≡ opening → Some node.Bracket ≡ node_of (class ops byte) byte
  a_bracket_byte e = ap (λ k. node_of k byte) (sym (ap (class ops) e ∙ (brackets ops).opens))

  pub neither : most_operators ≤ byte → (byte ≡ opening → ⊥) → byte < first_reading → None ≡ node_of (class ops byte) byte
  neither a b d =
      by_class ops (λ k. None ≡ node_of k byte) byte (λ g _ _. absurd (omega arith)) (λ g _ _. absurd (omega arith)) (λ g. absurd (b g)) (λ _. refl) (λ g _. absurd (omega arith)) refl

  pub a_reading_byte : Fits w8 byte → first_reading ≤ byte → Some (node.Reading byte) ≡ node_of (class ops byte) byte
  a_reading_byte f a = ap (λ k. node_of k byte) (sym (class_reading ops byte a (omega arith)))

-- an operator of a sheet, infix or prefix
module _ (sheet : List ℕ) (byte : ℕ) {n : ℕ} {p : Bool} (a : byte < most_operators) (e : n ≡ (operators_of sheet).count) (b : byte < n) (kind : p ≡ prefix_in sheet byte) where
  by_kind : node_of (class (operators_of sheet) byte) byte ≡ node_of (cond p Prefix Infix) byte
  by_kind = ap (λ k. node_of k byte) (class_in sheet byte a (omega arith) ∙ ap (λ q. cond q Prefix Infix) (sym kind))

  pub prefixed : p ≡ true → Some (node.Prefix byte) ≡ node_of (class (operators_of sheet) byte) byte
  prefixed z = sym (by_kind ∙ ap (λ q. node_of (cond q Prefix Infix) byte) z)

  pub operator : p ≡ false → Some (node.Operator byte) ≡ node_of (class (operators_of sheet) byte) byte
  operator z = sym (by_kind ∙ ap (λ q. node_of (cond q Prefix Infix) byte) z)

pub ruleset node_of_ways = (prefixed, operator, no_operator, a_bracket_byte, neither, a_reading_byte, rules)

-- the node at a place
module _ (ops : Operators) (bytes : List ℕ) (at : ℕ) where
  pub past : length bytes ≤ at → None ≡ node_at ops bytes at
  past h = rw (le-ltb at (length bytes) h)

  -- within the bytes, the byte's class decides
  pub within_node : at < length bytes → node_at ops bytes at ≡ node_of (class ops (get_or bytes at 0)) (get_or bytes at 0)
  within_node h = rw (lt-ltb at (length bytes) h)

-- a node stands within the bytes
pub within_as : (ops : Operators) (bytes : List ℕ) (at : ℕ) {x : Node} → Some x ≡ node_at ops bytes at → at < length bytes
within_as ops bytes at {x} found = go (dec_lt at (length bytes))
  where
    go : Dec (at < length bytes) → at < length bytes
    go (yes d) = d
    go (no d) =
        let e : None ≡ node_at ops bytes at = past ops bytes at (omega arith) in
        let z : Some x ≡ None = found ∙ sym e in
        cc

-- the class and the byte of a node
pub of_reading : (k : Class) (c : ℕ) {a : ℕ} → node_of k c ≡ Some (node.Reading a) → (k ≡ Reading) × (c ≡ a)
of_reading Infix c e = cc
of_reading Prefix c e = cc
of_reading Opening c e = cc
of_reading Closing c e = cc
of_reading Reading c e = (refl, cc)
of_reading Meaningless c e = cc

pub of_bracket : (k : Class) (c : ℕ) → node_of k c ≡ Some node.Bracket → k ≡ Opening
of_bracket Infix c e = cc
of_bracket Prefix c e = cc
of_bracket Opening c e = refl
of_bracket Closing c e = cc
of_bracket Reading c e = cc
of_bracket Meaningless c e = cc

pub of_operator : (k : Class) (c : ℕ) {o : ℕ} → node_of k c ≡ Some (node.Operator o) → (k ≡ Infix) × (c ≡ o)
of_operator Infix c e = (refl, cc)
of_operator Prefix c e = cc
of_operator Opening c e = cc
of_operator Closing c e = cc
of_operator Reading c e = cc
of_operator Meaningless c e = cc

pub of_prefix : (k : Class) (c : ℕ) {p : ℕ} → node_of k c ≡ Some (node.Prefix p) → (k ≡ Prefix) × (c ≡ p)
of_prefix Infix c e = cc
of_prefix Prefix c e = (refl, cc)
of_prefix Opening c e = cc
of_prefix Closing c e = cc
of_prefix Reading c e = cc
of_prefix Meaningless c e = cc
