-- What each way through the reading of kinds gives, from what is known on it. Assumes nothing.
use mathlib.Core.Path.{◌≡◌, refl, sym, ap, ap₂, ◌∙◌}
use mathlib.Core.Bool.{Bool, true, false, not, beq}
use mathlib.Core.List.{List}
use Prim.Native.Nat.{ℕ, ◌<◌, ◌≤◌}
use native.Mathlib.Omega.{arith}
use borrow.Author.Tests.{le-ltb}
use borrow.Author.Rules.{rules}
use lib.Dec.{eqb, ltb}
use Rattle.expression.specs.Lists.{one_if}
use Rattle.expression.specs.Limits.{most_operators}
use Rattle.expression.specs.Token.{prefix_kind, kind_of}
use Rattle.sheet.specs.Layout.{operators_of, prefix_in}
use Rattle.sheet.proofs.PrefixWord.{kind_told, kind_none, kinds_agree}

-- ---- has_prefix_kind and differs
module _ (sheet : List ℕ) (c : ℕ) {n : ℕ} (count : n ≡ (operators_of sheet).count) where
  pub no_such : n ≤ c → ltb c n ≡ eqb (kind_of (operators_of sheet) c) prefix_kind
  no_such h = le-ltb c n h ∙ sym (kind_none sheet c (omega arith))

  pub such_told : {r : Bool} → c < n → c < most_operators → r ≡ prefix_in sheet c → r ≡ eqb (kind_of (operators_of sheet) c) prefix_kind
  such_told h g e = e ∙ sym (kind_told sheet c (omega arith) g)

pub ruleset prefix_kind_ways = (no_such, such_told, rules)

-- prefix or infix: the two kinds differ exactly if one is that of prefix operators and the other is not
pub kinds_differ : (old new : List ℕ) (c : ℕ) {a b : Bool} → a ≡ eqb (kind_of (operators_of old) c) prefix_kind
    → b ≡ eqb (kind_of (operators_of new) c) prefix_kind
    → not (beq a b) ≡ not (eqb (kind_of (operators_of old) c) (kind_of (operators_of new) c))
kinds_differ old new c {a} {b} in_old in_new =
    ap not (told a b ∙ ap₂ (λ x y. eqb (one_if x) (one_if y)) in_old in_new ∙ sym (kinds_agree old new c))
  where
    told : (a b : Bool) → beq a b ≡ eqb (one_if a) (one_if b)
    told true true = refl
    told true false = refl
    told false true = refl
    told false false = refl

pub ruleset differs_ways = (kinds_differ, rules)
