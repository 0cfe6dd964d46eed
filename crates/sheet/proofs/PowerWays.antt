-- What each way through the binding powers gives, from what is known on it. Assumes nothing.
use mathlib.Core.Path.{◌≡◌, refl, sym, ap, ap₂, ◌∙◌}
use mathlib.Core.Bool.{Bool, true, false, cond}
use mathlib.Core.List.{List}
use Prim.Native.Nat.{ℕ, ◌+◌, ◌-◌, ◌*◌, ◌<◌, ◌≤◌}
use native.Mathlib.Omega.{arith}
use borrow.Author.Tests.{lt-ltb, le-ltb, ltb-false, not-true, not-false}
use borrow.Author.Rules.{rules}
use mir.Val.{Fits}
use mir.Syntax.{w8, w32}
use lib.Count.{ones, ones-le}
use lib.Dec.{ltb}
use Rattle.expression.specs.Limits.{most_operators}
use Rattle.disambiguation.specs.Powers.{below, right_power}
use Rattle.relation.specs.Relation.{bit_of, closes_in}
use Rattle.relation.specs.Words.{SetOf}
use Rattle.sheet.specs.Layout.{operators_of}
use Rattle.sheet.specs.BindingPowers.{infix_in, given, not_infix, given_in, powers_in, capped, left_by, given_by}
use Rattle.sheet.specs.declared.powers.Powers.{Powers}
use Rattle.sheet.proofs.PowerWords.{none_beyond, infix_set, below_set, left_by_set}

-- ---- capped_count
module _ (n : ℕ) {m : ℕ} (is : m ≡ n) where
  pub capped_beyond : most_operators < m → most_operators ≡ capped n
  capped_beyond h = rw (lt-ltb most_operators n (omega arith))

  pub capped_itself : m ≤ most_operators → m ≡ capped n
  capped_itself h = rw (le-ltb most_operators n (omega arith)) is

pub ruleset capped_ways = (capped_beyond, capped_itself, rules)

-- ---- infixes
pub most_few : (n : ℕ) {m : ℕ} → m ≡ capped n → m ≤ most_operators
most_few n {m} e = go (ltb most_operators n) refl e
  where
    go : (b : Bool) → ltb most_operators n ≡ b → m ≡ cond b most_operators n → m ≤ most_operators
    go true h e = omega arith
    go false h e = omega (arith, ltb-false most_operators n h)

pub ruleset infixes_ways = (most_few, infix_set, rules)

-- ---- set_below
pub ruleset below_ways = (below_set, rules)

-- ---- left_power
module _ (x : ℕ) (small : Fits w32 x) where
  pub ones_few : ones x ≤ most_operators
  ones_few = ones-le most_operators x small.fits

pub ones_fit : (x : ℕ) → Fits w32 x → Fits w8 (ones x)
ones_fit x small = record { fits = omega (arith, ones_few x small) }

pub twice_fits : (x : ℕ) → Fits w32 x → Fits w8 (2 * ones x)
twice_fits x small = record { fits = omega (arith, ones_few x small) }

pub power_fits : (x : ℕ) → Fits w32 x → Fits w8 (2 + 2 * ones x)
power_fits x small = record { fits = omega (arith, ones_few x small) }

pub ruleset left_ways = (ones_fit, twice_fits, power_fits, rules)

-- ---- powers_of_infix
module _ (sheet : List ℕ) (a : ℕ) {l y : ℕ} {s : Bool} (left : l ≡ left_by y) (itself : s ≡ closes_in sheet a a) (small : Fits w32 y)
    (lies : SetOf (below (operators_of sheet) (closes_in sheet) a) y) where
  both_powers : given_by l s ≡ given_in sheet a
  unfolding given_in right_power
  both_powers = ap₂ given_by (left ∙ left_by_set (operators_of sheet) (closes_in sheet) a y small lies) itself

  pub powers_same : s ≡ true → given l l ≡ given_in sheet a
  powers_same z = ap (λ b. given l (cond b l (l - 1))) (sym z) ∙ both_powers

  pub powers_less : s ≡ false → given l (l - 1) ≡ given_in sheet a
  powers_less z = ap (λ b. given l (cond b l (l - 1))) (sym z) ∙ both_powers

pub at_least_one : (y : ℕ) {l : ℕ} → l ≡ left_by y → 1 ≤ l
at_least_one y e = omega arith

pub ruleset both_ways = (powers_same, powers_less, at_least_one, rules)

-- ---- powers_of
module _ (sheet : List ℕ) (a : ℕ) {r : Powers} where
  pub of_other : infix_in sheet a ≡ false → r ≡ not_infix → r ≡ powers_in sheet a
  unfolding powers_in
  of_other z e = rw z e

  pub of_infix : infix_in sheet a ≡ true → r ≡ given_in sheet a → r ≡ powers_in sheet a
  unfolding powers_in
  of_infix z e = rw z e

pub beyond_operators : (sheet : List ℕ) (a : ℕ) → most_operators ≤ a → infix_in sheet a ≡ false
unfolding infix_in
beyond_operators sheet a h = none_beyond (operators_of sheet) a (λ p. omega (arith, p.0))

pub told_infix : (sheet : List ℕ) (a x : ℕ) {t : Bool} (z : Bool) → a < most_operators → SetOf (infix_in sheet) x → t ≡ bit_of x a → t ≡ z → infix_in sheet a ≡ z
told_infix sheet a x z few among told e = sym (among.bit a few) ∙ sym told ∙ e

pub ruleset powers_ways = (of_other, of_infix, beyond_operators, told_infix, not-true, not-false, rules)
