-- What each way through the search for a fault gives, from what is known on it. Assumes nothing.
use mathlib.Core.Path.{◌≡◌, refl, sym, ap, ap₂, ◌∙◌}
use mathlib.Core.Bool.{Bool, true, false, not, ◌&&◌, ◌||◌, cond}
use mathlib.Core.List.{List}
use Prim.Native.Nat.{ℕ, ◌-◌, ◌^◌, ◌<◌, ◌≤◌}
use native.Mathlib.Nat.{lt_of_lt_of_le}
use native.Mathlib.Omega.{arith}
use borrow.Author.Rules.{rules}
use borrow.Author.Tests.{le-ltb, ltb-true}
use lib.Dec.{ltb}
use mir.Val.{Fits}
use mir.Syntax.{w32}
use lib.Bits.{bit_and, bit_or, or_lt}
use lib.ListN.{get_or}
use Rattle.std.specs.Prelude.{Option, Some, None, is_some}
use Rattle.expression.specs.Limits.{most_operators}
use Rattle.disambiguation.specs.Below.{first_below}
use Rattle.disambiguation.specs.Verdict.{comes, comers}
use Rattle.disambiguation.specs.Witness.{first_right, first_third, both_exclude, none_excludes}
use Rattle.disambiguation.proofs.FirstBelow.{first_only, first_same}
use Rattle.relation.specs.Below.{if_below}
use Rattle.relation.specs.Relation.{bit_of, closes_in, turned}
use Rattle.relation.specs.Words.{operators_by, without}
use Rattle.relation.proofs.Bits.{bit_and_lem, bit_or_lem, bit_not}
use Rattle.relation.proofs.WordSets.{comes_by, bit_without}
use Rattle.relation.proofs.WordTests.{bits, bits_without, closes_bit}

-- ---- dead_right and double_right
module _ (n w a : ℕ) (t u : List ℕ) {r : Option ℕ} (few : n ≤ most_operators) (small : Fits w32 w) (h : a < n) where
  pub right_dead : {x : ℕ} → x ≡ without (get_or t a 0) w → r ≡ if_below n (first_below n (bit_of (bit_and x (get_or u a 0))))
      → r ≡ if_below n (first_right (operators_by n w) (both_exclude (operators_by n w) (turned (closes_in u)) (closes_in t)) a)
  right_dead {x} e f =
      f
      ∙ ap (if_below n)
      (first_same n _ _
      (λ b l. bit_and_lem x (get_or u a 0) b ∙ ap₂ ◌&&◌ (ap (λ (v : ℕ). bit_of v b) e ∙ bits_without n w few small.fits t a b h l)
      (bits n w few small.fits u a b h l)))

  pub right_double : Fits w32 (get_or t a 0) → Fits w32 (get_or u a 0)
      → r ≡ if_below n (first_below n (bit_of ((2 ^ 32 - 1) - bit_or (bit_or (get_or t a 0) w) (get_or u a 0))))
      → r ≡ if_below n (first_right (operators_by n w) (none_excludes (operators_by n w) (turned (closes_in u)) (closes_in t)) a)
  right_double ft fu f = f ∙ ap (if_below n) (first_same n _ _ same)
    where
      turn : (p i q : Bool) → not ((p || i) || q) ≡ (not i && not (p || q))
      turn true true q = refl
      turn true false q = refl
      turn false true q = refl
      turn false false q = refl

      same : (b : ℕ) → b < n → bit_of ((2 ^ 32 - 1) - bit_or (bit_or (get_or t a 0) w) (get_or u a 0)) b
          ≡ (comes (operators_by n w) b && not (closes_in t a b || closes_in u a b))
      same b l =
          bit_not 32 (bit_or (bit_or (get_or t a 0) w) (get_or u a 0)) b
          (or_lt 32 (bit_or (get_or t a 0) w) (get_or u a 0) (or_lt 32 (get_or t a 0) w ft.fits small.fits) fu.fits) (lt_of_lt_of_le l few)
          ∙ ap not (bit_or_lem (bit_or (get_or t a 0) w) (get_or u a 0) b ∙ ap (λ p. p || bit_of (get_or u a 0) b) (bit_or_lem (get_or t a 0) w b))
          ∙ ap₂ (λ p q. not ((p || bit_of w b) || q)) (bits n w few small.fits t a b h l) (bits n w few small.fits u a b h l)
          ∙ turn (closes_in t a b) (bit_of w b) (closes_in u a b)
          ∙ ap (λ i. i && not (closes_in t a b || closes_in u a b)) (sym (comes_by n w b l))

pub ruleset right_ways = (right_dead, right_double, rules)

-- ---- uneven_third
-- a closes before c, and b does not
abbrev one_side : ℕ → ℕ → List ℕ → ℕ → ℕ → ℕ → Bool
one_side n w t a b c = comers (operators_by n w) (closes_in t a) c && not (closes_in t b c)

module _ (n w a b : ℕ) (t : List ℕ) {q : Bool} (few : n ≤ most_operators) (small : Fits w32 w) (ha : a < n) (hb : b < n) (kind : q ≡ bit_of w b) where
  comes_is : (c : Bool) → q ≡ c → comes (operators_by n w) b ≡ not c
  comes_is c z = comes_by n w b hb ∙ ap not (sym kind ∙ z)

  -- c is in the set exactly if the one closes before it, and the other does not
  one_side_lem : {x y : ℕ} (a b : ℕ) → a < n → b < n → Fits w32 (get_or t b 0) → x ≡ without (get_or t a 0) w → y ≡ without x (get_or t b 0) → (c : ℕ)
      → c < n → bit_of y c ≡ one_side n w t a b c
  one_side_lem {x} {y} a b ha hb fits e s c l =
      ap (λ (v : ℕ). bit_of v c) s ∙ bit_without x (get_or t b 0) c fits.fits (lt_of_lt_of_le l few)
      ∙ ap₂ (λ i j. i && not j) (ap (λ (v : ℕ). bit_of v c) e ∙ bits_without n w few small.fits t a c ha l) (bits n w few small.fits t b c hb l)

  pub third_prefix : q ≡ true → None ≡ if_below n (first_third (operators_by n w) (closes_in t) a b)
  unfolding if_below
  third_prefix z =
      sym (rw (
        first_only n _ n (record {
          inside = omega arith;
          before = λ c l. ap
              (λ i. i && cond (closes_in t a b) (one_side n w t b a c) (one_side n w t a b c)) (comes_is true z);
          holds = λ l. absurd
              (omega arith);
        }),
        le-ltb n n (omega arith),
      ))

  module _ {p : Bool} (comer : q ≡ false) (is : p ≡ bit_of (get_or t a 0) b) where
    by_side : (c : Bool) → p ≡ c → (d : ℕ) → cond c (one_side n w t b a d) (one_side n w t a b d)
        ≡ (comes (operators_by n w) b && cond (closes_in t a b) (one_side n w t b a d) (one_side n w t a b d))
    by_side c z d =
        ap₂ (λ i j. i && cond j (one_side n w t b a d) (one_side n w t a b d)) (sym (comes_is false comer))
        (sym (closes_bit t a b (lt_of_lt_of_le ha few) (lt_of_lt_of_le hb few) ∙ sym is ∙ z))

    pub third_closes : {r : Option ℕ} {x y : ℕ} → p ≡ true → Fits w32 (get_or t a 0) → x ≡ without (get_or t b 0) w → y ≡ without x (get_or t a 0)
        → r ≡ if_below n (first_below n (bit_of y)) → r ≡ if_below n (first_third (operators_by n w) (closes_in t) a b)
    third_closes z fits e s f = f ∙ ap (if_below n) (first_same n _ _ (λ c l. one_side_lem b a hb ha fits e s c l ∙ by_side true z c))

    pub third_yields : {r : Option ℕ} {x y : ℕ} → p ≡ false → Fits w32 (get_or t b 0) → x ≡ without (get_or t a 0) w → y ≡ without x (get_or t b 0)
        → r ≡ if_below n (first_below n (bit_of y)) → r ≡ if_below n (first_third (operators_by n w) (closes_in t) a b)
    third_yields z fits e s f = f ∙ ap (if_below n) (first_same n _ _ (λ c l. one_side_lem a b ha hb fits e s c l ∙ by_side false z c))

pub ruleset third_ways = (third_prefix, third_closes, third_yields, rules)

-- ---- a number of those below n, or none
-- something is found exactly if there is one
pub some_if_below : (n c : ℕ) {r : Option ℕ} → r ≡ if_below n c → is_some r ≡ ltb c n
unfolding if_below
some_if_below n c e = ap is_some e ∙ go (ltb c n)
  where
    go : (b : Bool) → is_some (cond b (Some c) None) ≡ b
    go true = refl
    go false = refl

-- and then it is that one
told_if_below : (n c : ℕ) {b : ℕ} → Some b ≡ if_below n c → (b < n) × (b ≡ c)
unfolding if_below
told_if_below n c {b} e = go (ltb c n) refl e
  where
    go : (p : Bool) → ltb c n ≡ p → Some b ≡ cond p (Some c) None → (b < n) × (b ≡ c)
    go true l e = let z : b ≡ c = cc in (omega (arith, ltb-true c n l), z)
    go false l e = cc

module _ (n c : ℕ) {b : ℕ} (e : Some b ≡ if_below n c) where
  pub found_below : b < n
  found_below = (told_if_below n c e).0

  pub found_is : b ≡ c
  found_is = (told_if_below n c e).1

pub ruleset found_ways = (found_below, found_is, rules)
