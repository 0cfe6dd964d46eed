-- The zeros below a word's lowest one: the first of the set that the word is. Assumes nothing.
use mathlib.Core.Path.{◌≡◌, refl, sym, ap, ◌∙◌}
use mathlib.Core.Bool.{false}
use Prim.Native.Nat.{ℕ, zero, suc, ◌/◌, ◌%◌, ◌<◌, ◌≤◌}
use native.Mathlib.Nat.{mod-lt, zero-lt-suc}
use native.Mathlib.Omega.{arith}
use borrow.Author.Rules.{rules}
use borrow.Author.Tests.{lt-ltb, le-ltb}
use mir.Val.{Fits}
use mir.Syntax.{w64}
use lib.Count.{under, count_trailing_zeros, trailing_le}
use lib.Dec.{eqb}
use Rattle.std.specs.Prelude.{Some, None}
use Rattle.expression.specs.Limits.{most_operators}
use Rattle.disambiguation.specs.Below.{first_below}
use Rattle.disambiguation.proofs.FirstBelow.{IsFirst, first_only}
use Rattle.relation.specs.Below.{if_below}
use Rattle.relation.specs.Relation.{bit_of}
use Rattle.relation.proofs.Bits.{bit_lowest, bit_above}

-- the zeros are counted up to the lowest one
lowest : (w x : ℕ) → IsFirst w (bit_of x) (count_trailing_zeros w x)
unfolding count_trailing_zeros
lowest zero x = record { inside = omega arith; before = λ a h. absurd (omega arith); holds = λ h. absurd (omega arith) }
lowest (suc w) x = go (x % 2) refl (mod-lt x (zero-lt-suc 1)) (lowest w (x / 2))
  where
    go : (d : ℕ) → x % 2 ≡ d → d < 2 → IsFirst w (bit_of (x / 2)) (count_trailing_zeros w (x / 2)) → IsFirst (suc w) (bit_of x) (under d (count_trailing_zeros w (x / 2)))
    go zero e h f =
        record {
          inside = omega (arith, f.inside);
          before = λ a l. first a l;
          holds = λ l. bit_above x (count_trailing_zeros w (x / 2)) ∙ f.holds (omega arith);
        }
      where
        first : (a : ℕ) → a < suc (count_trailing_zeros w (x / 2)) → bit_of x a ≡ false
        first zero l = bit_lowest x ∙ ap (λ (d : ℕ). eqb d 1) e
        first (suc a) l = bit_above x a ∙ f.before a (omega arith)
    go (suc zero) e h f = record { inside = omega arith; before = λ a l. absurd (omega arith); holds = λ _. bit_lowest x ∙ ap (λ (d : ℕ). eqb d 1) e }
    go (suc (suc d)) e h f = absurd (omega arith)

module _ (n x : ℕ) (few : n ≤ most_operators) where
  pub zeros_fit : Fits w64 (count_trailing_zeros 32 x)
  zeros_fit = record { fits = omega (arith, trailing_le 32 x) }

  -- below n it is the first there
  pub lowest_below : count_trailing_zeros 32 x < n → Some (count_trailing_zeros 32 x) ≡ if_below n (first_below n (bit_of x))
  unfolding if_below
  lowest_below h =
      let f = lowest 32 x in
      sym (rw (
        first_only n (bit_of x) (count_trailing_zeros 32 x)
            (record { inside = omega arith; before = f.before; holds = λ _. f.holds (omega arith) }),
        lt-ltb (count_trailing_zeros 32 x) n h,
      ))

  -- and else there is none
  pub none_lower : n ≤ count_trailing_zeros 32 x → None ≡ if_below n (first_below n (bit_of x))
  unfolding if_below
  none_lower h =
      sym (rw (
        first_only n (bit_of x) n (record {
          inside = omega arith;
          before = λ a l. (lowest 32 x).before a (omega arith);
          holds = λ l. absurd
              (omega arith);
        }),
        le-ltb n n (omega arith),
      ))

pub ruleset first_in_ways = (zeros_fit, lowest_below, none_lower, rules)
