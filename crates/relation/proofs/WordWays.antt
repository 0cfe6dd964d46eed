-- What each way through the operations on words gives, from what is known on it. Assumes nothing.
use mathlib.Core.Path.{◌≡◌, refl, sym, ap, ◌∙◌}
use mathlib.Core.Bool.{Bool, true, false}
use Prim.Native.Nat.{ℕ, ◌-◌, ◌*◌, ◌/◌, ◌%◌, ◌^◌, ◌<◌, ◌≤◌}
use native.Mathlib.Omega.{arith}
use borrow.Author.Rules.{rules}
use mir.Val.{Fits}
use mir.Syntax.{w32}
use lib.Bits.{bit_and, bit_or}
use lib.Dec.{eqb}
use lib.Pow.{pow_pos, pow_mono}
use Rattle.expression.specs.Limits.{most_operators}
use Rattle.disambiguation.specs.Verdict.{within}
use Rattle.relation.specs.Relation.{bit_of}
use Rattle.relation.specs.Words.{with_bit, without}
use Rattle.relation.specs.Chaining.{joined}
use Rattle.relation.specs.Tests.{none_in_both, each_in_one}
use Rattle.relation.proofs.Bits.{one_shifted, bit_test}
use Rattle.relation.proofs.WordSets.{outside_set}
use Rattle.relation.proofs.WordTests.{both_masked, one_masked, within_masked}

-- ---- mask
module _ (n : ℕ) (few : n ≤ most_operators) where
  shifted : (1 * 2 ^ n) % 2 ^ 64 ≡ 2 ^ n
  shifted = one_shifted n 64 (omega arith)

  pub mask_positive : 1 ≤ (1 * 2 ^ n) % 2 ^ 64
  mask_positive = rw shifted (pow_pos n)

  pub mask_fits : Fits w32 ((1 * 2 ^ n) % 2 ^ 64 - 1)
  mask_fits = record { fits = let e = shifted in let l : 2 ^ n ≤ 2 ^ 32 = pow_mono few in let p = pow_pos n in omega arith }

  pub mask_is : (1 * 2 ^ n) % 2 ^ 64 - 1 ≡ 2 ^ n - 1
  mask_is = ap (λ (x : ℕ). x - 1) shifted

pub ruleset mask_ways = (mask_positive, mask_fits, mask_is, rules)

-- ---- has, apart, cover, inside, without
pub has_test : (x c : ℕ) → eqb (bit_and (x / 2 ^ c) 1) 1 ≡ bit_of x c
has_test = bit_test

pub apart_test : (n x y m : ℕ) → m ≡ 2 ^ n - 1 → eqb (bit_and (bit_and x y) m) 0 ≡ none_in_both n (bit_of x) (bit_of y)
apart_test n x y m e = rw e (both_masked n x y)

pub cover_test : (n x y m : ℕ) → n ≤ most_operators → Fits w32 x → Fits w32 y → m ≡ 2 ^ n - 1
    → eqb (bit_and ((2 ^ 32 - 1) - bit_or x y) m) 0 ≡ each_in_one n (bit_of x) (bit_of y)
cover_test n x y m few fx fy e = rw e (one_masked 32 n x y few fx.fits fy.fits)

pub inside_test : (n x y m : ℕ) → n ≤ most_operators → Fits w32 y → m ≡ 2 ^ n - 1
    → eqb (bit_and (bit_and x ((2 ^ 32 - 1) - y)) m) 0 ≡ within n (bit_of x) (bit_of y)
inside_test n x y m few fy e = rw e (within_masked 32 n x y few fy.fits)

pub without_is : (x y : ℕ) → bit_and x ((2 ^ 32 - 1) - y) ≡ without x y
unfolding without
without_is x y = refl

pub ruleset word_ways = (has_test, apart_test, cover_test, inside_test, without_is, rules)

-- ---- with
module _ (x c : ℕ) {told : Bool} where
  pub put_in : c < most_operators → told ≡ true → bit_or x ((1 * 2 ^ c) % 2 ^ 32) ≡ with_bit x c told
  unfolding with_bit
  put_in h e = rw e (ap (bit_or x) (one_shifted c 32 h))

  pub left_out : told ≡ false → x ≡ with_bit x c told
  unfolding with_bit
  left_out e = rw e

pub ruleset with_ways = (put_in, left_out, rules)

-- ---- joined
module _ {b : Bool} (x c y : ℕ) (is : b ≡ bit_of x c) where
  pub puts_in : b ≡ true → bit_or x y ≡ joined x c y
  unfolding joined
  puts_in z = rw (sym is ∙ z) refl

  pub stays : b ≡ false → x ≡ joined x c y
  unfolding joined
  stays z = rw (sym is ∙ z) refl

pub ruleset joined_ways = (puts_in, stays, rules)

-- ---- outside
pub ruleset outside_ways = (outside_set, rules)
