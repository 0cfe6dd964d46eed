-- What each way through the tests of a sheet's relations gives, from what is known on it. Assumes nothing.
use mathlib.Core.Path.{◌≡◌, sym, ap, ◌∙◌}
use mathlib.Core.Bool.{Bool, true, false, not}
use mathlib.Core.List.{List}
use Prim.Native.Nat.{ℕ, ◌<◌, ◌≤◌}
use native.Mathlib.Nat.{lt_of_lt_of_le}
use borrow.Author.Tests.{not-true, not-false}
use borrow.Author.Rules.{rules}
use mir.Val.{Fits}
use mir.Syntax.{w32}
use lib.Bits.{bit_or}
use lib.ListN.{get_or}
use Rattle.expression.specs.Limits.{most_operators}
use Rattle.expression.specs.Token.{Operators}
use Rattle.disambiguation.specs.Verdict.{safe, total, within, level}
use Rattle.relation.specs.Relation.{bit_of, closes_in, turned}
use Rattle.relation.specs.Words.{operators_by, without}
use Rattle.relation.specs.Tests.{none_in_both, each_in_one, safe_for, total_for, level_pair, rules_number}
use Rattle.relation.proofs.WordSets.{comes_by}
use Rattle.relation.proofs.WordTests.{closes_bit, safe_by_words, total_by_words, within_by_words}

-- ---- is_safe and is_total: the test of one operator
module _ {r : Bool} (n w : ℕ) (t u : List ℕ) (a : ℕ) (few : n ≤ most_operators) (small : Fits w32 w) (h : a < n) where
  pub safe_here : {x : ℕ} → x ≡ without (get_or t a 0) w → r ≡ none_in_both n (bit_of x) (bit_of (get_or u a 0))
      → r ≡ safe_for (operators_by n w) (turned (closes_in u)) (closes_in t) a
  safe_here q e = e ∙ ap (λ y. none_in_both n (bit_of y) (bit_of (get_or u a 0))) q ∙ safe_by_words n w few small.fits t u a h

  pub total_here : r ≡ each_in_one n (bit_of (bit_or (get_or t a 0) w)) (bit_of (get_or u a 0))
      → r ≡ total_for (operators_by n w) (turned (closes_in u)) (closes_in t) a
  total_here e = e ∙ total_by_words n w few small.fits t u a h

-- ---- pair_is_level
module _ (n w : ℕ) (t : List ℕ) (a b : ℕ) {q : Bool} (few : n ≤ most_operators) (small : Fits w32 w) (ha : a < n) (hb : b < n) (kind : q ≡ bit_of w b) where
  pub pair_prefix : q ≡ true → true ≡ level_pair (operators_by n w) (closes_in t) a b
  unfolding level_pair
  pair_prefix z = rw (comes_by n w b hb ∙ ap not (sym kind ∙ z))

  module _ {p r : Bool} {x : ℕ} (comer : q ≡ false) (is : p ≡ bit_of (get_or t a 0) b) where
    pub pair_closes : p ≡ true → x ≡ without (get_or t b 0) w → r ≡ within n (bit_of x) (bit_of (get_or t a 0)) → r ≡ level_pair (operators_by n w) (closes_in t) a b
    unfolding level_pair
    pair_closes z y e =
        rw (comes_by n w b hb ∙ ap not (sym kind ∙ comer), closes_bit t a b (lt_of_lt_of_le ha few) (lt_of_lt_of_le hb few) ∙ sym is ∙ z)
        (e ∙ ap (λ v. within n (bit_of v) (bit_of (get_or t a 0))) y ∙ within_by_words n w few small.fits t b a hb ha)

    pub pair_yields : p ≡ false → x ≡ without (get_or t a 0) w → r ≡ within n (bit_of x) (bit_of (get_or t b 0)) → r ≡ level_pair (operators_by n w) (closes_in t) a b
    unfolding level_pair
    pair_yields z y e =
        rw (comes_by n w b hb ∙ ap not (sym kind ∙ comer), closes_bit t a b (lt_of_lt_of_le ha few) (lt_of_lt_of_le hb few) ∙ sym is ∙ z)
        (e ∙ ap (λ v. within n (bit_of v) (bit_of (get_or t b 0))) y ∙ within_by_words n w few small.fits t a b ha hb)

pub ruleset pair_ways = (pair_prefix, pair_closes, pair_yields, rules)

-- ---- verdict
module _ (ops : Operators) (L R : ℕ → ℕ → Bool) {p : Bool} (safe_is : p ≡ safe ops L R) where
  pub number_dead : p ≡ false → 4 ≡ rules_number ops L R
  unfolding rules_number
  number_dead y = rw (sym safe_is ∙ y)

module _ (ops : Operators) (L R : ℕ → ℕ → Bool) {p q : Bool} (safe_is : p ≡ safe ops L R) (y : p ≡ true) (total_is : q ≡ total ops L R) where
  pub number_open : q ≡ false → 5 ≡ rules_number ops L R
  unfolding rules_number
  number_open x = rw (sym safe_is ∙ y, sym total_is ∙ x)

  pub number_uneven : {l : Bool} → q ≡ true → l ≡ level ops R → l ≡ false → 5 ≡ rules_number ops L R
  unfolding rules_number
  number_uneven x level_is v = rw (sym safe_is ∙ y, sym total_is ∙ x, sym level_is ∙ v)

  pub number_none : {l : Bool} → q ≡ true → l ≡ level ops R → l ≡ true → 0 ≡ rules_number ops L R
  unfolding rules_number
  number_none x level_is v = rw (sym safe_is ∙ y, sym total_is ∙ x, sym level_is ∙ v)

pub ruleset number_ways = (number_dead, number_open, number_uneven, number_none, not-true, not-false, rules)
