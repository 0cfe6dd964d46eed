-- Operations on words under a mask decide the tests of sets, and these the tests of a relation. Assumes nothing.
use mathlib.Core.Path.{◌≡◌, refl, sym, ap, ap₂, ◌∙◌}
use mathlib.Core.Bool.{Bool, true, false, not, ◌&&◌, ◌||◌}
use mathlib.Core.List.{List}
use Prim.Native.Nat.{ℕ, ◌-◌, ◌^◌, ◌<◌, ◌≤◌}
use native.Mathlib.Nat.{lt_of_lt_of_le}
use native.Mathlib.Decide.{dec_lt}
use native.Mathlib.Omega.{arith}
use borrow.Author.Tests.{lt-ltb, ltb-true}
use lib.Bits.{bit_and, bit_or, or_lt}
use lib.Dec.{eqb, ltb}
use lib.ListN.{get_or, get_or-replicate}
use Rattle.expression.specs.Limits.{most_operators}
use Rattle.disambiguation.specs.Verdict.{comers, within}
use Rattle.disambiguation.proofs.BelowLaws.{and_true, all_same}
use Rattle.relation.specs.Relation.{sheet_words, fresh, bit_of, closes_in, turned}
use Rattle.relation.specs.Words.{operators_by, without}
use Rattle.relation.specs.Tests.{none_in_both, each_in_one, safe_for, total_for}
use Rattle.relation.proofs.Bits.{bit_and_lem, bit_or_lem, bit_not, bit_zero, masked_clear}
use Rattle.relation.proofs.WordSets.{comes_by, bit_without}

not_not : (p : Bool) → not (not p) ≡ p
not_not true = refl
not_not false = refl

not_but : (p q : Bool) → not (p && not q) ≡ (not p || q)
not_but true q = not_not q
not_but false q = refl

-- no bit below n in both words
pub both_masked : (n x y : ℕ) → eqb (bit_and (bit_and x y) (2 ^ n - 1)) 0 ≡ none_in_both n (bit_of x) (bit_of y)
unfolding none_in_both
both_masked n x y = masked_clear n (bit_and x y) ∙ all_same _ _ n (λ c l. ap not (bit_and_lem x y c))

-- In words of w bits.
module _ (w n x y : ℕ) (fits : n ≤ w) where
  -- each bit below n in one of the words
  pub one_masked : x < 2 ^ w → y < 2 ^ w → eqb (bit_and ((2 ^ w - 1) - bit_or x y) (2 ^ n - 1)) 0 ≡ each_in_one n (bit_of x) (bit_of y)
  unfolding each_in_one
  one_masked hx hy =
      masked_clear n ((2 ^ w - 1) - bit_or x y)
      ∙ all_same _ _ n
      (λ c l. ap not (bit_not w (bit_or x y) c (or_lt w x y hx hy) (lt_of_lt_of_le l fits) ∙ ap not (bit_or_lem x y c)) ∙ not_not (bit_of x c || bit_of y c))

  -- each bit below n of x in y
  pub within_masked : y < 2 ^ w → eqb (bit_and (bit_and x ((2 ^ w - 1) - y)) (2 ^ n - 1)) 0 ≡ within n (bit_of x) (bit_of y)
  unfolding within
  within_masked hy =
      masked_clear n (bit_and x ((2 ^ w - 1) - y))
      ∙ all_same _ _ n
      (λ c l. ap not (bit_and_lem x ((2 ^ w - 1) - y) c ∙ ap (λ (p : Bool). bit_of x c && p) (bit_not w y c hy (lt_of_lt_of_le l fits))) ∙ not_but (bit_of x c) (bit_of y c))

-- the relation at two operators is a bit
pub closes_bit : (t : List ℕ) (a b : ℕ) → a < most_operators → b < most_operators → closes_in t a b ≡ bit_of (get_or t a 0) b
unfolding closes_in
closes_bit t a b h k = rw (lt-ltb a most_operators h, lt-ltb b most_operators k)

-- no operator is 32 or more
pub closes_below : (sheet : List ℕ) (a b : ℕ) → closes_in sheet a b ≡ true → (a < most_operators) × (b < most_operators)
unfolding closes_in
closes_below sheet a b e =
    let (x, rest) = and_true (ltb a most_operators) (ltb b most_operators && bit_of (get_or sheet a 0) b) e in
    (ltb-true a most_operators x, ltb-true b most_operators (and_true (ltb b most_operators) _ rest).0)

pub as_false : (p : Bool) → (p ≡ true → ⊥) → p ≡ false
as_false true h = absurd (h refl)
as_false false h = refl

-- so a relation of operators that a sheet has at each pair of them is the sheet's
pub closes_everywhere : (sheet : List ℕ) (pairs : ℕ → ℕ → Bool) → ((a b : ℕ) → pairs a b ≡ true → (a < most_operators) × (b < most_operators))
    → ((a b : ℕ) → a < most_operators → b < most_operators → closes_in sheet a b ≡ pairs a b) → (a b : ℕ) → closes_in sheet a b ≡ pairs a b
closes_everywhere sheet pairs below is a b = go (dec_lt a most_operators) (dec_lt b most_operators)
  where
    beyond : ((a < most_operators) × (b < most_operators) → ⊥) → closes_in sheet a b ≡ pairs a b
    beyond h = as_false (closes_in sheet a b) (λ e. h (closes_below sheet a b e)) ∙ sym (as_false (pairs a b) (λ e. h (below a b e)))

    go : Dec (a < most_operators) → Dec (b < most_operators) → closes_in sheet a b ≡ pairs a b
    go (yes p) (yes q) = is a b p q
    go (yes p) (no q) = beyond (λ h. q h.1)
    go (no p) q = beyond (λ h. p h.0)

pub closes_blank : (x y : ℕ) → x < most_operators → y < most_operators → closes_in fresh x y ≡ false
closes_blank x y hx hy =
    closes_bit fresh x y hx hy ∙ ap (λ (w : ℕ). bit_of w y) (get_or-replicate {A = ℕ} sheet_words x 0 0 (omega arith)) ∙ bit_zero y

-- The tests of a relation, of the words of one operator or two. The word w has the prefix operators.
module _ (n w : ℕ) (few : n ≤ most_operators) (small : w < 2 ^ 32) where
  pub bits : (t : List ℕ) (a b : ℕ) → a < n → b < n → bit_of (get_or t a 0) b ≡ closes_in t a b
  bits t a b h l = sym (closes_bit t a b (lt_of_lt_of_le h few) (lt_of_lt_of_le l few))

  -- a row without the prefix operators
  pub bits_without : (t : List ℕ) (a b : ℕ) → a < n → b < n → bit_of (without (get_or t a 0) w) b ≡ comers (operators_by n w) (closes_in t a) b
  bits_without t a b h l = bit_without (get_or t a 0) w b small (lt_of_lt_of_le l few) ∙ ap₂ ◌&&◌ (bits t a b h l) (sym (comes_by n w b l))

  module _ (t u : List ℕ) (a : ℕ) (h : a < n) where
    pub safe_by_words : none_in_both n (bit_of (without (get_or t a 0) w)) (bit_of (get_or u a 0)) ≡ safe_for (operators_by n w) (turned (closes_in u)) (closes_in t) a
    unfolding safe_for none_in_both
    safe_by_words = all_same _ _ n (λ b l. ap₂ (λ (p q : Bool). not (p && q)) (bits_without t a b h l) (bits u a b h l))

    pub total_by_words : each_in_one n (bit_of (bit_or (get_or t a 0) w)) (bit_of (get_or u a 0)) ≡ total_for (operators_by n w) (turned (closes_in u)) (closes_in t) a
    unfolding total_for each_in_one
    total_by_words =
        all_same _ _ n
        (λ b l. ap₂ ◌||◌ (bit_or_lem (get_or t a 0) w b ∙ ap₂ ◌||◌ (bits t a b h l) (sym (ap not (comes_by n w b l) ∙ not_not (bit_of w b)))) (bits u a b h l))

  pub within_by_words : (t : List ℕ) (a b : ℕ) → a < n → b < n
      → within n (bit_of (without (get_or t a 0) w)) (bit_of (get_or t b 0)) ≡ within n (comers (operators_by n w) (closes_in t a)) (closes_in t b)
  unfolding within
  within_by_words t a b ha hb = all_same _ _ n (λ c l. ap₂ (λ (p q : Bool). not p || q) (bits_without t a c ha l) (bits t b c hb l))
