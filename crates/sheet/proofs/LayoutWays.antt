-- What each way through the questions about a lent sheet gives, from what is known on it. Assumes nothing.
use mathlib.Core.Path.{◌≡◌, sym, ap, ◌∙◌}
use mathlib.Core.Bool.{Bool, false, not, ◌&&◌}
use mathlib.Core.List.{List}
use Prim.Native.Nat.{ℕ, ◌%◌, ◌<◌, ◌≤◌}
use borrow.Author.Tests.{lt-ltb, le-ltb}
use borrow.Author.Rules.{rules}
use lib.Dec.{eqb, ltb}
use lib.ListN.{get_or}
use Rattle.expression.specs.Limits.{most_operators}
use Rattle.relation.specs.Relation.{bit_of, closes_in}
use Rattle.relation.proofs.WordTests.{closes_bit}
use Rattle.sheet.specs.Layout.{count_word, prefix_word_at, loaded_word, operators_of, prefix_in, some_prefix, is_loaded}

-- ---- operator_count
pub count_in_word : {words : List ℕ} (sheet : List ℕ) → words ≡ sheet → get_or words count_word 0 % 256 ≡ (operators_of sheet).count
unfolding operators_of
count_in_word sheet e = ap (λ (t : List ℕ). get_or t count_word 0 % 256) e

pub ruleset operator_count_ways = (count_in_word, rules)

-- ---- closes_before
pub first_none : (t : List ℕ) (a b : ℕ) → most_operators ≤ a → false ≡ closes_in t a b
unfolding closes_in
first_none t a b h = simp (le-ltb a most_operators h)

pub second_none : (t : List ℕ) (a b : ℕ) → a < most_operators → most_operators ≤ b → false ≡ closes_in t a b
unfolding closes_in
second_none t a b h k = simp (lt-ltb a most_operators h, le-ltb b most_operators k)

pub both_some : {r : Bool} {words : List ℕ} (t : List ℕ) (a b : ℕ) → words ≡ t → a < most_operators → b < most_operators → r ≡ bit_of (get_or words a 0) b → r ≡ closes_in t a b
both_some t a b v h k e = e ∙ ap (λ (w : List ℕ). bit_of (get_or w a 0) b) v ∙ sym (closes_bit t a b h k)

pub ruleset closes_before_ways = (first_none, second_none, both_some, rules)

-- ---- is_prefix
pub prefix_none : (t : List ℕ) (c : ℕ) → most_operators ≤ c → false ≡ prefix_in t c
unfolding prefix_in
prefix_none t c h = simp (le-ltb c most_operators h)

pub prefix_bit : {r : Bool} {words : List ℕ} (t : List ℕ) (c : ℕ) → words ≡ t → c < most_operators → r ≡ bit_of (get_or words prefix_word_at 0) c → r ≡ prefix_in t c
unfolding prefix_in
prefix_bit t c v h e = rw (lt-ltb c most_operators h) (e ∙ ap (λ (w : List ℕ). bit_of (get_or w prefix_word_at 0) c) v)

pub ruleset is_prefix_ways = (prefix_none, prefix_bit, rules)

-- ---- is_in
pub beyond_set : (x c : ℕ) → most_operators ≤ c → false ≡ (ltb c most_operators && bit_of x c)
beyond_set x c h = simp (le-ltb c most_operators h)

pub bit_in_set : {r : Bool} (x c : ℕ) → c < most_operators → r ≡ bit_of x c → r ≡ (ltb c most_operators && bit_of x c)
bit_in_set x c h e = rw (lt-ltb c most_operators h) e

pub ruleset is_in_ways = (beyond_set, bit_in_set, rules)

-- ---- some_prefix
pub word_some : {words : List ℕ} (t : List ℕ) → words ≡ t → not (eqb (get_or words prefix_word_at 0) 0) ≡ some_prefix t
unfolding some_prefix
word_some t v = ap (λ (w : List ℕ). not (eqb (get_or w prefix_word_at 0) 0)) v

pub ruleset some_prefix_ways = (word_some, rules)

-- ---- is_loaded
pub word_loaded : {words : List ℕ} (t : List ℕ) → words ≡ t → not (eqb (get_or words loaded_word 0) 0) ≡ is_loaded t
unfolding is_loaded
word_loaded t v = ap (λ (w : List ℕ). not (eqb (get_or w loaded_word 0) 0)) v

pub ruleset is_loaded_ways = (word_loaded, rules)
