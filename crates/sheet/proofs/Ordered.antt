-- What is known of n and the bytes after it where 1, 2 and 3 do not apply, and what their rules' relations are in words. Assumes nothing.
use mathlib.Core.Path.{◌≡◌}
use mathlib.Core.Bool.{false}
use mathlib.Core.List.{List}
use Prim.Native.Nat.{ℕ, ◌<◌, ◌≤◌}
use native.Mathlib.Nat.{lt_of_lt_of_le}
use native.Mathlib.Omega.{arith}
use borrow.Author.Tests.{ltb-false}
use lib.ListN.{length, drop}
use lib.Dec.{ltb}
use lib.Seq.{length-take-le}
use Rattle.expression.specs.Lists.{any_holds}
use Rattle.expression.specs.Limits.{most_operators, most_rule_bytes}
use Rattle.expression.proofs.Numbers.{Numbered}
use Rattle.expression.proofs.Tests.{both_false}
use Rattle.disambiguation.specs.Rules.{L, R}
use Rattle.disambiguation.specs.SheetChecks.{strange_rule, strange_kind, kinds_in, rules_in, operators_in, order_checks, InOrder}
use Rattle.relation.specs.Relation.{closes_in, turned}
use Rattle.relation.specs.Words.{operators_by}
use Rattle.relation.specs.Relating.{closes_words, yields_words}
use Rattle.relation.proofs.Chaining.{related_is_R, related_is_L}
use Rattle.sheet.specs.Kinds.{prefix_word}
use Rattle.sheet.proofs.PrefixWord.{operators_back}

pub record Ordered (n : ℕ) (bytes : List ℕ) : Type 0 where
  pub few : n ≤ most_operators
  pub as_many : length (kinds_in n bytes) ≡ n
  pub known_kinds : any_holds strange_kind (kinds_in n bytes) ≡ false
  pub plain : any_holds (strange_rule n) (rules_in n bytes) ≡ false

-- none of the checks of order has the number 0
pub order_numbered : (n : ℕ) (bytes : List ℕ) → Numbered (order_checks n bytes)
order_numbered n bytes = ((λ e. omega arith), ((λ e. omega arith), ((λ e. omega arith), tt)))

pub ordered : (n : ℕ) (bytes : List ℕ) → InOrder n bytes → Ordered n bytes
ordered n bytes (size, (pieces, (strangers, _))) =
    let (many, _) = both_false (ltb most_operators n) (ltb most_rule_bytes (length (drop n bytes))) size in
    let (there, _) = both_false (ltb (length bytes) n) _ pieces in
    let (kinds, rules) = both_false (any_holds strange_kind (kinds_in n bytes)) (any_holds (strange_rule n) (rules_in n bytes)) strangers in
    record {
      few = ltb-false most_operators n many;
      as_many = length-take-le n bytes (ltb-false (length bytes) n there);
      known_kinds = kinds;
      plain = rules;
    }

module _ (n : ℕ) (bytes : List ℕ) (k : Ordered n bytes) where
  -- the kinds are read back from the set of the prefix operators,
  pub operators_read : operators_by n (prefix_word (kinds_in n bytes) n) ≡ operators_in n bytes
  operators_read = operators_back n (kinds_in n bytes) k.as_many k.known_kinds

  -- and the patterns from the words
  pub closes_read : (a b : ℕ) → a < n → b < n → closes_in (closes_words n (rules_in n bytes)) a b ≡ R (rules_in n bytes) a b
  closes_read a b ha hb = related_is_R n k.few (rules_in n bytes) k.plain a b (lt_of_lt_of_le ha k.few) (lt_of_lt_of_le hb k.few)

  pub yields_read : (a b : ℕ) → a < n → b < n → turned (closes_in (yields_words n (rules_in n bytes))) a b ≡ L (rules_in n bytes) a b
  yields_read a b ha hb = related_is_L n k.few (rules_in n bytes) k.plain b a (lt_of_lt_of_le hb k.few) (lt_of_lt_of_le ha k.few)
