-- What each way through telling a witness gives, from what is known on it. Assumes nothing.
use mathlib.Core.Path.{◌≡◌, refl, sym, ap, ap₂, ◌∙◌}
use mathlib.Core.Bool.{Bool, true, false, not, cond}
use mathlib.Core.List.{List}
use Prim.Native.Nat.{ℕ, ◌<◌, ◌≤◌}
use native.Mathlib.Nat.{lt_of_lt_of_le}
use native.Mathlib.Omega.{arith}
use borrow.Author.Tests.{lt-ltb, le-ltb}
use lib.Dec.{ltb}
use lib.ListN.{get_or}
use Rattle.std.specs.Prelude.{Option, Some, None, is_some, MatchOption, IfSome}
use Rattle.expression.specs.Limits.{most_operators}
use Rattle.expression.specs.Token.{Operators}
use Rattle.disambiguation.specs.Verdict.{comes}
use Rattle.disambiguation.specs.Witness.{Witness, sound, no_tree, two_trees, witness_bytes, first_over_pair, last_over_pair, first_over_triple, last_over_triple, first_left, first_right, first_third, uneven_pair, shown_by, none_of, two_of, two_of_three, two_of_uneven, of_triples, both_exclude, none_excludes, witness}
use Rattle.relation.specs.Below.{if_below}
use Rattle.relation.specs.Relation.{bit_of, closes_in, turned}
use Rattle.relation.specs.Words.{operators_by}
use Rattle.relation.proofs.WordSets.{comes_by}
use Rattle.relation.proofs.WordTests.{closes_bit}
use Rattle.witness.proofs.FaultWays.{found_is}

-- a search of a pair, or of a triple: it finds something exactly if there is one
pub pair_some : (n c : ℕ) (r : Option (ℕ × ℕ)) (Q : ℕ × ℕ → Type 0) → MatchOption r (c ≡ n) (λ found. found.0 ≡ c)
    → IfSome r (λ found. (found.0 < n) × Q found) → is_some r ≡ ltb c n
pair_some n c None Q m s = sym (le-ltb c n (omega arith))
pair_some n c (Some found) Q m s = let l : found.0 < n = s.0 in sym (lt-ltb c n (omega arith))

-- ---- the witness by what was found
module _ (ops : Operators) (test : ℕ → ℕ → Bool) (shows : ℕ → ℕ → Witness) (other : Witness) where
  shown : {a b : ℕ} → a ≡ first_left ops test → a < ops.count → b ≡ first_right ops test a → shown_by ops test shows other ≡ shows a b
  shown {a} left h right =
      ap (λ x. cond x (shows (first_left ops test) (first_right ops test (first_left ops test))) other) (ap (λ c. ltb c ops.count) (sym left) ∙ lt-ltb a ops.count h)
      ∙ ap₂ shows (sym left) (ap (first_right ops test) (sym left) ∙ sym right)

  none_shown : first_left ops test ≡ ops.count → shown_by ops test shows other ≡ other
  none_shown h = ap (λ x. cond x (shows (first_left ops test) (first_right ops test (first_left ops test))) other)
      (le-ltb (first_left ops test) ops.count (omega arith))

-- an operator has its bit among the prefix operators
prefix_is : {p : Bool} (n w a : ℕ) → a < n → p ≡ bit_of w a → not (comes (operators_by n w) a) ≡ p
prefix_is n w a h e = ap not (comes_by n w a h) ∙ twice (bit_of w a) ∙ sym e
  where
    twice : (b : Bool) → not (not b) ≡ b
    twice true = refl
    twice false = refl

-- ---- tell_triple
module _ (n w : ℕ) (t : List ℕ) {text : List ℕ} where
  pub sound_told : first_left (operators_by n w) (uneven_pair (operators_by n w) (closes_in t)) ≡ n → text ≡ witness_bytes sound
      → text ≡ witness_bytes (of_triples (operators_by n w) (closes_in t))
  unfolding of_triples
  sound_told none e = e ∙ ap witness_bytes (sym (none_shown (operators_by n w) (uneven_pair (operators_by n w) (closes_in t))
      (two_of_uneven (operators_by n w) (closes_in t)) sound none))

  pub uneven_told : {a b c : ℕ} {p q : Bool} → n ≤ most_operators → a < n → b < n
      → a ≡ first_left (operators_by n w) (uneven_pair (operators_by n w) (closes_in t))
      → b ≡ first_right (operators_by n w) (uneven_pair (operators_by n w) (closes_in t)) a → c ≡ first_third (operators_by n w) (closes_in t) a b
      → p ≡ bit_of w a → q ≡ bit_of (get_or t a 0) b
      → text ≡ witness_bytes (two_trees (first_over_triple p a q b c) (last_over_triple p a q b c))
      → text ≡ witness_bytes (of_triples (operators_by n w) (closes_in t))
  unfolding of_triples
  uneven_told {a} {b} {c} few h l left right third e f told =
      told
      ∙ ap witness_bytes
      (sym (shown (operators_by n w) (uneven_pair (operators_by n w) (closes_in t)) (two_of_uneven (operators_by n w) (closes_in t)) sound left h right
      ∙ ap (two_of_three (operators_by n w) (closes_in t) a b) (sym third)
      ∙ ap₂ (λ x y. two_trees (first_over_triple x a y b c) (last_over_triple x a y b c)) (prefix_is n w a h e)
      (closes_bit t a b (lt_of_lt_of_le h few) (lt_of_lt_of_le l few) ∙ sym f)))

-- ---- tell
module _ (n w : ℕ) (t u : List ℕ) where
  abbrev o : Operators
  o = operators_by n w

  abbrev L : ℕ → ℕ → Bool
  L = turned (closes_in u)

  abbrev R : ℕ → ℕ → Bool
  R = closes_in t

  pub dead_told : {text : List ℕ} {a b : ℕ} {p : Bool} → a < n
      → a ≡ first_left (operators_by n w) (both_exclude (operators_by n w) (turned (closes_in u)) (closes_in t))
      → Some b ≡ if_below n (first_right (operators_by n w) (both_exclude (operators_by n w) (turned (closes_in u)) (closes_in t)) a) → p ≡ bit_of w a
      → text ≡ witness_bytes (no_tree (first_over_pair p a b)) → text ≡ witness_bytes (witness (operators_by n w) (turned (closes_in u)) (closes_in t))
  unfolding witness
  dead_told {a} {b} h left right e told =
      told
      ∙ ap witness_bytes
      (sym (shown o (both_exclude o L R) (none_of o) (shown_by o (none_excludes o L R) (two_of o) (of_triples o R)) left h (found_is n _ right)
      ∙ ap (λ x. no_tree (first_over_pair x a b)) (prefix_is n w a h e)))

  module _ (safe : first_left (operators_by n w) (both_exclude (operators_by n w) (turned (closes_in u)) (closes_in t)) ≡ n) where
    pub double_told : {text : List ℕ} {a b : ℕ} {p : Bool} → a < n
        → a ≡ first_left (operators_by n w) (none_excludes (operators_by n w) (turned (closes_in u)) (closes_in t))
        → Some b ≡ if_below n (first_right (operators_by n w) (none_excludes (operators_by n w) (turned (closes_in u)) (closes_in t)) a) → p ≡ bit_of w a
        → text ≡ witness_bytes (two_trees (first_over_pair p a b) (last_over_pair p a b))
        → text ≡ witness_bytes (witness (operators_by n w) (turned (closes_in u)) (closes_in t))
    unfolding witness
    double_told {a} {b} h left right e told =
        told
        ∙ ap witness_bytes
        (sym (none_shown o (both_exclude o L R) (none_of o) (shown_by o (none_excludes o L R) (two_of o) (of_triples o R)) safe
        ∙ shown o (none_excludes o L R) (two_of o) (of_triples o R) left h (found_is n _ right)
        ∙ ap (λ x. two_trees (first_over_pair x a b) (last_over_pair x a b)) (prefix_is n w a h e)))

    pub triple_told : {text : List ℕ} → first_left (operators_by n w) (none_excludes (operators_by n w) (turned (closes_in u)) (closes_in t)) ≡ n
        → text ≡ witness_bytes (of_triples (operators_by n w) (closes_in t))
        → text ≡ witness_bytes (witness (operators_by n w) (turned (closes_in u)) (closes_in t))
    unfolding witness
    triple_told total told =
        told
        ∙ ap witness_bytes
        (sym (none_shown o (both_exclude o L R) (none_of o) (shown_by o (none_excludes o L R) (two_of o) (of_triples o R)) safe
        ∙ none_shown o (none_excludes o L R) (two_of o) (of_triples o R) total))
