-- No answer is longer than 22 bytes, so that 10 never comes. Assumes nothing.
use mathlib.Core.Path.{◌≡◌}
use mathlib.Core.Bool.{Bool, true, false, not}
use mathlib.Core.List.{List}
use Prim.Native.Nat.{ℕ, ◌≤◌}
use native.Mathlib.Omega.{arith}
use lib.Dec.{ltb}
use lib.ListN.{length}
use Rattle.expression.specs.Refusal.{first}
use Rattle.expression.specs.Token.{Operators}
use Rattle.expression.proofs.Cond.{by_cond}
use Rattle.expression.proofs.Numbers.{Numbered, first_enough}
use Rattle.disambiguation.specs.Rules.{Rule, L, R}
use Rattle.disambiguation.specs.SheetChecks.{rules_in, operators_in, order_checks}
use Rattle.disambiguation.specs.Verdict.{comes}
use Rattle.disambiguation.specs.Witness.{Witness, no_tree, two_trees, witness_bytes, first_over_pair, last_over_pair, first_over_triple, last_over_triple, first_left, first_right, first_third, uneven_pair, both_exclude, none_excludes, of_triples, witness, witness_of}
use Rattle.witness.specs.Explaining.{most_explained, explain_checks, explained}

abbrev Short : Witness → Type 0
Short w = length (witness_bytes w) ≤ most_explained

-- what is told of a pair, and of three operators
short_none : (is_prefix : Bool) (a b : ℕ) → Short (no_tree (first_over_pair is_prefix a b))
short_none true a b = omega arith
short_none false a b = omega arith

short_two : (is_prefix : Bool) (a b : ℕ) → Short (two_trees (first_over_pair is_prefix a b) (last_over_pair is_prefix a b))
short_two true a b = omega arith
short_two false a b = omega arith

short_three : (is_prefix closes : Bool) (a b c : ℕ) → Short (two_trees (first_over_triple is_prefix a closes b c) (last_over_triple is_prefix a closes b c))
short_three true true a b c = omega arith
short_three true false a b c = omega arith
short_three false true a b c = omega arith
short_three false false a b c = omega arith

module _ (ops : Operators) (rules : List Rule) where
  abbrev dead : ℕ → ℕ → Bool
  dead = both_exclude ops (L rules) (R rules)

  abbrev double : ℕ → ℕ → Bool
  double = none_excludes ops (L rules) (R rules)

  abbrev triple : ℕ → ℕ → Bool
  triple = uneven_pair ops (R rules)

  abbrev left : (ℕ → ℕ → Bool) → ℕ
  left test = first_left ops test

  abbrev right : (ℕ → ℕ → Bool) → ℕ
  right test = first_right ops test (left test)

  abbrev is_prefix : ℕ → Bool
  is_prefix a = not (comes ops a)

  witness_short : Short (witness_of ops rules)
  unfolding witness of_triples
  witness_short =
      by_cond Short (ltb (left dead) ops.count) (λ _. short_none (is_prefix (left dead)) (left dead) (right dead)) (λ _.
      by_cond Short (ltb (left double) ops.count) (λ _. short_two (is_prefix (left double)) (left double) (right double)) (λ _.
      by_cond Short (ltb (left triple) ops.count)
      (λ _. short_three (is_prefix (left triple)) (R rules (left triple) (right triple)) (left triple) (right triple) (first_third ops (R rules) (left triple) (right triple)))
      (λ _. omega arith)))

module _ (n : ℕ) (bytes : List ℕ) where
  pub explained_short : length (explained n bytes) ≤ most_explained
  unfolding explained
  explained_short = witness_short (operators_in n bytes) (rules_in n bytes)

  order_numbered : Numbered (order_checks n bytes)
  order_numbered = (λ e. omega arith, (λ e. omega arith, (λ e. omega arith, tt)))

  -- With room for 22 bytes, the number is one of the sheet's: 1, 2, 3 or 0.
  pub never_short : (room : ℕ) → most_explained ≤ room → first (explain_checks (order_checks n bytes) (explained n bytes) room) ≡ first (order_checks n bytes)
  never_short room h = first_enough (order_checks n bytes) (length (explained n bytes)) room order_numbered (λ _. omega (arith, explained_short))
