-- The verdict on a sheet's rules, in the terms of rows and their conflict-free trees: 4, 5 and 0, each exactly if. Assumes nothing.
use Prim.Native.Nat.{ℕ, ◌≤◌}
use native.Mathlib.Omega.{arith}
use mathlib.Core.Path.{◌≡◌, refl, sym, ◌∙◌}
use mathlib.Core.Bool.{true}
use mathlib.Core.Logic.{◌↔◌}
use mathlib.Core.List.{List}
use Rattle.expression.specs.Limits.{most_operators}
use Rattle.expression.specs.Refusal.{first, accepted, dead, double}
use Rattle.expression.specs.Token.{Operators, class}
use Rattle.expression.specs.Tree.{Tree, yield, Over}
use Rattle.expression.specs.Grammar.{Row}
use Rattle.expression.proofs.Classes.{brackets}
use Rattle.expression.proofs.RowsAndTrees.{row_exactly_if_yielded}
use Rattle.disambiguation.specs.Rules.{Rule, L, R}
use Rattle.disambiguation.specs.Conflicts.{ConflictFreeTree}
use Rattle.disambiguation.specs.ExactlyOne.{HasNone, HasTwo, SomeRowHasNone, EveryRowHasOne, SomeRowHasTwo, EveryRowHasExactlyOne}
use Rattle.disambiguation.specs.Verdict.{safe, total, level, rule_checks, verdict}
use Rattle.disambiguation.specs.Witness.{Witness, sound, no_tree, two_trees, witness_of}
use Rattle.disambiguation.proofs.BelowLaws.{and_true}
use Rattle.disambiguation.proofs.SafeMakes.{makes_safe}
use Rattle.disambiguation.proofs.Unique.{unique}
use Rattle.disambiguation.proofs.Converse.{NoneLike, Twins}
use Rattle.disambiguation.proofs.TestsDecide.{safe_safe, total_total, level_transitive, level_cotransitive}
use Rattle.disambiguation.proofs.Witnesses.{Shows, shows}

module _ (ops : Operators) (rules : List Rule) where
  row_of : (t : Tree) → Over (class ops) t → Row ops (yield t)
  row_of t h = (row_exactly_if_yielded ops (yield t)).1 (t, h, refl)

  pub none_of_row : (t : Tree) → NoneLike (L rules) (R rules) (class ops) t → Row ops (yield t) × HasNone ops rules (yield t)
  none_of_row t (h, none) = (row_of t h, λ u c. none u c.over c.yields c.free)

  pub twin_trees : (t u : Tree) → Twins (L rules) (R rules) (class ops) t u → Row ops (yield t) × ConflictFreeTree ops rules (yield t) t × ConflictFreeTree ops rules (yield t) u
  twin_trees t u w = (
    row_of t w.first_over,
    record { over = w.first_over; yields = refl; free = w.first_free },
    record { over = w.second_over; yields = w.one_row; free = w.second_free },
  )

  two_of_row : (t u : Tree) → Twins (L rules) (R rules) (class ops) t u → Row ops (yield t) × HasTwo ops rules (yield t)
  two_of_row t u w = let (r, ht, hu) = twin_trees t u w in (r, (t, u, ht, hu, w.different))

  pub safe_has_one : safe ops (L rules) (R rules) ≡ true → EveryRowHasOne ops rules
  safe_has_one e row r =
      let (t₀, h, q) = (row_exactly_if_yielded ops row).0 r in
      let (t, m, f) = makes_safe (L rules) (R rules) (class ops) (safe_safe ops (L rules) (R rules) e) (brackets ops) t₀ h in
      (t, record { over = m.over; yields = m.yields_row ∙ q; free = f })

  pub tests_unique : total ops (L rules) (R rules) ≡ true → level ops (R rules) ≡ true → (row : List ℕ) (t u : Tree)
      → ConflictFreeTree ops rules row t → ConflictFreeTree ops rules row u → t ≡ u
  tests_unique e f row t u a b =
      unique (L rules) (R rules) (class ops) (total_total ops (L rules) (R rules) e) (level_transitive ops (R rules) f) (level_cotransitive ops (R rules) f) (brackets ops)
      t u a.over b.over a.free b.free (a.yields ∙ sym b.yields)

  module _ (small : ops.count ≤ most_operators) where
    -- One of three outcomes.
    data Outcome (number : ℕ) : Type 0 where
      is_dead : number ≡ dead → SomeRowHasNone ops rules → Outcome number
      is_double : number ≡ double → EveryRowHasOne ops rules → SomeRowHasTwo ops rules → Outcome number
      is_accepted_lem : number ≡ accepted → EveryRowHasExactlyOne ops rules → Outcome number

    outcome : Outcome (verdict ops rules)
    unfolding verdict
    outcome = go (witness_of ops rules) (shows ops (L rules) (R rules) small)
      where
        go : (w : Witness) → Shows ops (L rules) (R rules) small w → Outcome (first (rule_checks ops (L rules) (R rules)))
        go sound (s, e) =
            let (p, q) = and_true (total ops (L rules) (R rules)) (level ops (R rules)) e in
            rw (s, e) (is_accepted_lem refl (λ row r. let (t, h) = safe_has_one s row r in (t, h, λ u g. tests_unique p q row u t g h)))
        go (no_tree t) (s, like) = rw s (let (r, h) = none_of_row t like in is_dead refl (yield t, r, h))
        go (two_trees t u) (s, e, twins, _) = rw (s, e) (let (r, h) = two_of_row t u twins in is_double refl (safe_has_one s) (yield t, r, h))

    -- the three are of different sheets
    none_or_one : SomeRowHasNone ops rules → EveryRowHasOne ops rules → ⊥
    none_or_one (row, r, none) every = let (t, h) = every row r in none t h

    two_or_one : SomeRowHasTwo ops rules → EveryRowHasExactlyOne ops rules → ⊥
    two_or_one (row, r, (t, u, ht, hu, different)) every = let (v, h, only) = every row r in different (only t ht ∙ sym (only u hu))

    exactly_has_one : EveryRowHasExactlyOne ops rules → EveryRowHasOne ops rules
    exactly_has_one every row r = let (t, h, only) = every row r in (t, h)

    -- 4 exactly if some row over the operators has no conflict-free tree.
    pub dead_exactly_if : (verdict ops rules ≡ dead) ↔ SomeRowHasNone ops rules
    dead_exactly_if = go (verdict ops rules) outcome
      where
        go : (v : ℕ) → Outcome v → (v ≡ dead) ↔ SomeRowHasNone ops rules
        go v (is_dead e none) = (λ _. none, λ _. e)
        go v (is_double e one two) = (λ f. absurd (omega arith), λ none. absurd (none_or_one none one))
        go v (is_accepted_lem e every) = (λ f. absurd (omega arith), λ none. absurd (none_or_one none (exactly_has_one every)))

    -- 5 exactly if every row has one and some row has at least two different ones.
    pub double_exactly_if : (verdict ops rules ≡ double) ↔ (EveryRowHasOne ops rules × SomeRowHasTwo ops rules)
    double_exactly_if = go (verdict ops rules) outcome
      where
        go : (v : ℕ) → Outcome v → (v ≡ double) ↔ (EveryRowHasOne ops rules × SomeRowHasTwo ops rules)
        go v (is_dead e none) = (λ f. absurd (omega arith), λ h. absurd (none_or_one none h.0))
        go v (is_double e one two) = (λ _. (one, two), λ _. e)
        go v (is_accepted_lem e every) = (λ f. absurd (omega arith), λ h. absurd (two_or_one h.1 every))

    -- 0 exactly if every row has exactly one.
    pub accepted_exactly_if : (verdict ops rules ≡ accepted) ↔ EveryRowHasExactlyOne ops rules
    accepted_exactly_if = go (verdict ops rules) outcome
      where
        go : (v : ℕ) → Outcome v → (v ≡ accepted) ↔ EveryRowHasExactlyOne ops rules
        go v (is_dead e none) = (λ f. absurd (omega arith), λ every. absurd (none_or_one none (exactly_has_one every)))
        go v (is_double e one two) = (λ f. absurd (omega arith), λ every. absurd (two_or_one two every))
        go v (is_accepted_lem e every) = (λ _. every, λ _. e)
