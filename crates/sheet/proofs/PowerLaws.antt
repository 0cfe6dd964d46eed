-- What callers know of binding powers under a sheet in force: they are those of its rules, tell a ladder of levels, and read rows as the rules do. Assumes nothing.
use Prim.Native.Nat.{ℕ, ◌<◌, ◌≤◌}
use native.Mathlib.Omega.{arith}
use mathlib.Core.Path.{◌≡◌, ap, ap₂, ◌∙◌}
use mathlib.Core.Bool.{true, cond}
use mathlib.Core.Logic.{◌↔◌}
use mathlib.Core.Option.{some}
use mathlib.Core.List.{List}
use Rattle.expression.specs.Lists.{All}
use Rattle.expression.specs.Token.{Infix, Prefix, Operators, class}
use Rattle.expression.specs.Tree.{Tree}
use Rattle.disambiguation.specs.Rules.{Rule, R}
use Rattle.disambiguation.specs.Conflicts.{ConflictFreeTree}
use Rattle.disambiguation.specs.Powers.{is_infix, left_power, right_power, Ladder}
use Rattle.disambiguation.specs.ByPowers.{read_by_powers}
use Rattle.disambiguation.proofs.Standing.{not_infix_lem}
use Rattle.disambiguation.proofs.Powers.{left_same, right_same, ladder}
use Rattle.disambiguation.proofs.ByPowers.{reads_conflict_free}
use Rattle.relation.specs.Relation.{closes_in}
use Rattle.sheet.specs.InForce.{InForce}
use Rattle.sheet.specs.BindingPowers.{infix_in, given, not_infix, given_in, powers_in}
use Rattle.sheet.specs.declared.powers.Powers.{Powers}

module _ (sheet : List ℕ) (ops : Operators) (rules : List Rule) (k : InForce sheet ops rules) where
  -- an infix operator has its powers, by the sheet's rules,
  pub powers_given : (a : ℕ) → class ops a ≡ Infix → powers_in sheet a ≡ given (left_power ops (R rules) a) (right_power ops (R rules) a)
  unfolding powers_in given_in infix_in
  powers_given a h =
      ap (λ b. cond b (given_in sheet a) not_infix) (ap (λ m. is_infix (class m a)) k.operators ∙ ap is_infix h)
      ∙ ap (λ m. given (left_power m (closes_in sheet) a) (right_power m (closes_in sheet) a)) k.operators
      ∙ ap₂ given (left_same ops (closes_in sheet) (R rules) k.right a) (right_same ops (closes_in sheet) (R rules) k.right a)

  -- and nothing else has any
  pub powers_refused : (a : ℕ) → (class ops a ≡ Infix → ⊥) → powers_in sheet a ≡ not_infix
  unfolding powers_in infix_in
  powers_refused a h =
      ap (λ b. cond b (given_in sheet a) not_infix)
      (ap (λ m. is_infix (class m a)) k.operators ∙ not_infix_lem (class ops a) h)

  pub ladder_in_force : Ladder ops (R rules)
  ladder_in_force = ladder ops rules k.accepts

  -- the powers that are answered
  abbrev told : ℕ → Powers
  told a = powers_in sheet a

  pub told_decides : (a b : ℕ) → class ops a ≡ Infix → class ops b ≡ Infix → (R rules a b ≡ true) ↔ ((told b).left ≤ (told a).right)
  told_decides a b ha hb = rw (powers_given a ha, powers_given b hb) (ladder_in_force.decides a b ha hb)

  told_positive : (a : ℕ) → class ops a ≡ Infix → 0 < (told a).left
  told_positive a h = rw (powers_given a h) (omega (arith, ladder_in_force.least a, (ladder_in_force.most a h).0))

  pub reads_in_force : (row : List ℕ) → All (λ c. class ops c ≡ Prefix → ⊥) row → (t : Tree) → ConflictFreeTree ops rules row t
      → read_by_powers (class ops) (λ a. (powers_in sheet a).left) (λ a. (powers_in sheet a).right) row ≡ some t
  reads_in_force = reads_conflict_free ops rules k.accepts (λ a. (told a).left) (λ a. (told a).right) told_decides told_positive
