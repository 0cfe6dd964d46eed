-- The checks of a staging and of a switch give the number that the conditions mean: lengths, kinds and rules, the rows of any length, and the slots. Assumes nothing.
use Prim.Native.Nat.{ℕ, ◌%◌, ◌<◌, ◌≤◌}
use native.Mathlib.Omega.{arith}
use mathlib.Core.Path.{◌≡◌, refl, ap, sym, subst, ◌∙◌}
use mathlib.Core.Bool.{Bool, true, false, not, ◌&&◌, ◌||◌, cond, or_assoc, true≢false}
use mathlib.Core.Logic.{◌⊎◌, inl, inr}
use mathlib.Core.Option.{Option, none, some, none-ne-some, some_inj}
use mathlib.Core.List.{List, [], ◌∷◌}
use lib.Dec.{eqb, ltb}
use lib.ListN.{length, drop}
use borrow.Author.Tests.{ltb-false, eqb-true, eq-eqb, not-true, not-false}
use Rattle.expression.specs.Lists.{any_holds}
use Rattle.expression.specs.Limits.{most_operators, most_rules, most_rule_bytes, bytes_of_rule}
use Rattle.expression.specs.Refusal.{first, accepted, oversize, torn, stranger, dead, double, in_use, nothing_staged}
use Rattle.expression.specs.Token.{prefix_kind, Operators, operators, kind_of}
use Rattle.expression.proofs.Tests.{both_false}
use Rattle.disambiguation.specs.Rules.{Rule, priority, right, L, R}
use Rattle.disambiguation.specs.ExactlyOne.{SomeRowHasNone, EveryRowHasOne, SomeRowHasTwo}
use Rattle.disambiguation.specs.Below.{all_below}
use Rattle.disambiguation.specs.Verdict.{safe, total, level, rule_checks, verdict}
use Rattle.disambiguation.specs.SheetChecks.{strange_rule, strange_kind, rules_in, operators_in, sheet_number, list_number}
use Rattle.disambiguation.proofs.BelowLaws.{all_below_at, all_below_fails}
use Rattle.disambiguation.proofs.VerdictDecides.{dead_exactly_if, double_exactly_if}
use Rattle.run.specs.Places.{place_count}
use Rattle.run.specs.Call.{stage, stage_list, switch}
use Rattle.run.specs.Panel.{beyond, changed, uses_other}
use Rattle.run.specs.Book.{Sheet, Book, row_in, slot_row, noted_number, book_number}
use Rattle.run.specs.Meaning.{When, Accepted, SomeOf, StrangeKind, StrangeRule, OfSheet, UsesOther, Means}
use Rattle.run.proofs.Meanings.{Decides, when, decides_or, decides_and, decides_not, decides_less, decides_not_less, decides_some}

-- ---- 3: a rule's kind and operators
decides_strange : (n : ℕ) (r : Rule) → Decides (strange_rule n r) (StrangeRule n r)
decides_strange n r =
    subst (λ x. Decides x (StrangeRule n r)) (sym (or_assoc (low || high) first_out second_out ∙ or_assoc low high (first_out || second_out)))
    (decides_or low (high || (first_out || second_out)) (decides_less r.kind priority)
    (decides_or high (first_out || second_out) (decides_less right r.kind)
    (decides_or first_out second_out (decides_not_less r.first n) (decides_not_less r.second n))))
  where
    low : Bool
    low = ltb r.kind priority

    high : Bool
    high = ltb right r.kind

    first_out : Bool
    first_out = not (ltb r.first n)

    second_out : Bool
    second_out = not (ltb r.second n)

-- ---- 4 and 5: of two checks, which one gives the number
first_of_two : (x y : Bool) → cond x dead (cond y double accepted) ≡ dead → x ≡ true
first_of_two true y e = refl
first_of_two false true e = absurd (omega arith)
first_of_two false false e = absurd (omega arith)

second_of_two : (x y : Bool) → cond x dead (cond y double accepted) ≡ double → y ≡ true
second_of_two true y e = absurd (omega arith)
second_of_two false true e = refl
second_of_two false false e = absurd (omega arith)

module _ (ops : Operators) (rules : List Rule) (few : ops.count ≤ most_operators) where
  -- the tests of 4 and of 5
  abbrev unsafe : Bool
  unsafe = not (safe ops (L rules) (R rules))

  abbrev unsettled : Bool
  unsettled = not (total ops (L rules) (R rules) && level ops (R rules))

  decides_dead : Decides unsafe (SomeRowHasNone ops rules)
  unfolding verdict
  decides_dead = (
    λ e. (dead_exactly_if ops rules few).0 (ap (λ x. cond x dead (cond unsettled double accepted)) e),
    λ h. first_of_two unsafe unsettled ((dead_exactly_if ops rules few).1 h),
  )

  decides_double : unsafe ≡ false → Decides unsettled (EveryRowHasOne ops rules × SomeRowHasTwo ops rules)
  unfolding verdict
  decides_double s = (
    λ e. (double_exactly_if ops rules few).0 (ap (λ x. cond x dead (cond unsettled double accepted)) s ∙ ap (λ y. cond y double accepted) e),
    λ h. second_of_two unsafe unsettled ((double_exactly_if ops rules few).1 h),
  )

-- ---- 11: a slot's row uses an operator beyond n, or one whose kind changes
module _ (b : Book) (new : Operators) where
  abbrev Other : ℕ → Type 0
  Other c = (c < most_operators) × ((new.count ≤ c) ⊎ (kind_of b.operators c ≡ kind_of new c → ⊥))

  abbrev others : List ℕ → Bool
  others = uses_other b.operators new

  abbrev InUse : Type 0
  InUse = UsesOther b new

  decides_other : (c : ℕ) → Decides (beyond new c || changed b.operators new c) (Other c)
  decides_other c = (λ e. to (decided.0 e), λ h. decided.1 (from h))
    where
      small : Bool
      small = ltb c most_operators

      same_kind : Bool
      same_kind = eqb (kind_of b.operators c) (kind_of new c)

      Changed : Type 0
      Changed = kind_of b.operators c ≡ kind_of new c → ⊥

      Apart : Type 0
      Apart = ((c < most_operators) × (new.count ≤ c)) ⊎ ((c < most_operators) × Changed)

      decided : Decides (beyond new c || changed b.operators new c) Apart
      decided =
          decides_or (beyond new c) (changed b.operators new c) (decides_and small (not (ltb c new.count)) (decides_less c most_operators) (decides_not_less c new.count))
          (decides_and small (not same_kind) (decides_less c most_operators)
          (decides_not same_kind (eqb-true (kind_of b.operators c) (kind_of new c), eq-eqb (kind_of b.operators c) (kind_of new c))))

      to : Apart → Other c
      to (inl (l, h)) = (l, inl h)
      to (inr (l, h)) = (l, inr h)

      from : Other c → Apart
      from (l, inl h) = inl (l, h)
      from (l, inr h) = inr (l, h)

  decides_uses : (row : List ℕ) → Decides (others row) (SomeOf Other row)
  unfolding uses_other
  decides_uses row = decides_some (λ c. beyond new c || changed b.operators new c) Other decides_other row

  abbrev unused : ℕ → Bool
  unused k = not (others (slot_row b k))

  used_at : (k : ℕ) → k < place_count → others (slot_row b k) ≡ true → InUse
  used_at k h = go (b.slots k) refl
    where
      go : (slot : Option (List ℕ)) → b.slots k ≡ slot → others (row_in slot) ≡ true → InUse
      go none q e = absurd ((decides_uses []).0 e)
      go (some row) q e = (k, row, h, q, (decides_uses row).0 e)

  pub decides_in_use : Decides (not (all_below place_count unused)) InUse
  decides_in_use = (
    λ e.
        let (k, h, f) = all_below_fails place_count unused (not-true (all_below place_count unused) e) in
        used_at k h (not-false (others (slot_row b k)) f),
    λ u. go u (all_below place_count unused) refl,
  )
    where
      go : InUse → (x : Bool) → all_below place_count unused ≡ x → not x ≡ true
      go u false e = refl
      go (k, row, h, q, s) true e =
          let z : others (slot_row b k) ≡ false = not-true (others (slot_row b k)) (all_below_at place_count unused e k h) in
          absurd (true≢false (sym (ap (λ slot. others (row_in slot)) q ∙ (decides_uses row).1 s) ∙ z))

-- ---- 3, 4 and 5
rules_mean : (new : Operators) (rules : List Rule) → new.count ≤ most_operators
    → OfSheet new rules (first ((any_holds strange_kind new.kinds || any_holds (strange_rule new.count) rules, stranger) ∷ rule_checks new (L rules) (R rules)))
rules_mean new rules few =
    when After3 (any_holds strange_kind new.kinds || any_holds (strange_rule new.count) rules) stranger _
    (decides_or (any_holds strange_kind new.kinds) (any_holds (strange_rule new.count) rules)
    (decides_some strange_kind StrangeKind (λ kind. decides_less prefix_kind kind) new.kinds) (decides_some (strange_rule new.count) (StrangeRule new.count) (decides_strange new.count) rules))
    (λ _. when After4 (unsafe new rules few) dead _ (decides_dead new rules few)
    (λ s. when Accepted (unsettled new rules few) double accepted (decides_double new rules few s) (λ _. refl)))
  where
    After4 : ℕ → Type 0
    After4 = When (EveryRowHasOne new rules × SomeRowHasTwo new rules) double Accepted

    After3 : ℕ → Type 0
    After3 = When (SomeRowHasNone new rules) dead After4

-- ---- a staging, in bytes and with lists
few_operators : (n : ℕ) (y : Bool) → (ltb most_operators n || y) ≡ false → n ≤ most_operators
few_operators n y e = ltb-false most_operators n (both_false (ltb most_operators n) y e).0

module _ (b : Book) (n : ℕ) where
  pub stage_means : (bytes : List ℕ) → Means b (stage n bytes) (book_number b (stage n bytes))
  unfolding sheet_number
  stage_means bytes =
      when (When ((length bytes < n) ⊎ (length (drop n bytes) % bytes_of_rule ≡ 0 → ⊥)) torn (OfSheet (operators_in n bytes) (rules_in n bytes)))
      (ltb most_operators n || ltb most_rule_bytes (length (drop n bytes))) oversize _
      (decides_or (ltb most_operators n) (ltb most_rule_bytes (length (drop n bytes))) (decides_less most_operators n) (decides_less most_rule_bytes (length (drop n bytes))))
      (λ e. when (OfSheet (operators_in n bytes) (rules_in n bytes)) (ltb (length bytes) n || not (eqb (length (drop n bytes) % bytes_of_rule) 0)) torn _
      (decides_or (ltb (length bytes) n) (not (eqb (length (drop n bytes) % bytes_of_rule) 0)) (decides_less (length bytes) n)
      (decides_not (eqb (length (drop n bytes) % bytes_of_rule) 0) (eqb-true (length (drop n bytes) % bytes_of_rule) 0, eq-eqb (length (drop n bytes) % bytes_of_rule) 0)))
      (λ _. rules_mean (operators_in n bytes) (rules_in n bytes) (few_operators n (ltb most_rule_bytes (length (drop n bytes))) e)))

  pub stage_list_means : (kinds : List ℕ) (rules : List Rule) → Means b (stage_list n kinds rules) (book_number b (stage_list n kinds rules))
  unfolding list_number
  stage_list_means kinds rules =
      when (When (length kinds ≡ n → ⊥) torn (OfSheet (operators n kinds) rules)) (ltb most_operators n || ltb most_rules (length rules)) oversize _
      (decides_or (ltb most_operators n) (ltb most_rules (length rules)) (decides_less most_operators n) (decides_less most_rules (length rules)))
      (λ e. when (OfSheet (operators n kinds) rules) (not (eqb (length kinds) n)) torn _
      (decides_not (eqb (length kinds) n) (eqb-true (length kinds) n, eq-eqb (length kinds) n))
      (λ _. rules_mean (operators n kinds) rules (few_operators n (ltb most_rules (length rules)) e)))

-- ---- a switch
pub switch_means : (b : Book) → Means b switch (book_number b switch)
switch_means b = go b.note refl
  where
    Noted : Type 0
    Noted = (s : Sheet) × (b.note ≡ some s) × UsesOther b s.operators

    go : (note : Option Sheet) → b.note ≡ note → When (b.note ≡ none) nothing_staged (When Noted in_use Accepted) (noted_number b note)
    go none e = inl (e, refl)
    go (some s) e = inr (
      λ z. none-ne-some s (sym z ∙ e),
      when Accepted (not (all_below place_count (unused b s.operators))) in_use accepted (
        λ h. (s, e, (decides_in_use b s.operators).0 h),
        λ n. let (t, f, u) = n in (decides_in_use b s.operators).1 (subst (λ (r : Sheet). UsesOther b r.operators) (some_inj.0 (sym f ∙ e)) u),
      )
          (λ _. refl),
    )
