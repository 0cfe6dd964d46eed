-- The binding powers of an accepted sheet tell which operator closes before which: its infix operators are a ladder of levels. Assumes nothing.
use Prim.Native.Nat.{ℕ, ◌+◌, ◌*◌, ◌<◌, ◌≤◌}
use native.Mathlib.Omega.{arith}
use mathlib.Core.Path.{◌≡◌, refl, ap, sym, ◌∙◌}
use mathlib.Core.Bool.{Bool, true, false, true≢false}
use mathlib.Core.Logic.{◌↔◌, ◌⊎◌, inl, inr}
use mathlib.Core.List.{List}
use Rattle.expression.specs.Limits.{most_operators}
use Rattle.expression.specs.Refusal.{accepted}
use Rattle.expression.specs.Token.{Infix, Operators, class}
use Rattle.expression.proofs.Classes.{infix_byte}
use Rattle.disambiguation.specs.Rules.{Rule, R}
use Rattle.disambiguation.specs.Verdict.{verdict}
use Rattle.disambiguation.specs.Powers.{above, below, left_power, right_power, InLevel, WhollyAbove, WhollyLeft, WhollyRight, Ladder}
use Rattle.disambiguation.proofs.Conditions.{Transitive, Cotransitive}
use Rattle.disambiguation.proofs.TestsDecide.{level_transitive, level_cotransitive}
use Rattle.disambiguation.proofs.Accepted.{accepted_passes}
use Rattle.disambiguation.proofs.Counts.{count_same, count_less, count_most}
use Rattle.disambiguation.proofs.Standing.{many, not_below_itself, Standing, higher, lower, beside, standing}

-- powers by relations that agree
pub left_same : (ops : Operators) (closes other : ℕ → ℕ → Bool) → ((a b : ℕ) → closes a b ≡ other a b) → (a : ℕ) → left_power ops closes a ≡ left_power ops other a
unfolding left_power below
left_same ops closes other same a =
    ap (λ (m : ℕ). 2 + 2 * m) (count_same most_operators (below ops closes a) (below ops other a) (λ c _. rw (same a c, same c a)))

pub right_same : (ops : Operators) (closes other : ℕ → ℕ → Bool) → ((a b : ℕ) → closes a b ≡ other a b) → (a : ℕ) → right_power ops closes a ≡ right_power ops other a
unfolding right_power
right_same ops closes other same a = rw (same a a, left_same ops closes other same a)

module _ (ops : Operators) (closes : ℕ → ℕ → Bool) where
  left_is : (a : ℕ) → left_power ops closes a ≡ 2 + 2 * many ops closes a
  unfolding left_power
  left_is a = refl

  -- the right power of an operator that closes before itself, and of one that does not
  right_as_left : (a : ℕ) → closes a a ≡ true → right_power ops closes a ≡ left_power ops closes a
  unfolding right_power
  right_as_left a e = rw e

  right_one_less : (a : ℕ) → closes a a ≡ false → right_power ops closes a + 1 ≡ left_power ops closes a
  unfolding right_power
  right_one_less a e = rw e (omega (arith, left_is a))

  record Near (a : ℕ) : Type 0 where
    at_most : right_power ops closes a ≤ left_power ops closes a
    at_least : left_power ops closes a ≤ right_power ops closes a + 1

  near : (a : ℕ) → Near a
  near a = go (closes a a) refl
    where
      go : (x : Bool) → closes a a ≡ x → Near a
      go true e = record { at_most = omega (arith, right_as_left a e); at_least = omega (arith, right_as_left a e) }
      go false e = record { at_most = omega (arith, right_one_less a e); at_least = omega (arith, right_one_less a e) }

  pub positive : (a : ℕ) → 1 ≤ right_power ops closes a
  positive a = omega (arith, left_is a, (near a).at_least)

  -- an operator lies above 31 others at most
  pub at_most_64 : (a : ℕ) → class ops a ≡ Infix → left_power ops closes a ≤ 64
  at_most_64 a h =
      omega (
        arith,
        left_is a,
        count_less most_operators (below ops closes a) (λ c. true) (λ c e. refl) a (infix_byte ops a h).0 (not_below_itself ops closes a) refl,
        count_most most_operators (λ c. true),
      )

  module _ (trans : Transitive closes (class ops)) (cotrans : Cotransitive closes (class ops)) where
    stands : (a b : ℕ) → class ops a ≡ Infix → class ops b ≡ Infix → Standing ops closes a b
    stands = standing ops closes trans cotrans

    decides : (a b : ℕ) → class ops a ≡ Infix → class ops b ≡ Infix → (closes a b ≡ true) ↔ (left_power ops closes b ≤ right_power ops closes a)
    decides a b ha hb = go (stands a b ha hb)
      where
        go : Standing ops closes a b → (closes a b ≡ true) ↔ (left_power ops closes b ≤ right_power ops closes a)
        go (higher ab ba m) = (λ _. omega (arith, left_is a, left_is b, (near a).at_least), λ _. ab)
        go (lower ab ba m) = (λ e. absurd (true≢false (sym e ∙ ab)), λ l. absurd (omega (arith, left_is a, left_is b, (near a).at_most)))
        go (beside true ab aa bb m) = (λ _. omega (arith, left_is a, left_is b, right_as_left a aa), λ _. ab)
        go (beside false ab aa bb m) = (λ e. absurd (true≢false (sym e ∙ ab)), λ l. absurd (omega (arith, left_is a, left_is b, right_one_less a aa)))

    steps : (p q : ℕ) → q < p → WhollyAbove ops closes p q
    steps p q h a c (ha, ea) (hc, ec) = go (stands a c ha hc)
      where
        go : Standing ops closes a c → above ops closes a c ≡ true
        go (higher ac ca m) = rw (ac, ca)
        go (lower ac ca m) = absurd (omega (arith, left_is a, left_is c))
        go (beside x ac aa cc m) = absurd (omega (arith, left_is a, left_is c))

    -- in one level, what an operator does with itself, all do with all
    alike : (a b : ℕ) → class ops a ≡ Infix → class ops b ≡ Infix → left_power ops closes a ≡ left_power ops closes b → (closes a b ≡ closes a a) × (closes b b ≡ closes a a)
    alike a b ha hb e = go (stands a b ha hb)
      where
        go : Standing ops closes a b → (closes a b ≡ closes a a) × (closes b b ≡ closes a a)
        go (higher ab ba m) = absurd (omega (arith, left_is a, left_is b))
        go (lower ab ba m) = absurd (omega (arith, left_is a, left_is b))
        go (beside x ab aa bb m) = (ab ∙ sym aa, bb ∙ sym aa)

    one_way : (a : ℕ) → class ops a ≡ Infix → WhollyLeft ops closes (left_power ops closes a) ⊎ WhollyRight ops closes (left_power ops closes a)
    one_way a ha = go (closes a a) refl
      where
        same : (b c : ℕ) → InLevel ops closes (left_power ops closes a) b → InLevel ops closes (left_power ops closes a) c → closes b c ≡ closes a a
        same b c (hb, eb) (hc, ec) = (alike b c hb hc (eb ∙ sym ec)).0 ∙ (alike a b ha hb (sym eb)).1

        go : (x : Bool) → closes a a ≡ x → WhollyLeft ops closes (left_power ops closes a) ⊎ WhollyRight ops closes (left_power ops closes a)
        go true e = inl (λ b c hb hc. same b c hb hc ∙ e)
        go false e = inr (λ b c hb hc. same b c hb hc ∙ e)

    ladder_of : Ladder ops closes
    ladder_of = record { decides = decides; steps = steps; one_way = one_way; least = positive; most = λ a h. ((near a).at_most, at_most_64 a h) }

pub ladder : (ops : Operators) (rules : List Rule) → verdict ops rules ≡ accepted → Ladder ops (R rules)
ladder ops rules e =
    let p = accepted_passes ops rules e in
    ladder_of ops (R rules) (level_transitive ops (R rules) p.is_level) (level_cotransitive ops (R rules) p.is_level)
