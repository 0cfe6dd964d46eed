-- Other rules with a prefix operator exclude nothing. Assumes nothing.
use Prim.Native.Nat.{ℕ}
use native.Mathlib.Omega.{arith}
use mathlib.Core.Path.{◌≡◌, refl, ap, ap₂, sym, ◌∙◌}
use mathlib.Core.Bool.{Bool, true, false, ◌&&◌, ◌||◌, true≢false}
use mathlib.Core.Logic.{inl, inr}
use mathlib.Core.List.{List, [], ◌∷◌, ◌++◌}
use lib.Dec.{eqb}
use borrow.Author.Tests.{eq-eqb, ne_eqb}
use Rattle.expression.specs.Token.{Infix, Prefix, Operators, class}
use Rattle.expression.proofs.Tests.{or_middle}
use Rattle.disambiguation.specs.Rules.{Rule, priority, left, right, says, written, leads, L, R}
use Rattle.disambiguation.specs.OtherRules.{JudgeAlike, AgreeOnShown, SideWithPrefix, OverAmongPrefix, OtherRules}
use Rattle.disambiguation.proofs.Free.{is_false}
use Rattle.disambiguation.proofs.Chains.{chain_within}
use Rattle.disambiguation.proofs.LeadsDecided.{leads_exactly_if}
use Rattle.disambiguation.proofs.JudgeAlike.{along_right, top, judge_alike}

and_none : (x : Bool) → (x && false) ≡ false
and_none true = refl
and_none false = refl

or_none : (x : Bool) → (x || false) ≡ x
or_none true = refl
or_none false = refl

bool_same : (x y : Bool) → (x ≡ true → y ≡ true) → (y ≡ true → x ≡ true) → x ≡ y
bool_same true y f g = sym (f refl)
bool_same false true f g = g refl
bool_same false false f g = refl

-- ---- it does not matter where a rule stands
module _ (r : Rule) (before after : List Rule) where
  abbrev there : List Rule
  there = before ++ r ∷ after

  abbrev front : List Rule
  front = r ∷ (before ++ after)

  moved : (kind a b : ℕ) → written kind there a b ≡ written kind front a b
  moved kind a b = go before
    where
      go : (xs : List Rule) → written kind (xs ++ r ∷ after) a b ≡ written kind (r ∷ (xs ++ after)) a b
      go [] = refl
      go (x ∷ xs) = ap (λ (y : Bool). says kind a b x || y) (go xs) ∙ or_middle (says kind a b x) (says kind a b r) (written kind (xs ++ after) a b)

  moved_leads : (a b : ℕ) → leads there a b ≡ leads front a b
  moved_leads a b =
      bool_same (leads there a b) (leads front a b)
      (λ e. (leads_exactly_if front a b).1 (chain_within (written priority front) (λ x y s. sym (moved priority x y) ∙ s) ((leads_exactly_if there a b).0 e)))
      (λ e. (leads_exactly_if there a b).1 (chain_within (written priority there) (λ x y s. moved priority x y ∙ s) ((leads_exactly_if front a b).0 e)))

  -- what a rule in front leaves as it was, it leaves wherever it stands
  anywhere : (ops : Operators) → AgreeOnShown ops front (before ++ after) → AgreeOnShown ops there (before ++ after)
  unfolding L R
  anywhere ops agree =
      record {
        in_left_operand = λ a b h. ap₂ ◌||◌ (moved_leads a b) (moved right a b) ∙ agree.in_left_operand a b h;
        in_right_operand = λ a b h. ap₂ ◌||◌ (moved_leads a b) (moved left a b) ∙ agree.in_right_operand a b h;
      }

-- ---- rules in front that give no pattern that is shown
-- a prefix operator is no infix one
apart : (ops : Operators) (p a : ℕ) → class ops p ≡ Prefix → class ops a ≡ Infix → eqb p a ≡ false
apart ops p a hp ha = ne_eqb p a (λ e. let clash : ◌≡◌ {A = ℕ} 0 1 = clash_of (sym hp ∙ ap (class ops) e ∙ ha) in omega arith)
  where
    clash_of : Prefix ≡ Infix → ◌≡◌ {A = ℕ} 0 1
    clash_of e = cc

module _ (ops : Operators) (r : Rule) (rules : List Rule) where
  -- a rule of another kind, or one that names other operators
  other_kind : (kind a b : ℕ) → eqb r.kind kind ≡ false → written kind (r ∷ rules) a b ≡ written kind rules a b
  other_kind kind a b e = rw e refl

  other_first : (kind a b : ℕ) → eqb r.first a ≡ false → written kind (r ∷ rules) a b ≡ written kind rules a b
  other_first kind a b e = rw e (ap (λ (x : Bool). x || written kind rules a b) (and_none (eqb r.kind kind)))

  other_second : (kind a b : ℕ) → eqb r.second b ≡ false → written kind (r ∷ rules) a b ≡ written kind rules a b
  other_second kind a b e =
      rw e (ap (λ (x : Bool). (eqb r.kind kind && x) || written kind rules a b) (and_none (eqb r.first a))
      ∙ ap (λ (x : Bool). x || written kind rules a b) (and_none (eqb r.kind kind)))

  -- whether a chain goes from a to b through the rule; where none does, it leads nowhere
  abbrev through : ℕ → ℕ → Bool
  through a b = eqb r.kind priority && ((eqb a r.first || leads rules a r.first) && (eqb r.second b || leads rules r.second b))

  no_step : (a b : ℕ) → through a b ≡ false → leads (r ∷ rules) a b ≡ leads rules a b
  no_step a b e = ap (λ (x : Bool). leads rules a b || x) e ∙ or_none (leads rules a b)

  side_alone : (a b : ℕ) → eqb r.kind priority ≡ false → leads (r ∷ rules) a b ≡ leads rules a b
  side_alone a b e = no_step a b (rw e refl)

  sides_in_front : SideWithPrefix ops r → AgreeOnShown ops (r ∷ rules) rules
  unfolding L R
  sides_in_front (inl (kind, p)) =
      record {
        in_left_operand = λ a b _. ap₂ ◌||◌ (side_alone a b (rw kind refl)) (other_kind right a b (rw kind refl));
        in_right_operand = λ a b h. ap₂ ◌||◌ (side_alone a b (rw kind refl)) (other_second left a b (apart ops r.second b p h));
      }
  sides_in_front (inr (kind, p)) =
      record {
        in_left_operand = λ a b h. ap₂ ◌||◌ (side_alone a b (rw kind refl)) (other_first right a b (apart ops r.first a p h));
        in_right_operand = λ a b _. ap₂ ◌||◌ (side_alone a b (rw kind refl)) (other_kind left a b (rw kind refl));
      }

  priority_in_front : OverAmongPrefix ops rules r → AgreeOnShown ops (r ∷ rules) rules
  unfolding L R
  priority_in_front o =
      record {
        in_left_operand = λ a b h. ap₂ ◌||◌ (no_step a b (none_to a b h)) (other_kind right a b (rw o.over refl));
        in_right_operand = λ a b h. ap₂ ◌||◌ (no_step a b (none_on a b h)) (other_kind left a b (rw o.over refl));
      }
    where
      not_first : (a : ℕ) → class ops a ≡ Infix → eqb a r.first ≡ false
      not_first a h = ne_eqb a r.first (λ e. true≢false (sym (eq-eqb r.first a (sym e)) ∙ apart ops r.first a o.first_prefix h))

      none_first : (a : ℕ) → class ops a ≡ Infix → leads rules a r.first ≡ false
      none_first a h = is_false (leads rules a r.first) (λ e. o.none_to a h ((leads_exactly_if rules a r.first).0 e))

      none_second : (c : ℕ) → class ops c ≡ Infix → leads rules r.second c ≡ false
      none_second c h = is_false (leads rules r.second c) (λ e. o.none_on c h ((leads_exactly_if rules r.second c).0 e))

      none_to : (a b : ℕ) → class ops a ≡ Infix → through a b ≡ false
      none_to a b h = rw (not_first a h, none_first a h) (and_none (eqb r.kind priority))

      none_on : (a c : ℕ) → class ops c ≡ Infix → through a c ≡ false
      none_on a c h =
          rw (apart ops r.second c o.second_prefix h, none_second c h)
          (ap (λ (x : Bool). eqb r.kind priority && x) (and_none (eqb a r.first || leads rules a r.first)) ∙ and_none (eqb r.kind priority))

-- ---- together
module _ (ops : Operators) (before after : List Rule) (r : Rule) where
  sides : SideWithPrefix ops r → JudgeAlike ops (before ++ r ∷ after) (before ++ after)
  sides h = judge_alike ops (before ++ r ∷ after) (before ++ after) (anywhere r before after ops (sides_in_front ops r (before ++ after) h))

  priorities : OverAmongPrefix ops (before ++ after) r → JudgeAlike ops (before ++ r ∷ after) (before ++ after)
  priorities h = judge_alike ops (before ++ r ∷ after) (before ++ after) (anywhere r before after ops (priority_in_front ops r (before ++ after) h))

pub other_rules : (ops : Operators) → OtherRules ops
other_rules ops =
    record {
      seen = λ t h. record { top = top t; along_right = along_right (class ops) t h };
      agreeing = judge_alike ops;
      sides = sides ops;
      priorities = priorities ops;
    }
