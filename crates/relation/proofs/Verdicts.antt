-- The verdict depends on the relations below n alone. Assumes nothing.
use mathlib.Core.Path.{◌≡◌, ap, ap₂, ◌∙◌}
use mathlib.Core.Bool.{Bool, not, ◌&&◌, ◌||◌, cond}
use Prim.Native.Nat.{ℕ, ◌<◌}
use Rattle.expression.specs.Token.{Operators}
use Rattle.disambiguation.specs.Verdict.{comes, comers, safe, total, within, level}
use Rattle.disambiguation.proofs.BelowLaws.{all_same}
use Rattle.relation.specs.Tests.{rules_number}

-- Relations that agree on the operators.
module _ (ops : Operators) (L L' R R' : ℕ → ℕ → Bool) (same_L : (a b : ℕ) → a < ops.count → b < ops.count → L a b ≡ L' a b)
    (same_R : (a b : ℕ) → a < ops.count → b < ops.count → R a b ≡ R' a b) where
  abbrev n : ℕ
  n = ops.count

  pub safe_same : safe ops L R ≡ safe ops L' R'
  unfolding safe
  safe_same = all_same _ _ n (λ a ha. all_same _ _ n (λ b hb. ap₂ (λ (p q : Bool). not ((p && comes ops b) && q)) (same_R a b ha hb) (same_L b a hb ha)))

  pub total_same : total ops L R ≡ total ops L' R'
  unfolding total
  total_same = all_same _ _ n (λ a ha. all_same _ _ n (λ b hb. ap₂ (λ (p q : Bool). (p || not (comes ops b)) || q) (same_R a b ha hb) (same_L b a hb ha)))

  within_same : (a b : ℕ) → a < n → b < n → within n (comers ops (R a)) (R b) ≡ within n (comers ops (R' a)) (R' b)
  unfolding within
  within_same a b ha hb = all_same _ _ n (λ c hc. ap₂ (λ (p q : Bool). not (p && comes ops c) || q) (same_R a c ha hc) (same_R b c hb hc))

  pub level_same : level ops R ≡ level ops R'
  unfolding level
  level_same =
      all_same _ _ n
      (λ a ha. all_same _ _ n
      (λ b hb. ap (λ (p : Bool). not (comes ops b) || cond p (within n (comers ops (R b)) (R a)) (within n (comers ops (R a)) (R b))) (same_R a b ha hb)
      ∙ ap₂ (λ (p q : Bool). not (comes ops b) || cond (R' a b) p q) (within_same b a hb ha) (within_same a b ha hb)))

  pub number_same : rules_number ops L R ≡ rules_number ops L' R'
  unfolding rules_number
  number_same = rw (safe_same, total_same, level_same)
