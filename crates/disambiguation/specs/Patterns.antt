-- Which patterns a sheet's rules exclude, in terms of its rules and of chains of priority alone. Assumes nothing.
use Rattle.std.specs.Prelude.{ℕ, ◌≡◌, true, ◌↔◌, ◌⊎◌, List}
use Rattle.disambiguation.specs.Rules.{Rule, left, right, written, Leads, L, R}

-- Priority gives both patterns wherever one or more priority rules lead from a to c; right gives the one and left the other as written, and nothing else gives any.
pub record Patterns (rules : List Rule) : Type 0 where
  pub in_left_operand : (a c : ℕ) → (L rules a c ≡ true) ↔ (Leads rules a c ⊎ (written right rules a c ≡ true))
  pub in_right_operand : (a c : ℕ) → (R rules a c ≡ true) ↔ (Leads rules a c ⊎ (written left rules a c ≡ true))
