-- The sheet that operators and their rules put in force, in terms of the excluded patterns. Assumes nothing.
use Rattle.std.specs.Prelude.{ℕ, ◌≤◌, ◌<◌, ◌≡◌, not, List}
use Rattle.expression.specs.Limits.{most_operators}
use Rattle.expression.specs.Refusal.{accepted}
use Rattle.expression.specs.Token.{Infix, Operators, class}
use Rattle.disambiguation.specs.Rules.{Rule, L, R}
use Rattle.disambiguation.specs.Verdict.{verdict}
use Rattle.relation.specs.Relation.{closes_in}
use Rattle.sheet.specs.Layout.{operators_of}

pub record InForce (sheet : List ℕ) (ops : Operators) (rules : List Rule) : Type 0 where
  -- a sheet has 32 operators at most, and this one those that were called for
  pub few : ops.count ≤ most_operators
  pub operators : operators_of sheet ≡ ops
  -- neither 4 nor 5 applies
  pub accepts : verdict ops rules ≡ accepted
  -- the relation decides both patterns: a closes before b exactly if R(a,b) is excluded, and else, for an infix operator b, L(b,a) is
  pub right : (a b : ℕ) → closes_in sheet a b ≡ R rules a b
  pub left : (a b : ℕ) → a < ops.count → class ops b ≡ Infix → L rules b a ≡ not (closes_in sheet a b)
