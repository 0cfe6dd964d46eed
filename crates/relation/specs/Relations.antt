-- Relations as the code has them: the operators, and what is excluded of them. Assumes nothing.
use Rattle.std.specs.Prelude.{ℕ, ◌≡◌, Bool, true, false, List, Result, MatchResult}
use Rattle.expression.specs.Lists.{any_holds}
use Rattle.expression.specs.Token.{Operators}
use Rattle.expression.specs.declared.refusal.Refusal.{Refusal}
use Rattle.expression.specs.declared.refusal.Refusal.TheVariants.{Stranger}
use Rattle.disambiguation.specs.SheetChecks.{rules_of, strange_rule}
use Rattle.relation.specs.Relation.{closes_in, turned}
use Rattle.relation.specs.Relating.{Relates}
use Rattle.relation.specs.Words.{operators_by}
use Rattle.relation.specs.declared.count.Count.{Count}
use Rattle.relation.specs.declared.relations.Relations.{Relations}

abbrev pub ops : Relations → Operators
ops r = operators_by r.count.n r.prefixes

-- a closes before b
abbrev pub closing : Relations → ℕ → ℕ → Bool
closing r = closes_in r.closes

-- b yields to a
abbrev pub yielding : Relations → ℕ → ℕ → Bool
yielding r = turned (closes_in r.yields)

-- The rules of the bytes read: the relations of as many operators, or that some rule is strange.
abbrev pub Relate : Count → ℕ → List ℕ → Result Relations Refusal → Type 0
Relate count prefixes bytes r =
    MatchResult r (λ made. (made.count ≡ count) × (made.prefixes ≡ prefixes) × Relates count.n bytes false made.closes made.yields)
    (λ e. (e ≡ Stranger) × (any_holds (strange_rule count.n) (rules_of bytes) ≡ true))
