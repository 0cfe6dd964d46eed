-- The relations that rules in bytes give. Assumes nothing.
use Rattle.std.specs.Prelude.{ℕ, ◌≡◌, Bool, false, List}
use Rattle.expression.specs.Lists.{any_holds}
use Rattle.disambiguation.specs.Rules.{Rule, left, right}
use Rattle.disambiguation.specs.SheetChecks.{rules_of, strange_rule}
use Rattle.relation.specs.Relation.{fresh}
use Rattle.relation.specs.Marking.{unmarked, marks, marks_turned, marks_all}
use Rattle.relation.specs.Chaining.{related}

-- the words of "a closes before b" and of "a yields to b": priority chained, and left, or right turned round, as written
abbrev pub closes_words : ℕ → List Rule → List ℕ
closes_words n rules = related n left (marks_all marks rules unmarked) fresh

abbrev pub yields_words : ℕ → List Rule → List ℕ
yields_words n rules = related n right (marks_all marks_turned rules unmarked) fresh

-- Of n operators and the rules of the bytes: whether one is strange, and if none is, their relations.
pub record Relates (n : ℕ) (bytes : List ℕ) (strange : Bool) (closes yields : List ℕ) : Type 0 where
  pub strange_is : strange ≡ any_holds (strange_rule n) (rules_of bytes)
  pub closes_is : strange ≡ false → closes ≡ closes_words n (rules_of bytes)
  pub yields_is : strange ≡ false → yields ≡ yields_words n (rules_of bytes)
