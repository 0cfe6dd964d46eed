-- Rules marked as written in a table of words, one after the other. Assumes nothing.
--     word kind * 32 + a, for a kind of rules and an operator a: bit b is set where a rule of the kind names a and b
use Rattle.std.specs.Prelude.{ℕ, suc, ◌+◌, ◌*◌, ◌^◌, ◌≡◌, Bool, false, List, [], ◌∷◌, get_or, set, replicate}
use Rattle.std.specs.Int.Bits.{bit_or}
use Rattle.expression.specs.Lists.{any_holds}
use Rattle.expression.specs.Limits.{most_operators}
use Rattle.disambiguation.specs.Rules.{Rule, right}
use Rattle.disambiguation.specs.SheetChecks.{rules_of, strange_rule}

-- the place of an operator's word for a kind
abbrev pub word_of : ℕ → ℕ → ℕ
word_of kind a = kind * most_operators + a

-- the table with no mark
abbrev pub unmarked : List ℕ
unmarked = replicate (suc right * most_operators) 0

-- the table with bit b of a's word for the kind set
unfoldable pub marked : List ℕ → ℕ → ℕ → ℕ → List ℕ
marked t kind a b = set t (word_of kind a) (bit_or (get_or t (word_of kind a) 0) (2 ^ b))

-- what a rule of a and b marks: bit b for a; and turned round, bit a for b
unfoldable pub marks : Rule → List ℕ → List ℕ
marks r t = marked t r.kind r.first r.second

unfoldable pub marks_turned : Rule → List ℕ → List ℕ
marks_turned r t = marked t r.kind r.second r.first

-- all rules, the first one first
unfoldable pub marks_all : (Rule → List ℕ → List ℕ) → List Rule → List ℕ → List ℕ
marks_all marks [] t = t
marks_all marks (r ∷ rs) t = marks_all marks rs (marks r t)

-- One rule taken: whether it is strange, and if not, both tables after it.
pub record Takes (n : ℕ) (r : Rule) (ahead back ahead' back' : List ℕ) (answer : Bool) : Type 0 where
  pub strange : answer ≡ strange_rule n r
  pub marks_ahead : answer ≡ false → ahead' ≡ marks r ahead
  pub marks_back : answer ≡ false → back' ≡ marks_turned r back

-- All rules of the bytes read: whether one is strange, and if none is, both tables after them.
pub record Reads (n : ℕ) (bytes ahead back ahead' back' : List ℕ) (answer : Bool) : Type 0 where
  pub strange : answer ≡ any_holds (strange_rule n) (rules_of bytes)
  pub marks_ahead : answer ≡ false → ahead' ≡ marks_all marks (rules_of bytes) ahead
  pub marks_back : answer ≡ false → back' ≡ marks_all marks_turned (rules_of bytes) back
