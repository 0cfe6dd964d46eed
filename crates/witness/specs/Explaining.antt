-- Why a sheet is refused: the number and the answer of the question (docs/REFERENCE.md, section 13). Assumes nothing.
use Rattle.std.specs.Prelude.{ℕ, ◌≤◌, ◌≡◌, List, [], ◌∷◌, ◌++◌, length, drop}
use Rattle.expression.specs.Checks.{short_check}
use Rattle.expression.specs.Lent.{output_after, length_after}
use Rattle.expression.specs.Refusal.{Check, first, accepted}
use Rattle.expression.specs.Token.{Operators, operators}
use Rattle.disambiguation.specs.Rules.{Rule}
use Rattle.disambiguation.specs.SheetChecks.{rules_in, operators_in, order_checks, list_order_checks}
use Rattle.disambiguation.specs.Witness.{witness_of, witness_bytes}
use Rattle.disambiguation.specs.Shown.{Shown, AsLong}
use Rattle.record.specs.declared.Answer.{Answer}

-- the bytes of the longest answer: the verdict, a row of seven tokens, two records of seven bytes
abbrev pub most_explained : ℕ
most_explained = 22

-- The checks of a sheet that say that it is in order, 1, 2 and 3, then 10.
abbrev pub explain_checks : List Check → List ℕ → ℕ → List Check
explain_checks order answer room = order ++ (short_check (length answer) room ∷ [])

-- The call with these checks and this answer gave r, and the lent output was `before` and became `after`.
pub record AnswersWith (order : List Check) (answer before after : List ℕ) (r : Answer) : Type 0 where
  pub numbered : r.number ≡ first (explain_checks order answer (length before))
  pub measured : r.length ≡ length_after r.number answer
  pub output : after ≡ output_after r.number answer before

-- It is accepted, and this is its answer.
abbrev pub AnswersBy : List ℕ → List ℕ → List ℕ → Answer → Type 0
AnswersBy answer before after r = (r.number ≡ accepted) × (r.length ≡ length answer) × (after ≡ answer ++ drop (length answer) before)

-- The answer of a sheet, by its operators and rules: their witness in bytes.
abbrev pub answer_of : Operators → List Rule → List ℕ
answer_of ops rules = witness_bytes (witness_of ops rules)

-- Of n and the bytes after it,
unfoldable pub explained : ℕ → List ℕ → List ℕ
explained n bytes = answer_of (operators_in n bytes) (rules_in n bytes)

abbrev pub Explains : ℕ → List ℕ → List ℕ → List ℕ → Answer → Type 0
Explains n bytes = AnswersWith (order_checks n bytes) (explained n bytes)

-- and with its kinds and rules as lists.
unfoldable pub explained_list : ℕ → List ℕ → List Rule → List ℕ
explained_list n kinds rules = answer_of (operators n kinds) rules

abbrev pub ExplainsList : ℕ → List ℕ → List Rule → List ℕ → List ℕ → Answer → Type 0
ExplainsList n kinds rules = AnswersWith (list_order_checks n kinds rules) (explained_list n kinds rules)

-- Of a sheet in order, by its operators and rules: the answer is their witness in bytes, 22 at most, with both records as long as the row, and it shows why
-- the sheet is refused.
pub record ExplainedBy (ops : Operators) (rules : List Rule) (before after : List ℕ) (r : Answer) : Type 0 where
  pub answered : AnswersBy (answer_of ops rules) before after r
  pub short : length (answer_of ops rules) ≤ most_explained
  pub as_long : AsLong (witness_of ops rules)
  pub shown : Shown ops rules (witness_of ops rules)
