-- The kinds of rules by their numbers. Assumes nothing.
use Rattle.std.specs.Prelude.{ℕ, ◌≡◌, Bool, true, false, ◌||◌, ltb, Result, MatchResult}
use Rattle.expression.specs.declared.refusal.Refusal.{Refusal}
use Rattle.expression.specs.declared.refusal.Refusal.TheVariants.{Stranger}
use Rattle.disambiguation.specs.Rules.{priority, left, right}
use Rattle.relation.specs.declared.kind.RuleKind.{RuleKind}
use Rattle.relation.specs.declared.kind.RuleKind.TheVariants.{Priority, Left, Right}

abbrev pub code_of : RuleKind → ℕ
code_of Priority = priority
code_of Left = left
code_of Right = right

-- no kind has the number
abbrev pub strange_code : ℕ → Bool
strange_code code = ltb code priority || ltb right code

-- the kind that has the number, or that none has it
abbrev pub DecodesKind : ℕ → Result RuleKind Refusal → Type 0
DecodesKind code r = MatchResult r (λ kind. (code_of kind ≡ code) × (strange_code code ≡ false)) (λ e. (e ≡ Stranger) × (strange_code code ≡ true))
