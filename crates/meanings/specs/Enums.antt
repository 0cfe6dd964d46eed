-- The meanings that the code's enums stand for, and the number that each is read from. Assumes nothing.
use Rattle.std.specs.Prelude.{ℕ, ◌≡◌, Result, MatchResult}
use Rattle.std.proofs.Math.Option.{none, some}
use Rattle.expression.specs.declared.refusal.Refusal.{Refusal}
use Rattle.expression.specs.declared.refusal.Refusal.TheVariants.{NoMeaning}
use Rattle.meanings.specs.Meanings.{Meaning, PrefixMeaning, meant, prefix_meant}
use Rattle.meanings.specs.Meanings as meanings
use Rattle.meanings.specs.declared.Meaning as infix_code
use Rattle.meanings.specs.declared.PrefixMeaning as prefix_code
use Rattle.meanings.specs.declared.Meaning.TheVariants.{Or, And, Less, AtMost, Equal, Sum, Difference, Smaller, Larger}
use Rattle.meanings.specs.declared.PrefixMeaning.TheVariants.{Not, Minus}

abbrev pub said : infix_code.Meaning → Meaning
said Or = meanings.Or
said And = meanings.And
said Less = meanings.Less
said AtMost = meanings.AtMost
said Equal = meanings.Equal
said Sum = meanings.Sum
said Difference = meanings.Difference
said Smaller = meanings.Smaller
said Larger = meanings.Larger

abbrev pub prefix_said : prefix_code.PrefixMeaning → PrefixMeaning
prefix_said Not = meanings.Not
prefix_said Minus = meanings.Minus

-- a number is read as the meaning that has it, and one that no meaning has is refused
abbrev pub Decodes : ℕ → Result infix_code.Meaning Refusal → Type 0
Decodes n r = MatchResult r (λ m. meant n ≡ some (said m)) (λ e. (meant n ≡ none) × (e ≡ NoMeaning))

abbrev pub PrefixDecodes : ℕ → Result prefix_code.PrefixMeaning Refusal → Type 0
PrefixDecodes n r = MatchResult r (λ m. prefix_meant n ≡ some (prefix_said m)) (λ e. (prefix_meant n ≡ none) × (e ≡ NoMeaning))
