-- Sets of operators by their kinds: the prefix operators among kinds, and those whose kinds change. Assumes nothing.
use Rattle.std.specs.Prelude.{ℕ, not, List, eqb, get_or}
use Rattle.expression.specs.Limits.{most_operators}
use Rattle.expression.specs.Token.{infix_kind, prefix_kind, Operators, kind_of}
use Rattle.relation.specs.Words.{word_where}

-- the word of the prefix operators among n kinds
abbrev pub prefix_word : List ℕ → ℕ → ℕ
prefix_word kinds n = word_where (λ c. eqb (get_or kinds c infix_kind) prefix_kind) n

-- of the operators whose kinds differ
abbrev pub kind_changes : Operators → Operators → ℕ
kind_changes old new = word_where (λ c. not (eqb (kind_of old c) (kind_of new c))) most_operators
