-- Rows that mean the same, and the one with no spare brackets (docs/REFERENCE.md, section 6). Assumes nothing.
use Rattle.std.specs.Prelude.{ℕ, ◌≤◌, ◌≡◌, List, ◌∷◌, ◌++◌, length}
use Rattle.expression.specs.Lists.{All}
use Rattle.expression.specs.Token.{Prefix, opening, closing, Operators, class}
use Rattle.expression.specs.Tree.{Tree, reading, bracket, binary, prefix, yield}
use Rattle.expression.specs.Grammar.{Row}
use Rattle.disambiguation.specs.Rules.{Rule, L, R}
use Rattle.disambiguation.specs.Conflicts.{ConflictFreeTree}
use Rattle.brackets.specs.Enclosed.{enclosed}

-- the tree without its bracket nodes
abbrev pub bare : Tree → Tree
bare (reading a) = reading a
bare (bracket t) = bare t
bare (binary o l r) = binary o (bare l) (bare r)
bare (prefix p t) = prefix p (bare t)

-- no token of the row is a prefix operator
abbrev pub OfInfix : Operators → List ℕ → Type 0
OfInfix ops row = All (λ c. class ops c ≡ Prefix → ⊥) row

module _ (ops : Operators) (rules : List Rule) where
  -- Two rows mean the same: each has a conflict-free tree, and the two agree once bracket nodes are taken out.
  abbrev pub MeanTheSame : List ℕ → List ℕ → Type 0
  MeanTheSame row other = (t : Tree) × (u : Tree) × ConflictFreeTree ops rules row t × ConflictFreeTree ops rules other u × (bare t ≡ bare u)

  -- The answer is made of the row's conflict-free tree from the inside out, and means the same. No pair of its brackets, which have a row between them, can be dropped without
  -- altering the meaning. It has the fewest tokens, and of a row without prefix operators it is the only one as short. Rows are of any length.
  pub record ShortestRow (row answer : List ℕ) : Type 0 where
    pub tree : Tree
    pub conflict_free : ConflictFreeTree ops rules row tree
    pub made : answer ≡ yield (enclosed (L rules) (R rules) tree)
    pub is_row : Row ops answer
    pub means_same : MeanTheSame row answer
    pub none_spare : (before inner after : List ℕ) → answer ≡ before ++ opening ∷ inner ++ closing ∷ after → Row ops inner → MeanTheSame row (before ++ inner ++ after) → ⊥
    pub fewest : (other : List ℕ) → MeanTheSame row other → length answer ≤ length other
    pub only : OfInfix ops row → (other : List ℕ) → MeanTheSame row other → length other ≡ length answer → other ≡ answer
