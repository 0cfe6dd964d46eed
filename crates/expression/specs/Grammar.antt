-- Rows: the grammar of expressions (docs/REFERENCE.md, section 1). Assumes nothing.
use Rattle.std.specs.Prelude.{ℕ, ◌≡◌, List, [], ◌∷◌, ◌++◌}
use Rattle.expression.specs.Token.{Class, Infix, Prefix, Reading, opening, closing, Operators, class}

-- Each constructor ends with what the tokens are.
mutual
  -- An operand is a reading, or 20, expression, 21, or a prefix operator and an operand.
  pub data Operand (k : ℕ → Class) : List ℕ → Type 0 where
    single : {tokens : List ℕ} (c : ℕ) → k c ≡ Reading → tokens ≡ c ∷ [] → Operand k tokens
    bracketed : {tokens : List ℕ} (inner : List ℕ) → Expression k inner → tokens ≡ opening ∷ inner ++ (closing ∷ []) → Operand k tokens
    prefixed : {tokens : List ℕ} (p : ℕ) (inner : List ℕ) → k p ≡ Prefix → Operand k inner → tokens ≡ p ∷ inner → Operand k tokens

  -- An expression is an operand, then any number of operator and operand.
  pub data Expression (k : ℕ → Class) : List ℕ → Type 0 where
    operand_then : {tokens : List ℕ} (head rest : List ℕ) → Operand k head → Tail k rest → tokens ≡ head ++ rest → Expression k tokens

  -- any number of operator and operand
  pub data Tail (k : ℕ → Class) : List ℕ → Type 0 where
    end : {tokens : List ℕ} → tokens ≡ [] → Tail k tokens
    operator_then : {tokens : List ℕ} (o : ℕ) (head rest : List ℕ) → k o ≡ Infix → Operand k head → Tail k rest → tokens ≡ o ∷ head ++ rest → Tail k tokens

-- A row over a sheet's operators: a list of tokens that is one expression.
abbrev pub Row : Operators → List ℕ → Type 0
Row ops tokens = Expression (class ops) tokens
