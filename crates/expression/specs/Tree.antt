-- Trees, their yields and their records. Assumes nothing.
use Rattle.std.specs.Prelude.{ℕ, ◌≡◌, List, [], ◌∷◌, ◌++◌}
use Rattle.expression.specs.Token.{Class, Infix, Prefix, Reading, opening, closing}

-- A parse tree: a reading; a bracket node and its one tree; an infix operator with its left and its right operand; a prefix operator with its operand.
pub data Tree : Type 0 where
  reading : ℕ → Tree
  bracket : Tree → Tree
  binary : ℕ → Tree → Tree → Tree
  prefix : ℕ → Tree → Tree

-- The yield of a tree: its row.
abbrev pub yield : Tree → List ℕ
yield (reading a) = a ∷ []
yield (bracket t) = opening ∷ yield t ++ (closing ∷ [])
yield (binary o l r) = yield l ++ o ∷ yield r
yield (prefix p t) = p ∷ yield t

-- The record of a tree: its nodes, top first.
abbrev pub record_of : Tree → List ℕ
record_of (reading a) = a ∷ []
record_of (bracket t) = opening ∷ record_of t
record_of (binary o l r) = o ∷ record_of l ++ record_of r
record_of (prefix p t) = p ∷ record_of t

-- A tree over the operators of a sheet: with k the classes of its bytes, each leaf is a reading, and each operator is infix or prefix as its node has it.
abbrev pub Over : (ℕ → Class) → Tree → Type 0
Over k (reading a) = k a ≡ Reading
Over k (bracket t) = Over k t
Over k (binary o l r) = (k o ≡ Infix) × Over k l × Over k r
Over k (prefix p t) = (k p ≡ Prefix) × Over k t
