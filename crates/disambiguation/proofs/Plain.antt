-- Trees of rows without prefix operators. Assumes nothing.
use Prim.Native.Nat.{ℕ}
use mathlib.Core.Path.{◌≡◌}
use mathlib.Core.List.{List, [], ◌∷◌, ◌++◌}
use Rattle.expression.specs.Lists.{All}
use Rattle.expression.specs.Token.{Class, Prefix, closing}
use Rattle.expression.specs.Tree.{Tree, reading, bracket, binary, prefix, yield, Over}

-- a tree without prefix operators
abbrev pub Plain : Tree → Type 0
Plain (reading a) = Unit {0}
Plain (bracket t) = Plain t
Plain (binary o l r) = Plain l × Plain r
Plain (prefix p t) = ⊥

-- what holds of all elements holds of those of each part
all_parts : (P : ℕ → Type 0) (xs ys : List ℕ) → All P (xs ++ ys) → All P xs × All P ys
all_parts P [] ys h = (tt, h)
all_parts P (x ∷ xs) ys h = let (a, b) = all_parts P xs ys h.1 in ((h.0, a), b)

-- the tree of a row without prefix operators has none
pub plain_of_row : (k : ℕ → Class) (t : Tree) → Over k t → All (λ c. k c ≡ Prefix → ⊥) (yield t) → Plain t
plain_of_row k (reading a) h f = tt
plain_of_row k (bracket t) h f = plain_of_row k t h (all_parts (λ c. k c ≡ Prefix → ⊥) (yield t) (closing ∷ []) f.1).0
plain_of_row k (binary o l r) h f =
    let (a, b) = all_parts (λ c. k c ≡ Prefix → ⊥) (yield l) (o ∷ yield r) f in
    (plain_of_row k l h.1 a, plain_of_row k r h.2 b.1)
plain_of_row k (prefix p t) h f = f.0 h.0
