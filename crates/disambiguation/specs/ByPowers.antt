-- Reading a row by binding powers, from the top down (Pratt's algorithm): what a reader of powers does with them. Assumes nothing.
--     An expression is read on behalf of the operator before it, whose right power is the floor; in front of the row, and of what is in brackets, the floor is 0. After an
--     operand, an infix operator whose left power is over the floor takes what has been read as its left operand, and reads its right one; at any other token the expression ends.
use Rattle.std.specs.Prelude.{ℕ, zero, suc, ◌*◌, Bool, ◌&&◌, cond, List, [], ◌∷◌, eqb, ltb, length}
use Rattle.std.proofs.Math.Option.{Option, none, some}
use Rattle.expression.specs.Token.{Class, Infix, Prefix, Opening, Closing, Reading, Meaningless, closing}
use Rattle.expression.specs.Tree.{Tree, reading, bracket, binary}
use Rattle.disambiguation.specs.Powers.{is_infix}

-- what has been read, and the tokens that are left; none, where nothing can be read
abbrev pub Found : Type 0
Found = Option (Tree × List ℕ)

abbrev pub and_then : Found → (Tree → List ℕ → Found) → Found
and_then none f = none
and_then (some x) f = f x.0 x.1

-- after what is inside brackets: the closing one
abbrev pub shut : Tree → List ℕ → Found
shut t [] = none
shut t (c ∷ rest) = cond (eqb c closing) (some (bracket t, rest)) none

-- an operand that begins with a token of the class; `inside` is what can be read after the token
abbrev pub operand_from : Class → ℕ → List ℕ → Found → Found
operand_from Infix c rest inside = none
operand_from Prefix c rest inside = none
operand_from Opening c rest inside = and_then inside shut
operand_from Closing c rest inside = none
operand_from Reading c rest inside = some (reading c, rest)
operand_from Meaningless c rest inside = none

-- the tree, if no token is left
abbrev pub whole_row : Found → Option Tree
whole_row none = none
whole_row (some (t, [])) = some t
whole_row (some (t, c ∷ rest)) = none

module _ (k : ℕ → Class) (left right : ℕ → ℕ) where
  -- the token is an infix operator whose left power is over the floor
  abbrev pub is_over : ℕ → ℕ → Bool
  is_over floor b = is_infix (k b) && ltb floor (left b)

  -- The first argument bounds how many calls lie within each other.
  unfoldable mutual
    -- an operand, and on from there
    pub expression : ℕ → ℕ → List ℕ → Found
    expression zero floor tokens = none
    expression (suc n) floor tokens = and_then (operand n tokens) (λ t rest. onward n floor t rest)

    -- a reading, or an expression in brackets
    pub operand : ℕ → List ℕ → Found
    operand zero tokens = none
    operand (suc n) [] = none
    operand (suc n) (c ∷ tokens) = operand_from (k c) c tokens (expression n 0 tokens)

    -- from what has been read on, as long as an operator is over the floor
    pub onward : ℕ → ℕ → Tree → List ℕ → Found
    onward zero floor t tokens = none
    onward (suc n) floor t [] = some (t, [])
    onward (suc n) floor t (b ∷ tokens) =
        cond (is_over floor b) (and_then (expression n (right b) tokens) (λ u rest. onward n floor (binary b t u) rest)) (some (t, b ∷ tokens))

  -- The tree that is read of a row: two calls a token are enough.
  unfoldable pub read_by_powers : List ℕ → Option Tree
  read_by_powers tokens = whole_row (expression (2 * length tokens) 0 tokens)
