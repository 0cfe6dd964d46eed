-- Witnesses in bytes, as they are written: a shape for infix operators, fitted to the kind of the first operator. Assumes nothing.
use Rattle.std.specs.Prelude.{ℕ, ◌-◌, Bool, not, ◌&&◌, cond, List, [], ◌∷◌, eqb, ltb}
use Rattle.expression.specs.Token.{first_reading}

-- a byte of a shape is there, unless it is the operand before a prefix operator
abbrev pub is_there : Bool → ℕ → Bool
is_there is_prefix c = not (is_prefix && eqb c first_reading)

-- the byte in its place: an operand behind a prefix operator moves up by one
abbrev pub moved : Bool → ℕ → ℕ
moved is_prefix c = cond (is_prefix && ltb first_reading c) (c - 1) c

-- the shape, fitted
unfoldable pub fitted : Bool → List ℕ → List ℕ
fitted is_prefix [] = []
fitted is_prefix (c ∷ cs) = cond (is_there is_prefix c) (moved is_prefix c ∷ fitted is_prefix cs) (fitted is_prefix cs)
