-- The tokens of a row by place, and what the readers of operands and expressions find. Assumes nothing.
use Rattle.std.specs.Prelude.{ℕ, ◌≤◌, ◌<◌, ◌≡◌, Bool, false, cond, List, ltb, length, get_or, drop, Option, None, Some}
use Rattle.expression.specs.Token.{Class, Operators, class}
use Rattle.expression.specs.Token as token
use Rattle.expression.specs.Lists.{any_holds}
use Rattle.expression.specs.Checks.{strange_in_row}
use Rattle.expression.specs.RowTest.{due, done, complete, scan}
use Rattle.parser.specs.declared.row.Token.{Token}
use Rattle.parser.specs.declared.row.Token.TheVariants.{Operator, Prefix, Opening, Closing, Reading}

-- the token of a class; none of a byte without meaning
abbrev pub token_of : Class → Option Token
token_of token.Infix = Some Operator
token_of token.Prefix = Some Prefix
token_of token.Opening = Some Opening
token_of token.Closing = Some Closing
token_of token.Reading = Some Reading
token_of token.Meaningless = None

-- the token at a place; none past the row's end
unfoldable pub token_at : Operators → List ℕ → ℕ → Option Token
token_at ops row at = cond (ltb at (length row)) (token_of (class ops (get_or row at 0))) None

-- A reader answers the place after what it read, if it can read something.
module _ (ops : Operators) (row : List ℕ) (at : ℕ) where
  -- The rest of the row is passed from a place where an operand is due to one where it has been read.
  pub record Passes (next : ℕ) : Type 0 where
    pub onward : at < next
    pub inside : next ≤ length row
    pub same : (d : ℕ) → scan (class ops) (due d) (drop at row) ≡ scan (class ops) (done d) (drop next row)

  -- At another place, where an operand is due again, the rest of the row continues it.
  pub record Continues (next : ℕ) : Type 0 where
    pub onward : at ≤ next
    pub inside : next ≤ length row
    pub same : (d : ℕ) → scan (class ops) (due d) (drop at row) ≡ scan (class ops) (due d) (drop next row)

  -- No row goes on so.
  pub record Refuses : Type 0 where
    pub refused : (d : ℕ) → complete (scan (class ops) (due d) (drop at row)) ≡ false

  -- What a reader of operands finds; one that begins with a prefix operator is not its own to read.
  abbrev pub ReadsOperand : Option ℕ → Type 0
  ReadsOperand None = (token_at ops row at ≡ Some Prefix → ⊥) → Refuses
  ReadsOperand (Some next) = Passes next

  -- An expression goes on as far as it can, so no operator stands where it ends.
  pub record Ends (next : ℕ) : Type 0 where
    pub passes : Passes next
    pub stops : token_at ops row next ≡ Some Operator → ⊥

  -- What a reader of expressions finds.
  abbrev pub ReadsExpression : Option ℕ → Type 0
  ReadsExpression None = Refuses
  ReadsExpression (Some next) = Ends next

-- some token is strange
unfoldable pub stranger_in_row : Operators → List ℕ → Bool
stranger_in_row ops tokens = any_holds (λ c. strange_in_row (class ops c)) tokens
