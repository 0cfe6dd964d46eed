-- The binding powers that the words of a sheet give, for every content. Assumes nothing.
use Rattle.std.specs.Prelude.{ℕ, ◌+◌, ◌-◌, ◌*◌, Bool, cond, List, ltb, Result, Ok, Err}
use Rattle.std.specs.Int.Count.{ones}
use Rattle.expression.specs.Limits.{most_operators}
use Rattle.expression.specs.Refusal.{accepted, stranger}
use Rattle.expression.specs.Outcome.{number_of}
use Rattle.expression.specs.Token.{class}
use Rattle.expression.specs.declared.refusal.Refusal.{Refusal}
use Rattle.disambiguation.specs.Powers.{is_infix, left_power, right_power}
use Rattle.relation.specs.Relation.{closes_in}
use Rattle.relation.specs.Words.{word_where}
use Rattle.sheet.specs.Layout.{operators_of}
use Rattle.sheet.specs.declared.powers.Binding.{Binding}
use Rattle.sheet.specs.declared.powers.Powers.{Powers}

-- an infix operator of the sheet
unfoldable pub infix_in : List ℕ → ℕ → Bool
infix_in sheet c = is_infix (class (operators_of sheet) c)

-- an accepted answer, and one with number 3: both powers are 0
abbrev pub given : ℕ → ℕ → Powers
given left right = record { number = accepted; left = left; right = right }

abbrev pub not_infix : Powers
not_infix = record { number = stranger; left = 0; right = 0 }

-- what the call's outcome answers
abbrev pub answered : Result Binding Refusal → Powers
answered (Ok binding) = given binding.left binding.right
answered (Err refusal) = record { number = number_of refusal; left = 0; right = 0 }

-- both powers of an operator by the sheet's relation
unfoldable pub given_in : List ℕ → ℕ → Powers
given_in sheet a = given (left_power (operators_of sheet) (closes_in sheet) a) (right_power (operators_of sheet) (closes_in sheet) a)

-- The answer for operator a. It is refused with 3 where it is not below n, and where it is not infix.
unfoldable pub powers_in : List ℕ → ℕ → Powers
powers_in sheet a = cond (infix_in sheet a) (given_in sheet a) not_infix

-- ---- inside the call
-- a count of operators, capped at 32: words that no load makes may have a higher one
abbrev pub capped : ℕ → ℕ
capped n = cond (ltb most_operators n) most_operators n

-- the set of the operators that close before a
abbrev pub closers_of : List ℕ → ℕ → ℕ
closers_of sheet a = word_where (λ c. closes_in sheet c a) most_operators

-- the powers by the set of the operators that an operator lies above, and by whether it closes before itself
abbrev pub left_by : ℕ → ℕ
left_by set = 2 + 2 * ones set

abbrev pub given_by : ℕ → Bool → Powers
given_by left itself = given left (cond itself left (left - 1))
