-- The numbers of turned-down calls (docs/REFERENCE.md, section 4), and "the first that applies". Assumes nothing.
use Rattle.std.specs.Prelude.{ℕ, ◌≡◌, Bool, false, cond, List, [], ◌∷◌}
use Rattle.expression.specs.Lists.{All}

-- success
abbrev pub accepted : ℕ
accepted = 0

abbrev pub oversize : ℕ
oversize = 1

abbrev pub torn : ℕ
torn = 2

abbrev pub stranger : ℕ
stranger = 3

abbrev pub dead : ℕ
dead = 4

abbrev pub double : ℕ
double = 5

-- "no row"
abbrev pub no_row : ℕ
no_row = 6

-- "no tree"
abbrev pub no_tree : ℕ
no_tree = 7

abbrev pub place : ℕ
place = 8

abbrev pub empty : ℕ
empty = 9

abbrev pub short : ℕ
short = 10

-- "in use"
abbrev pub in_use : ℕ
in_use = 11

abbrev pub frame : ℕ
frame = 12

-- those of an evaluation: an operator without a meaning, a reading beyond the lent list
abbrev pub no_meaning : ℕ
no_meaning = 13

abbrev pub no_reading : ℕ
no_reading = 14

-- "nothing staged"
abbrev pub nothing_staged : ℕ
nothing_staged = 15

-- those of a row with a claimed record: the record's row is another, the record has a conflict
abbrev pub other_row : ℕ
other_row = 16

abbrev pub conflict : ℕ
conflict = 17

-- One line of a call's list: whether it applies, and its number.
abbrev pub Check : Type 0
Check = Bool × ℕ

-- none of the checks applies
abbrev pub Passed : List Check → Type 0
Passed cs = All (λ c. c.0 ≡ false) cs

-- The first that applies, from left to right; 0 where none applies.
abbrev pub first : List Check → ℕ
first [] = accepted
first (c ∷ cs) = cond c.0 c.1 (first cs)
