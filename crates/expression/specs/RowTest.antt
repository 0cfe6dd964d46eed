-- The computed test whether tokens are one expression. Assumes nothing.
use Rattle.std.specs.Prelude.{ℕ, zero, suc, Bool, true, false, List, [], ◌∷◌}
use Rattle.expression.specs.Token.{Class, Infix, Prefix, Opening, Closing, Reading, Meaningless}

-- Reading a row from the left, inside so many open brackets: an operand is due, or one has just been read; or the tokens so far begin no row.
pub data Progress : Type 0 where
  due : ℕ → Progress
  done : ℕ → Progress
  wrong : Progress

abbrev pub where_due : Class → ℕ → Progress
where_due Infix d = wrong
where_due Prefix d = due d
where_due Opening d = due (suc d)
where_due Closing d = wrong
where_due Reading d = done d
where_due Meaningless d = wrong

abbrev pub closed : ℕ → Progress
closed zero = wrong
closed (suc d) = done d

abbrev pub where_done : Class → ℕ → Progress
where_done Infix d = due d
where_done Prefix d = wrong
where_done Opening d = wrong
where_done Closing d = closed d
where_done Reading d = wrong
where_done Meaningless d = wrong

abbrev pub complete : Progress → Bool
complete (due d) = false
complete (done zero) = true
complete (done (suc d)) = false
complete wrong = false

module _ (k : ℕ → Class) where
  abbrev pub advance : Progress → ℕ → Progress
  advance (due d) c = where_due (k c) d
  advance (done d) c = where_done (k c) d
  advance wrong c = wrong

  abbrev pub scan : Progress → List ℕ → Progress
  scan p [] = p
  scan p (c ∷ cs) = scan (advance p c) cs

  -- the tokens are one expression
  unfoldable pub is_row : List ℕ → Bool
  is_row tokens = complete (scan (due 0) tokens)
