-- The machine that makes the tree of a row: it reads from the left, with operators waiting until a later one closes them. Assumes nothing.
use Rattle.std.specs.Prelude.{ℕ, Bool, true, cond, List, [], ◌∷◌}
use Rattle.std.proofs.Math.Option.{Option, none, some}
use Rattle.expression.specs.Token.{Class, Infix, Prefix, Opening, Closing, Reading, Meaningless, Operators, class}
use Rattle.expression.specs.Tree.{Tree, reading, bracket, binary, prefix}

-- an operator that waits for its right operand, with what stands left of it; a prefix operator that waits for its operand
pub data Pending : Type 0 where
  after : Tree → ℕ → Pending
  ahead : ℕ → Pending

abbrev pub operator_of : Pending → ℕ
operator_of (after l o) = o
operator_of (ahead p) = p

abbrev pub fill : Pending → Tree → Tree
fill (after l o) t = binary o l t
fill (ahead p) t = prefix p t

-- what waits, the latest first, back to an open bracket or to the row's beginning
pub data Stack : Type 0 where
  bottom : Stack
  opened : Stack → Stack
  waiting : Pending → Stack → Stack

-- an operand is due; one has been read; no row begins so
pub data State : Type 0 where
  due : Stack → State
  have : Stack → Tree → State
  stuck : State

-- What waits closes as long as p says so, the nearest first: each takes the tree so far as its right or only operand.
abbrev pub close : (ℕ → Bool) → Stack → Tree → Stack × Tree
close p bottom t = (bottom, t)
close p (opened s) t = (opened s, t)
close p (waiting f s) t = cond (p (operator_of f)) (close p s (fill f t)) (waiting f s, t)

-- what then still waits
abbrev pub remains : (ℕ → Bool) → Stack → Stack
remains p bottom = bottom
remains p (opened s) = opened s
remains p (waiting f s) = cond (p (operator_of f)) (remains p s) (waiting f s)

-- all closes, back to the nearest open bracket or to the row's beginning
abbrev pub everything : ℕ → Bool
everything a = true

-- With all closed, a closing bracket shuts the open one; where none is open, no row begins so.
abbrev pub shut : Stack → Tree → State
shut bottom t = stuck
shut (opened s) t = have s (bracket t)
shut (waiting f s) t = stuck

-- With all closed, the tree is that of all tokens if no bracket is open.
abbrev pub whole : Stack → Tree → Option Tree
whole bottom t = some t
whole (opened s) t = none
whole (waiting f s) t = none

-- Closing all that waits: the tree, where the tokens so far are a row.
abbrev pub finish : State → Option Tree
finish (due s) = none
finish (have s t) = whole (close everything s t).0 (close everything s t).1
finish stuck = none

-- One token, by its class, where an operand is due: a prefix operator waits;
abbrev pub where_due : Class → ℕ → Stack → State
where_due Infix c s = stuck
where_due Prefix c s = due (waiting (ahead c) s)
where_due Opening c s = due (opened s)
where_due Closing c s = stuck
where_due Reading c s = have s (reading c)
where_due Meaningless c s = stuck

module _ (closes : ℕ → ℕ → Bool) where
  -- what closes before b
  abbrev pub before : ℕ → ℕ → Bool
  before b a = closes a b

  -- and where one has been read: an operator takes what closes before it as its left operand, and waits.
  abbrev pub where_read : Class → ℕ → Stack → Tree → State
  where_read Infix b s t = due (waiting (after (close (before b) s t).1 b) (close (before b) s t).0)
  where_read Prefix b s t = stuck
  where_read Opening b s t = stuck
  where_read Closing b s t = shut (close everything s t).0 (close everything s t).1
  where_read Reading b s t = stuck
  where_read Meaningless b s t = stuck

  module _ (k : ℕ → Class) where
    -- one token, and tokens one after the other
    abbrev pub step : ℕ → State → State
    step c (due s) = where_due (k c) c s
    step c (have s t) = where_read (k c) c s t
    step c stuck = stuck

    abbrev pub run : List ℕ → State → State
    run [] m = m
    run (c ∷ cs) m = run cs (step c m)

    -- the state after the first tokens of a row
    abbrev pub state_after : List ℕ → State
    state_after tokens = run tokens (due bottom)

    -- the tree that the machine makes of a row
    unfoldable pub parse : List ℕ → Option Tree
    parse tokens = finish (state_after tokens)

-- the tree that is made of a row over a sheet's operators
unfoldable pub made : Operators → (ℕ → ℕ → Bool) → List ℕ → Option Tree
made ops closes tokens = parse closes (class ops) tokens
