-- Reading a row from the left into notes: what each step leaves, in terms of the machine's states. Assumes nothing.
use Rattle.std.specs.Prelude.{ℕ, suc, ◌+◌, ◌-◌, ◌≤◌, ◌<◌, ◌≡◌, Bool, not, ◌&&◌, cond, List, [], ◌∷◌, ◌++◌, eqb, ltb, length, get_or, take, set}
use Rattle.std.proofs.Math.Option.{some}
use Rattle.expression.specs.Lists.{one_if}
use Rattle.expression.specs.Limits.{most_operators, most_tokens}
use Rattle.expression.specs.Token.{Infix, Prefix, closing, Operators, class}
use Rattle.expression.specs.Tree.{Tree, record_of, Over}
use Rattle.expression.specs.Checks.{record_bytes}
use Rattle.sheet.specs.Layout.{prefix_in}
use Rattle.disambiguation.specs.LeftToRight.{after, ahead, Stack, bottom, opened, waiting, State, due, have, stuck, remains, everything, before, step}
use Rattle.disambiguation.specs.LeftToRight.{state_after, made}
use Rattle.parser.specs.Notes.{note, raised, notes_below, notes_at}

-- What is held of a row while it is read from the left: a word for each token so far, in a buffer; how many these are; and which is the first of the operand
-- that was read last. Right before that one stands what waits nearest.
pub record Held : Type 0 where
  pub words : List ℕ
  pub count : ℕ
  pub first : ℕ

-- what is always true of it
pub record IsHeld (h : Held) : Type 0 where
  pub ordered : h.first ≤ h.count
  pub inside : h.count ≤ most_tokens
  pub full : length h.words ≡ most_tokens

-- a token's share of the record: none for a closing bracket
unfoldable pub share : ℕ → ℕ
share c = one_if (not (eqb c closing))

-- one token more, over a sheet's operators
abbrev pub next : Operators → (ℕ → ℕ → Bool) → ℕ → State → State
next ops closes = step closes (class ops)

-- The sheet has operator c as an infix one, if it has it at all.
unfoldable pub infix_in : List ℕ → ℕ → Bool
infix_in sheet c = ltb c most_operators && not (prefix_in sheet c)

-- The machine goes on.
abbrev pub Goes : State → Type 0
Goes (due s) = Unit {0}
Goes (have s t) = Unit {0}
Goes stuck = ⊥

-- What waits and what has been read is over the operators.
abbrev pub OverBelow : Operators → Stack → Type 0
OverBelow ops bottom = Unit {0}
OverBelow ops (opened s) = OverBelow ops s
OverBelow ops (waiting (after l o) s) = (class ops o ≡ Infix) × Over (class ops) l × OverBelow ops s
OverBelow ops (waiting (ahead p) s) = (class ops p ≡ Prefix) × OverBelow ops s

abbrev pub OverAt : Operators → State → Type 0
OverAt ops (due s) = OverBelow ops s
OverAt ops (have s t) = OverBelow ops s × Over (class ops) t
OverAt ops stuck = Unit {0}

-- the place where the operand that was read last begins
abbrev pub Begins : State → ℕ → Type 0
Begins (due s) first = Unit {0}
Begins (have s t) first = first ≡ length (notes_below s)
Begins stuck first = Unit {0}

-- What closes where the token c comes: what closes before it, and all back to its bracket if it is a closing one.
abbrev pub closed_by : (ℕ → ℕ → Bool) → ℕ → ℕ → Bool
closed_by closes c = cond (eqb c closing) everything (before closes c)

-- The byte of something that waits closes where c comes; an opening bracket does not.
unfoldable pub ends : (ℕ → ℕ → Bool) → ℕ → ℕ → Bool
ends closes c a = ltb a most_operators && closed_by closes c a

-- The words before `first` are the notes of what waits.
pub record Waits (ops : Operators) (words : List ℕ) (first : ℕ) (s : Stack) : Type 0 where
  pub noted : take first words ≡ notes_below s
  pub over : OverBelow ops s
  pub inside : first ≤ length words

pub record SomeWait (ops : Operators) (words : List ℕ) (first : ℕ) : Type 0 where
  pub stack : Stack
  pub stands : Waits ops words first stack

-- The words before the count are the notes of the state.
pub record Noted (ops : Operators) (h : Held) (m : State) : Type 0 where
  pub noted : take h.count h.words ≡ notes_at m
  pub begins : Begins m h.first
  pub over : OverAt ops m
  pub held : IsHeld h

module _ (ops : Operators) (closes : ℕ → ℕ → Bool) (c : ℕ) where
  -- Where c came, the words before `first` are those of what still waits.
  pub record Closes (words : List ℕ) (from first : ℕ) : Type 0 where
    pub left : (s : Stack) → Waits ops words from s → Waits ops words first (remains (closed_by closes c) s)
    pub lower : first ≤ from

  -- The token c can be taken, and it has been taken.
  pub record Takeable (h : Held) : Type 0 where
    pub state : State
    pub stands : Noted ops h state
    pub goes : Goes (next ops closes c state)

  pub record Takes (h h' : Held) : Type 0 where
    pub taken : (m : State) → Noted ops h m → Goes (next ops closes c m) → Noted ops h' (next ops closes c m)
    pub counted : h'.count ≡ h.count + share c

-- One word more, and an operand begins at `first`.
pub record Adds (w first : ℕ) (h h' : Held) : Type 0 where
  pub added : take (suc h.count) h'.words ≡ take h.count h.words ++ w ∷ []
  pub counted : h'.count ≡ h.count + 1
  pub first_is : h'.first ≡ first
  pub held : IsHeld h'

-- The word at `first`, one of those before the count, has room for one place more.
pub record Raisable (h : Held) (first : ℕ) : Type 0 where
  pub before_count : first < h.count
  pub small : raised (get_or h.words first 0) < 0x100000000

-- A place is left free before the token at `first`, and the operator c has its note.
pub record Frees (c first : ℕ) (h h' : Held) : Type 0 where
  pub added : take (suc h.count) h'.words ≡ set (take h.count h.words) first (raised (get_or h.words first 0)) ++ note c 0 (h.count - first) ∷ []
  pub counted : h'.count ≡ h.count + 1
  pub first_is : h'.first ≡ first
  pub held : IsHeld h'

-- The machine makes a tree of the row, and its record has the bytes that are counted in the row.
pub record Buildable (ops : Operators) (closes : ℕ → ℕ → Bool) (row : List ℕ) : Type 0 where
  pub tree : Tree
  pub makes : made ops closes row ≡ some tree
  pub over : Over (class ops) tree
  pub measured : length (record_of tree) ≡ record_bytes row

-- Tokens with which some row begins that the machine makes a tree of: a row, or any beginning of it.
pub record Beginning (ops : Operators) (closes : ℕ → ℕ → Bool) (tokens : List ℕ) : Type 0 where
  pub rest : List ℕ
  pub tree : Tree
  pub makes : made ops closes (tokens ++ rest) ≡ some tree

-- They were read, from the left: the words are the notes of the machine's state after them.
pub record Reads (ops : Operators) (closes : ℕ → ℕ → Bool) (tokens : List ℕ) (h : Held) : Type 0 where
  pub stands : Noted ops h (state_after closes (class ops) tokens)
