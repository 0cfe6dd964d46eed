-- A run is a list of turns: what each takes in, lays ready to be written and leaves. Assumes nothing.
use Rattle.std.specs.Prelude.{ℕ, ◌≡◌, Bool, true, false, List, [], ◌∷◌, ◌++◌, ltb, length, take}
use Rattle.std.specs.declared.ops.ControlFlow.{ControlFlow}
use Rattle.std.specs.declared.ops.ControlFlow.TheVariants.{Continue, Break}
use Rattle.run.specs.Panel.{Panel}
use Rattle.panel.specs.Lines.{with_ends, after_lines, replies, panel_at_end, last_reply}
use Rattle.panel.specs.CallContracts.{most_kept, most_filled, Answers}

-- with so much of it filled the output has no room for one more reply
abbrev pub is_full : ℕ → Bool
is_full filled = ltb most_filled filled

-- What a turn takes in: lines for whose replies the turn before had no room, or a read: it failed, or gave nothing since the input ended, or gave
-- bytes.
pub data Event : Type 0 where
  more : Event
  failed : Event
  ended : Event
  gave : (bytes : List ℕ) → Event

-- what a read gave
abbrev pub bytes_of : Event → List ℕ
bytes_of more = []
bytes_of failed = []
bytes_of ended = []
bytes_of (gave bytes) = bytes

-- whether a turn follows
abbrev pub goes_on_after : Event → Bool
goes_on_after more = true
goes_on_after failed = false
goes_on_after ended = false
goes_on_after (gave bytes) = true

-- whether it takes lines for which there was no room
abbrev pub is_more : Event → Bool
is_more more = true
is_more failed = false
is_more ended = false
is_more (gave bytes) = false

-- A turn at panel p with these bytes left. A read stands behind what is kept of them.
unfoldable pub Takes : (p : Panel) (left : List ℕ) → Event → (laid left' : List ℕ) (later : Panel) → Type 0
Takes p left more laid left' later = Answers p left laid left' later
Takes p left failed laid left' later = (laid ≡ []) × (later ≡ p)
Takes p left ended laid left' later = (laid ≡ last_reply p (take most_kept left)) × (later ≡ panel_at_end p (take most_kept left))
Takes p left (gave bytes) laid left' later = Answers p (take most_kept left ++ bytes) laid left' later

-- A turn was made up to the write: what it laid ready is in the output, and what it left in the input. A read was made but where the turn before
-- had filled the output.
pub record Steps (p : Panel) (left : List ℕ) (full : Bool) (left' out : List ℕ) (go : Bool) (later : Panel) : Type 0 where
  pub event : Event
  pub kind : is_more event ≡ full
  pub takes : Takes p left event out left' later
  pub goes : go ≡ goes_on_after event

-- how many bytes were handed to the write call
abbrev pub handed_in : ControlFlow ℕ ℕ → ℕ
handed_in (Continue count) = count
handed_in (Break count) = count

-- whether a turn follows
abbrev pub goes_in : ControlFlow ℕ ℕ → Bool
goes_in (Continue count) = true
goes_in (Break count) = false

-- A turn was made: so many bytes as were laid ready were handed to the write call. The program goes on only if they were written.
pub record Turns (p : Panel) (left : List ℕ) (full : Bool) (left' out : List ℕ) (r : ControlFlow ℕ ℕ) (later : Panel) : Type 0 where
  pub goes_on : Bool
  pub steps : Steps p left full left' out goes_on later
  pub handed : handed_in r ≡ length out
  pub goes : goes_in r ≡ true → goes_on ≡ true

-- ---- a run
-- a turn: what it took in, what it laid ready, what it left, and the panel after it
pub record Turn : Type 0 where
  pub event : Event
  pub laid : List ℕ
  pub left : List ℕ
  pub after : Panel

-- After turns, the last one first: the panel, what is left, what the last one laid ready, and whether a turn follows.
unfoldable pub panel_after : Panel → List Turn → Panel
panel_after p [] = p
panel_after p (t ∷ turns) = t.after

unfoldable pub left_after : List Turn → List ℕ
left_after [] = []
left_after (t ∷ turns) = t.left

unfoldable pub laid_last : List Turn → List ℕ
laid_last [] = []
laid_last (t ∷ turns) = t.laid

unfoldable pub goes_after : List Turn → Bool
goes_after [] = true
goes_after (t ∷ turns) = goes_on_after t.event

-- each turn follows the ones before it
unfoldable pub InTurn : Panel → List Turn → Type 0
InTurn p [] = Unit {0}
InTurn p (t ∷ turns) =
    (goes_after turns ≡ true) × (is_more t.event ≡ is_full (length (laid_last turns)))
    × Takes (panel_after p turns) (left_after turns) t.event t.laid t.left t.after × InTurn p turns

-- all bytes that the reads gave, and all that was laid ready, in order
unfoldable pub given : List Turn → List ℕ
given [] = []
given (t ∷ turns) = given turns ++ bytes_of t.event

unfoldable pub all_laid : List Turn → List ℕ
all_laid [] = []
all_laid (t ∷ turns) = all_laid turns ++ t.laid

-- Turns were made, one after the other, and what the last one laid ready and left is in the output and the input; so many bytes were handed to
-- the write call. (That what the reads gave is the input is the read call's.)
pub record Made (p : Panel) (left out : List ℕ) (handed : ℕ) (go : Bool) (later : Panel) : Type 0 where
  pub turns : List Turn
  pub in_turn : InTurn p turns
  pub laid : out ≡ laid_last turns
  pub left_is : left ≡ left_after turns
  pub stands : later ≡ panel_after p turns
  pub goes : go ≡ true → goes_after turns ≡ true
  pub all : handed ≡ length out

-- A proved loop has to end: more turns are not made.
abbrev pub most_turns : ℕ
most_turns = 18446744073709551615

-- A run: turns were made until the input ended, a read failed or a write did.
pub record Runs (p : Panel) (left out : List ℕ) (r : ControlFlow ℕ ℕ) (later : Panel) : Type 0 where
  pub made : Made p left out (handed_in r) (goes_in r) later
  pub until : goes_in r ≡ true → length made.turns ≡ most_turns

-- What was laid ready over turns, and the panel after them, are those of these lines and a last one without line end.
pub record Answered (p : Panel) (turns : List Turn) (lines : List (List ℕ)) (last : List ℕ) : Type 0 where
  pub written : all_laid turns ≡ with_ends (replies p lines) ++ last_reply (after_lines p lines) last
  pub stands : panel_after p turns ≡ panel_at_end (after_lines p lines) last
