-- What a build notes of the tokens that it has read from the left, and the record that the notes lay out. Assumes nothing.
--     Each token of the record, so every token of the row but a closing bracket, gets a word, in the order of the row. In the record an operator stands before its left
--     operand, which was read before it: so before an operand a place is left free for each operator that takes what begins there as its left operand.
use Rattle.std.specs.Prelude.{ℕ, suc, ◌+◌, ◌*◌, ◌-◌, ◌/◌, ◌%◌, ◌<◌, List, [], ◌∷◌, ◌++◌, length, set}
use Rattle.expression.specs.Token.{opening}
use Rattle.expression.specs.Tree.{Tree, reading, bracket, binary, prefix, record_of}
use Rattle.disambiguation.specs.LeftToRight.{after, ahead, Stack, bottom, opened, waiting, State, due, have, stuck}

-- A token's word: its byte; the places by which the record grows with it, its own and those left free before it, and none for an infix operator, which has a free one;
-- and the tokens that it goes back over, those of an infix operator's left operand.
unfoldable pub note : ℕ → ℕ → ℕ → ℕ
note byte places back = byte + 0x100 * (places + 0x100 * back)

-- with one place more
abbrev pub raised : ℕ → ℕ
raised w = w + 0x100

unfoldable pub byte_in : ℕ → ℕ
byte_in w = w % 0x100

unfoldable pub places_in : ℕ → ℕ
places_in w = w / 0x100 % 0x100

unfoldable pub back_in : ℕ → ℕ
back_in w = w / 0x10000

-- The notes of a tree, with so many places left free before it for operators above.
abbrev pub notes_of : ℕ → Tree → List ℕ
notes_of free (reading a) = note a (suc free) 0 ∷ []
notes_of free (bracket t) = note opening (suc free) 0 ∷ notes_of 0 t
notes_of free (binary o l r) = notes_of (suc free) l ++ note o 0 (length (record_of l)) ∷ notes_of 0 r
notes_of free (prefix p t) = note p (suc free) 0 ∷ notes_of 0 t

-- The notes of what waits: brackets that are open, infix operators with their left operands, prefix operators.
abbrev pub notes_below : Stack → List ℕ
notes_below bottom = []
notes_below (opened s) = notes_below s ++ note opening 1 0 ∷ []
notes_below (waiting (after l o) s) = notes_below s ++ notes_of 1 l ++ note o 0 (length (record_of l)) ∷ []
notes_below (waiting (ahead p) s) = notes_below s ++ note p 1 0 ∷ []

-- The notes of a state of the machine.
abbrev pub notes_at : State → List ℕ
notes_at (due s) = notes_below s
notes_at (have s t) = notes_below s ++ notes_of 0 t
notes_at stuck = []

-- The place of a token, where the record has grown to `at` with it.
abbrev pub place_of : ℕ → ℕ → ℕ
place_of w at = at - suc (back_in w)

-- The tokens are written to a record that has grown to `at`.
unfoldable pub laid_out : List ℕ → ℕ → List ℕ → List ℕ
laid_out [] at out = out
laid_out (w ∷ ws) at out = laid_out ws (at + places_in w) (set out (place_of w (at + places_in w)) (byte_in w))

-- Each of them has its place in an output of that length.
unfoldable pub Inside : ℕ → List ℕ → ℕ → Type 0
Inside room [] at = Unit {0}
Inside room (w ∷ ws) at = (back_in w < at + places_in w) × (place_of w (at + places_in w) < room) × Inside room ws (at + places_in w)
