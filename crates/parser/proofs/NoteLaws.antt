-- What stands in a note, and what the notes of a tree begin with and how many they are. Assumes nothing.
use Prim.Native.Nat.{ℕ, suc, ◌+◌, ◌≤◌, ◌<◌}
use native.Mathlib.Omega.{arith}
use mathlib.Core.Path.{◌≡◌, refl, sym, ap}
use mathlib.Core.List.{List, [], ◌∷◌, ◌++◌}
use lib.ListN.{length, length-append}
use Rattle.expression.specs.Limits.{most_tokens}
use Rattle.expression.specs.Token.{opening, Operators, class}
use Rattle.expression.specs.Tree.{Tree, reading, bracket, binary, prefix, record_of, Over}
use Rattle.expression.proofs.Classes.{reading_byte, prefix_byte}
use Rattle.parser.specs.Notes.{note, raised, byte_in, places_in, back_in, notes_of}

-- ---- the parts of a note
module _ (c p b : ℕ) where
  pub byte_note : c < 0x100 → byte_in (note c p b) ≡ c
  unfolding note byte_in
  byte_note h = omega arith

  pub places_note : c < 0x100 → p < 0x100 → places_in (note c p b) ≡ p
  unfolding note places_in
  places_note h g = omega arith

  pub back_note : c < 0x100 → p < 0x100 → back_in (note c p b) ≡ b
  unfolding note back_in
  back_note h g = omega arith

  -- a place more
  one_more : raised (note c p b) ≡ note c (suc p) b
  unfolding note
  one_more = omega arith

-- the note of a token that goes back over none has room for one place more
note_small : (c p : ℕ) → c < 0x100 → p < 0x100 → raised (note c p 0) < 0x100000000
unfolding note
note_small c p h g = omega arith

-- ---- the notes of a tree
-- each node has one
pub length_notes_of : (free : ℕ) (t : Tree) → length (notes_of free t) ≡ length (record_of t)
length_notes_of free (reading a) = refl
length_notes_of free (bracket t) = ap suc (length_notes_of 0 t)
length_notes_of free (prefix p t) = ap suc (length_notes_of 0 t)
length_notes_of free (binary o l r) =
    let e = length-append (notes_of (suc free) l) (note o 0 (length (record_of l)) ∷ notes_of 0 r) in
    let g = length-append (record_of l) (record_of r) in
    omega (arith, length_notes_of (suc free) l, length_notes_of 0 r)

-- A place more left free before a tree is a place more in its first note.
pub first_note : (ops : Operators) (free : ℕ) (t : Tree) → Over (class ops) t → free + length (record_of t) ≤ most_tokens
    → (w : ℕ) × (ws : List ℕ) × (notes_of free t ≡ w ∷ ws) × (notes_of (suc free) t ≡ raised w ∷ ws) × (raised w < 0x100000000)
first_note ops free (reading a) v g = (
  note a (suc free) 0,
  [],
  refl,
  ap (λ (w : ℕ). w ∷ []) (sym (one_more a (suc free) 0)),
  note_small a (suc free) (omega (arith, reading_byte ops a v)) (omega arith),
)
first_note ops free (bracket t) v g = (
  note opening (suc free) 0,
  notes_of 0 t,
  refl,
  ap (λ (w : ℕ). w ∷ notes_of 0 t) (sym (one_more opening (suc free) 0)),
  note_small opening (suc free) (omega arith) (omega arith),
)
first_note ops free (binary o l r) v g =
    let R : List ℕ = note o 0 (length (record_of l)) ∷ notes_of 0 r in
    let fits : suc free + length (record_of l) ≤ most_tokens = omega (arith, length-append (record_of l) (record_of r)) in
    let (w, ws, e, f, small) = first_note ops (suc free) l v.1 fits in
    (w, ws ++ R, ap (λ (s : List ℕ). s ++ R) e, ap (λ (s : List ℕ). s ++ R) f, small)
first_note ops free (prefix p t) v g = (
  note p (suc free) 0,
  notes_of 0 t,
  refl,
  ap (λ (w : ℕ). w ∷ notes_of 0 t) (sym (one_more p (suc free) 0)),
  note_small p (suc free) (omega (arith, prefix_byte ops p v.0)) (omega arith),
)
