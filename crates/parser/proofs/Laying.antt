-- What the notes of a tree lay out is its record, and all of it has a place. Assumes nothing.
use Prim.Native.Nat.{ℕ, suc, ◌+◌, ◌-◌, ◌≤◌, ◌<◌}
use native.Mathlib.Omega.{arith}
use mathlib.Core.Path.{◌≡◌, sym, ap, ◌∙◌, subst}
use mathlib.Core.List.{List, [], ◌∷◌, ◌++◌, append_assoc, append-nil}
use lib.ListN.{length, take, drop, set, length-append, take-append-drop, drop_of_length-le}
use lib.Seq.{sets, sets-eq, take_at}
use Rattle.expression.specs.Limits.{most_tokens}
use Rattle.expression.specs.Token.{opening, Operators, class}
use Rattle.expression.specs.Tree.{Tree, reading, bracket, binary, prefix, record_of, Over}
use Rattle.expression.proofs.Classes.{reading_byte, infix_byte, prefix_byte}
use Rattle.expression.proofs.Stores.{sets_append, set_sets}
use Rattle.parser.specs.Notes.{note, places_in, notes_of, laid_out, Inside}
use Rattle.parser.proofs.NoteLaws.{byte_note, places_note, back_note, length_notes_of}

-- ---- one note
module _ (c p b : ℕ) (byte : c < 0x100) (few : p < 0x100) (at grown place : ℕ) (grows : at + p ≡ grown) (goes_Back : grown - suc b ≡ place) (ws : List ℕ) where
  laid_note : (out : List ℕ) → laid_out (note c p b ∷ ws) at out ≡ laid_out ws grown (set out place c)
  unfolding laid_out
  laid_note out = cc (byte_note c p b byte, places_note c p b byte few, back_note c p b byte few)

  inside_note : (room : ℕ) → b < grown → place < room → Inside room ws grown → Inside room (note c p b ∷ ws) at
  unfolding Inside
  inside_note room h g v =
      let q = places_note c p b byte few in
      let s = back_note c p b byte few in
      let e : at + places_in (note c p b) ≡ grown = cc in
      (omega arith, omega arith, subst (Inside room ws) (sym e) v)

-- ---- all notes of a tree
module _ (o : ℕ) (l r : Tree) (free : ℕ) (rest : List ℕ) where
  -- what follows the left operand
  abbrev onward : List ℕ
  onward = note o 0 (length (record_of l)) ∷ (notes_of 0 r ++ rest)

  notes_node : notes_of free (binary o l r) ++ rest ≡ notes_of (suc free) l ++ onward
  notes_node = append_assoc (notes_of (suc free) l) (note o 0 (length (record_of l)) ∷ notes_of 0 r) rest

-- From its first token on, a tree is written where places were left free for it.
pub laid_notes : (ops : Operators) (t : Tree) → Over (class ops) t → (free at : ℕ) (rest out : List ℕ) → free + length (record_of t) ≤ most_tokens
    → laid_out (notes_of free t ++ rest) at out ≡ laid_out rest (at + free + length (record_of t)) (sets out (at + free) (record_of t))
laid_notes ops (reading a) v free at rest out h =
    laid_note a (suc free) 0 (omega (arith, reading_byte ops a v)) (omega arith) at (at + free + 1) (at + free) (omega arith) (omega arith) rest out
laid_notes ops (bracket t) v free at rest out h =
    let n : ℕ = length (record_of t) in
    let e : suc (at + free) + 0 + n ≡ at + free + suc n = omega arith in
    let f : suc (at + free) + 0 ≡ suc (at + free) = omega arith in
    laid_note opening (suc free) 0 (omega arith) (omega arith) at (suc (at + free)) (at + free) (omega arith) (omega arith) (notes_of 0 t ++ rest) out
    ∙ laid_notes ops t v 0 (suc (at + free)) rest (set out (at + free) opening) (omega arith)
    ∙ cc
laid_notes ops (prefix p t) v free at rest out h =
    let n : ℕ = length (record_of t) in
    let e : suc (at + free) + 0 + n ≡ at + free + suc n = omega arith in
    let f : suc (at + free) + 0 ≡ suc (at + free) = omega arith in
    laid_note p (suc free) 0 (omega (arith, prefix_byte ops p v.0)) (omega arith) at (suc (at + free)) (at + free) (omega arith) (omega arith)
    (notes_of 0 t ++ rest) out
    ∙ laid_notes ops t v.1 0 (suc (at + free)) rest (set out (at + free) p) (omega arith)
    ∙ cc
laid_notes ops (binary o l r) v free at rest out h =
    let m : ℕ = length (record_of l) in
    let n : ℕ = length (record_of r) in
    let size : length (record_of l ++ record_of r) ≡ m + n = length-append (record_of l) (record_of r) in
    let place : at + suc free ≡ suc (at + free) = omega arith in
    let moved : suc (at + free) + m + 0 ≡ suc (at + free) + m = omega arith in
    let end : suc (at + free) + m + 0 + n ≡ at + free + suc (length (record_of l ++ record_of r)) = omega arith in
    ap (λ (ws : List ℕ). laid_out ws at out) (notes_node o l r free rest)
    ∙ laid_notes ops l v.1 (suc free) at (onward o l r free rest) out (omega arith)
    ∙ laid_note o 0 m (omega (arith, infix_byte ops o v.0)) (omega arith) (at + suc free + m) (suc (at + free) + m) (at + free) (omega arith) (omega arith)
    (notes_of 0 r ++ rest) (sets out (at + suc free) (record_of l))
    ∙ laid_notes ops r v.2 0 (suc (at + free) + m) rest (set (sets out (at + suc free) (record_of l)) (at + free) o) (omega arith)
    ∙ cc (
      set_sets out (at + free) (suc (at + free)) o (record_of l) (omega arith),
      sets_append (set out (at + free) o) (suc (at + free))
          (record_of l) (record_of r),
    )

-- All of it has a place, if there is room for it.
pub inside_notes : (ops : Operators) (t : Tree) → Over (class ops) t → (room free at : ℕ) (rest : List ℕ) → free + length (record_of t) ≤ most_tokens
    → at + free + length (record_of t) ≤ room
    → Inside room rest (at + free + length (record_of t)) → Inside room (notes_of free t ++ rest) at
inside_notes ops (reading a) v room free at rest h g k =
    inside_note a (suc free) 0 (omega (arith, reading_byte ops a v)) (omega arith) at (at + free + 1) (at + free) (omega arith) (omega arith) rest
    room (omega arith) (omega arith) k
inside_notes ops (bracket t) v room free at rest h g k =
    let n : ℕ = length (record_of t) in
    let e : at + free + suc n ≡ suc (at + free) + 0 + n = omega arith in
    inside_note opening (suc free) 0 (omega arith) (omega arith) at (suc (at + free)) (at + free) (omega arith) (omega arith) (notes_of 0 t ++ rest)
    room (omega arith) (omega arith)
    (inside_notes ops t v room 0 (suc (at + free)) rest (omega arith) (omega arith) (rw e at k))
inside_notes ops (prefix p t) v room free at rest h g k =
    let n : ℕ = length (record_of t) in
    let e : at + free + suc n ≡ suc (at + free) + 0 + n = omega arith in
    inside_note p (suc free) 0 (omega (arith, prefix_byte ops p v.0)) (omega arith) at (suc (at + free)) (at + free) (omega arith) (omega arith)
    (notes_of 0 t ++ rest)
    room (omega arith) (omega arith)
    (inside_notes ops t v.1 room 0 (suc (at + free)) rest (omega arith) (omega arith) (rw e at k))
inside_notes ops (binary o l r) v room free at rest h g k =
    let m : ℕ = length (record_of l) in
    let n : ℕ = length (record_of r) in
    let size : length (record_of l ++ record_of r) ≡ m + n = length-append (record_of l) (record_of r) in
    let end : at + free + suc (length (record_of l ++ record_of r)) ≡ suc (at + free) + m + 0 + n = omega arith in
    subst (λ (ws : List ℕ). Inside room ws at) (sym (notes_node o l r free rest))
    (inside_notes ops l v.1 room (suc free) at (onward o l r free rest) (omega arith) (omega arith)
    (inside_note o 0 m (omega (arith, infix_byte ops o v.0)) (omega arith) (at + suc free + m) (suc (at + free) + m) (at + free) (omega arith) (omega arith)
    (notes_of 0 r ++ rest) room (omega arith) (omega arith)
    (inside_notes ops r v.2 room 0 (suc (at + free) + m) rest (omega arith) (omega arith) (rw end at k))))

-- ---- a whole record
module _ (ops : Operators) (t : Tree) (v : Over (class ops) t) (few : length (record_of t) ≤ most_tokens) where
  laid_record : (out : List ℕ) → length (record_of t) ≡ length out → laid_out (notes_of 0 t) 0 out ≡ record_of t
  unfolding laid_out
  laid_record out e =
      let past : length out ≤ 0 + length (record_of t) = omega arith in
      ap (λ (ws : List ℕ). laid_out ws 0 out) (sym (append-nil (notes_of 0 t)))
      ∙ laid_notes ops t v 0 0 [] out (omega arith)
      ∙ sets-eq (record_of t) out 0 (omega arith)
      ∙ ap (λ (s : List ℕ). record_of t ++ s) (drop_of_length-le out past)
      ∙ append-nil (record_of t)

  inside_record : Inside (length (record_of t)) (notes_of 0 t) 0
  unfolding Inside
  inside_record = subst (λ (ws : List ℕ). Inside (length (record_of t)) ws 0) (append-nil (notes_of 0 t))
      (inside_notes ops t v (length (record_of t)) 0 0 [] (omega arith) (omega arith) tt)

  -- ---- words that begin with the notes
  module _ (words : List ℕ) (count : ℕ) (noted : take count words ≡ notes_of 0 t) (out : List ℕ) (e : length (record_of t) ≡ length out) where
    split : words ≡ notes_of 0 t ++ drop count words
    split = sym (take-append-drop count words) ∙ ap (λ (s : List ℕ). s ++ drop count words) noted

    as_many : length (notes_of 0 t) ≡ length out
    as_many = length_notes_of 0 t ∙ e

    first_words : take (length out) words ≡ notes_of 0 t
    first_words = ap (take (length out)) split ∙ take_at (notes_of 0 t) (drop count words) (length out) as_many

    pub enough_words : length out ≤ length words
    enough_words = omega (arith, ap length split, length-append (notes_of 0 t) (drop count words), as_many)

    pub words_inside : Inside (length out) (take (length out) words) 0
    words_inside = subst (λ (n : ℕ). Inside n (take (length out) words) 0) e
        (subst (λ (ws : List ℕ). Inside (length (record_of t)) ws 0) (sym first_words) inside_record)

    pub words_laid : laid_out (take (length out) words) 0 out ≡ record_of t
    words_laid = ap (λ (ws : List ℕ). laid_out ws 0 out) first_words ∙ laid_record out e
