-- The slots of a store: the record at a place, and what a write changes, in terms of the layout. Assumes nothing.
use mathlib.Core.Path.{◌≡◌, refl, ap}
use mathlib.Core.Logic.{◌≢◌}
use mathlib.Core.List.{List, [], ◌∷◌}
use Prim.Native.Nat.{ℕ, ◌-◌, ◌<◌, ◌≤◌}
use native.Mathlib.Decide.{dec_lt}
use native.Mathlib.Omega.{arith}
use lib.ListN.{length, get_or, take, drop, replicate, length-take}
use lib.Seq.{sets, take-append_seam, take-take}
use borrow.Author.Tests.{lt-ltb, le-leb}
use Rattle.expression.specs.Limits.{most_record_bytes}
use Rattle.run.specs.Image.{image_of}
use Rattle.run.specs.Places.{place_count}
use Rattle.run.proofs.Images.{length_image}
use Rattle.places.specs.Store.{slot_bytes, slot_at, slot_of, record_in, record_at, written}
use Rattle.places.proofs.Parts.{part_past, part_ahead}

-- ---- the record in a slot
pub record_in_image : (bytes : List ℕ) → record_in (image_of bytes) ≡ bytes
unfolding image_of
record_in_image bytes = take-append_seam bytes (replicate (most_record_bytes - length bytes) 0)

pub record_in_slot : (l : List ℕ) → get_or l 0 0 ≤ most_record_bytes → record_in (take slot_bytes l) ≡ take (get_or l 0 0) (drop 1 l)
record_in_slot [] h = refl
record_in_slot (n ∷ bytes) h = take-take n most_record_bytes bytes h

pub short_record : (slot : List ℕ) → length slot ≤ slot_bytes → length (record_in slot) ≤ most_record_bytes
short_record [] h = omega arith
short_record (n ∷ bytes) h = simp length-take (omega arith)

pub no_record : (slot : List ℕ) → get_or slot 0 0 ≡ 0 → record_in slot ≡ []
no_record [] e = refl
no_record (n ∷ bytes) e = ap (λ (k : ℕ). take k bytes) e

-- ---- places
pub at_slot : (store : List ℕ) (place : ℕ) → place < place_count → record_at store place ≡ record_in (slot_of store place)
unfolding record_at
at_slot store place h = rw (lt-ltb place place_count h)

module _ (store : List ℕ) (place : ℕ) (bytes : List ℕ) where
  pub written_in_slot : place < place_count → length bytes ≤ most_record_bytes → written store place bytes ≡ sets store (slot_at place) (image_of bytes)
  unfolding written
  written_in_slot h k = rw (lt-ltb place place_count h, le-leb (length bytes) most_record_bytes k)

  -- the other slots are as before
  pub slot_kept : (other : ℕ) → place ≢ other → length bytes ≤ most_record_bytes → slot_of (sets store (slot_at place) (image_of bytes)) other ≡ slot_of store other
  slot_kept other ne k =
      let e = length_image bytes k in
      elim (dec_lt place other) [
        | yes h ↦ part_past (slot_at other) slot_bytes store (slot_at place) (image_of bytes) (omega arith)
        | no h ↦ part_ahead (slot_at other) slot_bytes store (slot_at place) (image_of bytes) (omega arith)
      ]
