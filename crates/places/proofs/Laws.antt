-- Laws of a store: the record at a place, the records in it, and the store after a write. Assumes nothing.
use mathlib.Core.Path.{◌≡◌, refl, sym, ap, ◌∙◌}
use mathlib.Core.Logic.{◌≢◌}
use mathlib.Core.Bool.{◌&&◌, cond, and-false}
use mathlib.Core.List.{List, []}
use Prim.Native.Nat.{ℕ, zero, suc, ◌+◌, ◌<◌, ◌≤◌}
use native.Mathlib.Decide.{dec_lt, ℕ_discrete}
use native.Mathlib.Omega.{arith}
use lib.Dec.{ltb, leb}
use lib.ListN.{length, take, drop, get_or, length-take, length-set, get_or-replicate, get_or-eq_default}
use lib.Seq.{sets, get_or-take, get_or-drop, get_or-set_same, get_or-set_other, ext_get_or}
use borrow.Author.Tests.{ltb-true, le-ltb, lt-leb}
use Rattle.expression.specs.Limits.{most_record_bytes}
use Rattle.expression.proofs.Cond.{by_cond}
use Rattle.run.specs.Image.{image_of}
use Rattle.run.specs.Places.{place_count, held, stored}
use Rattle.run.specs.Places as places
use Rattle.run.specs.Panel.{panel}
use Rattle.run.specs.Panel as run
use Rattle.run.proofs.Images.{length_image}
use Rattle.run.proofs.Places.{length_fresh, held_fresh}
use Rattle.places.specs.Store.{slot_bytes, store_bytes, slot_at, slot_of, record_in, record_at, records_from, records_in, written, fresh}
use Rattle.places.specs.Memory.{memory, panel_in}
use Rattle.places.proofs.Parts.{part_written}
use Rattle.places.proofs.Slots.{record_in_image, short_record, no_record, at_slot, written_in_slot, slot_kept}

-- ---- the record at a place
module _ (store : List ℕ) (place : ℕ) where
  at_over : place_count ≤ place → record_at store place ≡ []
  unfolding record_at
  at_over h = rw (le-ltb place place_count h)

  -- It is never longer than a record may be.
  at_length : length (record_at store place) ≤ most_record_bytes
  unfolding record_at
  at_length =
      by_cond (λ (r : List ℕ). length r ≤ most_record_bytes) (ltb place place_count)
      (λ _. short_record (slot_of store place) (simp length-take (omega arith)))
      (λ _. omega arith)

at_fresh : (place : ℕ) → record_at fresh place ≡ []
unfolding record_at fresh
at_fresh place =
    by_cond (λ (r : List ℕ). r ≡ []) (ltb place place_count)
    (λ e.
    let h = ltb-true place place_count e in
    no_record (slot_of fresh place)
    (get_or-take slot_bytes (drop (slot_at place) fresh) 0 0 (omega arith) ∙ get_or-drop (slot_at place) fresh 0 0
    ∙ get_or-replicate {A = ℕ} store_bytes (slot_at place + 0) 0 0 (omega arith)))
    (λ _. refl)

-- ---- the records in a store
module _ (store : List ℕ) where
  from_length : (place n : ℕ) → length (records_from store place n) ≡ n
  unfolding records_from
  from_length place zero = refl
  from_length place (suc n) = ap suc (from_length (suc place) n)

  from_at : (place n i : ℕ) → i < n → get_or (records_from store place n) i [] ≡ record_at store (place + i)
  unfolding records_from
  from_at place zero i h = absurd (omega arith)
  from_at place (suc n) zero h = ap (record_at store) (omega arith)
  from_at place (suc n) (suc i) h = from_at (suc place) n i (omega arith) ∙ ap (record_at store) (omega arith)

  -- There are sixteen,
  pub records_length : length (records_in store) ≡ place_count
  unfolding records_in
  records_length = from_length 0 place_count

  -- and a place holds the one that stands at it.
  pub held_at : (place : ℕ) → held (records_in store) place ≡ record_at store place
  unfolding held records_in
  held_at place =
      elim (dec_lt place place_count) [
        | yes h ↦ from_at 0 place_count place h ∙ ap (record_at store) (omega arith)
        | no h ↦ get_or-eq_default (records_from store 0 place_count) [] {n = place} (omega (arith, records_length)) ∙ sym (at_over store place (omega arith))
      ]

  pub held_over : (place : ℕ) → place_count ≤ place → held (records_in store) place ≡ []
  held_over place h = held_at place ∙ at_over store place h

  -- What a place holds is never longer than a record may be.
  pub held_length : (place : ℕ) → length (held (records_in store) place) ≤ most_record_bytes
  held_length place = rw (held_at place) (at_length store place)

-- Lists of sixteen records are equal where each place holds the same.
same_places : (xs ys : List (List ℕ)) → length xs ≡ place_count → length ys ≡ place_count → ((place : ℕ) → held xs place ≡ held ys place) → xs ≡ ys
unfolding held
same_places xs ys l m h = ext_get_or [] xs ys (l ∙ sym m) (λ i _. h i)

-- A store of zeros has all places empty.
pub records_fresh : records_in fresh ≡ places.fresh
records_fresh =
    same_places (records_in fresh) places.fresh (records_length fresh) length_fresh
    (λ place. held_at fresh place ∙ at_fresh place ∙ sym (held_fresh place))

-- Zeros are the fresh panel.
pub fresh_there : panel_in (memory (run.fresh).sheet (run.fresh).staged fresh) ≡ run.fresh
fresh_there = ap (panel (run.fresh).sheet (run.fresh).staged) records_fresh

-- ---- the store after a write
module _ (store : List ℕ) (place : ℕ) (bytes : List ℕ) where
  pub written_over : place_count ≤ place → written store place bytes ≡ store
  unfolding written
  written_over h = rw (le-ltb place place_count h)

  pub written_long : most_record_bytes < length bytes → written store place bytes ≡ store
  unfolding written
  written_long h = rw (lt-leb (length bytes) most_record_bytes h, and-false)

  at_same : place < place_count → length bytes ≤ most_record_bytes → length store ≡ store_bytes → record_at (written store place bytes) place ≡ bytes
  at_same h k size =
      let e = length_image bytes k in
      at_slot (written store place bytes) place h
      ∙ ap (λ (s : List ℕ). record_in (slot_of s place)) (written_in_slot store place bytes h k)
      ∙ ap (λ (n : ℕ). record_in (take n (drop (slot_at place) (sets store (slot_at place) (image_of bytes))))) (sym e)
      ∙ ap record_in (part_written store (slot_at place) (image_of bytes) (omega arith))
      ∙ record_in_image bytes

  at_other : (other : ℕ) → place ≢ other → length bytes ≤ most_record_bytes → record_at (written store place bytes) other ≡ record_at store other
  unfolding record_at written
  at_other other ne k =
      ap (λ (slot : List ℕ). cond (ltb other place_count) (record_in slot) [])
      (by_cond (λ (s : List ℕ). slot_of s other ≡ slot_of store other) (ltb place place_count && leb (length bytes) most_record_bytes)
      (λ _. slot_kept store place bytes other ne k)
      (λ _. refl))

  -- A place over 15 is no place of the list.
  pub stored_over : place_count ≤ place → stored (records_in store) place bytes ≡ records_in store
  unfolding stored
  stored_over h =
      ext_get_or [] _ (records_in store) (length-set (records_in store) place bytes)
      (λ i l. get_or-set_other (records_in store) place i bytes [] (λ e. omega (arith, records_length store, length-set (records_in store) place bytes)))

  -- The record is put at the place, and every other place holds what it held.
  pub records_written : place < place_count → length bytes ≤ most_record_bytes → length store ≡ store_bytes → records_in (written store place bytes) ≡ stored (records_in store) place bytes
  unfolding held stored
  records_written h k size =
      same_places (records_in (written store place bytes)) (stored (records_in store) place bytes) (records_length (written store place bytes))
      (length-set (records_in store) place bytes ∙ records_length store) (λ i. held_at (written store place bytes) i ∙ go i (ℕ_discrete i place))
    where
      go : (i : ℕ) → Dec (i ≡ place) → record_at (written store place bytes) i ≡ held (stored (records_in store) place bytes) i
      go i (yes e) = rw e (at_same h k size ∙ sym (get_or-set_same (records_in store) place bytes [] (omega (arith, records_length store))))
      go i (no e) = at_other i (λ q. e (sym q)) k ∙ sym (get_or-set_other (records_in store) place i bytes [] e ∙ held_at store i)
