-- What each way through the public functions gives, from what is known on it. Assumes nothing.
use mathlib.Core.Path.{◌≡◌, refl, sym, ap, ap₂, ◌∙◌}
use mathlib.Core.List.{List, [], ◌++◌}
use Prim.Native.Nat.{ℕ, ◌+◌, ◌-◌, ◌<◌, ◌≤◌}
use native.Mathlib.Nat.{add-zero}
use native.Mathlib.Omega.{arith}
use lib.ListN.{length, get_or, take, drop, replicate}
use lib.Seq.{sets, get_or-drop, drop-drop}
use borrow.Author.Tests.{lt-ltb, le-ltb}
use borrow.Author.Rules.{rules}
use borrow.Rule.Slice.PartMut.{mid_of, mid_len, put_mid}
use Rattle.places.proofs.Writes.{part_is_sets}
use Rattle.expression.specs.Limits.{most_record_bytes}
use Rattle.run.specs.Image.{image_of}
use Rattle.run.specs.Places.{place_count, held}
use Rattle.run.proofs.Images.{length_image, image_empty}
use Rattle.places.specs.Store.{slot_bytes, store_bytes, slot_at, record_in, records_in, written, Enters, drawn, fresh}
use Rattle.places.proofs.Slots.{record_in_slot, at_slot, written_in_slot}
use Rattle.places.proofs.Laws.{held_at, held_over, held_length, written_over, written_long, stored_over, records_written}

-- ---- fresh
pub zeros_fresh : replicate store_bytes 0 ≡ fresh
unfolding fresh
zeros_fresh = refl

pub ruleset fresh_ways = (zeros_fresh, rules)

-- ---- held_record
module _ (store : List ℕ) (place : ℕ) where
  pub part_held : {bytes : List ℕ} {at p : ℕ} → bytes ≡ store → place < place_count → p ≡ place → at ≡ slot_at p → get_or bytes at 0 < slot_bytes
      → mid_of (at + 1) (at + 1 + get_or bytes at 0 - (at + 1)) bytes ≡ held (records_in store) place
  part_held {bytes} {at} {p} v h q e' few' =
      let e : at ≡ slot_at place = e' ∙ ap slot_at q in
      let n : ℕ = get_or store at 0 in
      let few : n < slot_bytes = rw (sym (ap (λ (b : List ℕ). get_or b at 0) v)) few' in
      ap (λ (b : List ℕ). mid_of (at + 1) (at + 1 + get_or b at 0 - (at + 1)) b) v ∙ (
      let first : get_or (drop at store) 0 0 ≡ n = get_or-drop at store 0 0 ∙ ap (λ (k : ℕ). get_or store k 0) (add-zero at) in
      let size : at + 1 + n - (at + 1) ≡ n = omega arith in
      ap (λ (k : ℕ). take k (drop (at + 1) store)) (size ∙ sym first)
      ∙ ap (take (get_or (drop at store) 0 0)) (sym (drop-drop 1 at store))
      ∙ sym (record_in_slot (drop at store) (omega arith))
      ∙ ap (λ (k : ℕ). record_in (take slot_bytes (drop k store))) e
      ∙ sym (held_at store place ∙ at_slot store place h))

  -- A place over 15 holds nothing.
  pub none_held : {r : List ℕ} → r ≡ [] → place_count ≤ place → r ≡ held (records_in store) place
  none_held e h = e ∙ sym (held_over store place h)

pub ruleset held_ways = (part_held, none_held, rules)

-- ---- put and clear
module _ (store : List ℕ) (place : ℕ) where
  -- A place over 15 is no place to write at.
  pub put_over : (bytes : List ℕ) {later : List ℕ} → later ≡ store → place_count ≤ place → Enters store place bytes later
  put_over bytes v h =
      record {
        bytewise = v ∙ sym (written_over store place bytes h);
        holds = λ _. ap records_in v ∙ sym (stored_over store place bytes h);
      }

  pub put_long : (bytes : List ℕ) {later : List ℕ} → later ≡ store → most_record_bytes < length bytes → Enters store place bytes later
  put_long bytes v h = record { bytewise = v ∙ sym (written_long store place bytes h); holds = λ k. absurd (omega arith) }

  -- the image of a record is written in the place's slot
  pub put_done : {at p : ℕ} {image whole : List ℕ} (bytes : List ℕ) → whole ≡ store → place < place_count → length bytes ≤ most_record_bytes
      → p ≡ place → at ≡ slot_at p
      → length whole ≡ store_bytes → image ≡ image_of bytes → Enters store place bytes (put_mid at (at + slot_bytes - at) whole image)
  put_done {at} {p} {image} {whole} bytes v h k q e' size' w =
      let e : at ≡ slot_at place = e' ∙ ap slot_at q in
      let size : length store ≡ store_bytes = ap length (sym v) ∙ size' in
      let long : length (image_of bytes) ≡ slot_bytes = length_image bytes k in
      let is : put_mid at (at + slot_bytes - at) whole image ≡ written store place bytes =
      ap₂ (put_mid at (at + slot_bytes - at)) v w
      ∙ ap (λ (m : ℕ). put_mid at (at + m - at) store (image_of bytes)) (sym long)
      ∙ part_is_sets store at (image_of bytes) (omega arith)
      ∙ ap (λ (i : ℕ). sets store i (image_of bytes)) e
      ∙ sym (written_in_slot store place bytes h k) in
      record { bytewise = is; holds = λ _. ap records_in is ∙ records_written store place bytes h k size }

  pub clear_done : {at p : ℕ} {zeros whole : List ℕ} → whole ≡ store → place < place_count → p ≡ place → at ≡ slot_at p → length whole ≡ store_bytes
      → zeros ≡ replicate (length (mid_of at (at + slot_bytes - at) whole)) 0 → Enters store place [] (put_mid at (at + slot_bytes - at) whole zeros)
  clear_done {at} {p} {zeros} {whole} v h q e size w =
      let long : length (mid_of at (at + slot_bytes - at) whole) ≡ slot_bytes = mid_len at (at + slot_bytes) whole (omega arith) ∙ omega arith in
      put_done [] v h (omega arith) q e size (w ∙ ap (λ (k : ℕ). replicate k 0) long ∙ sym image_empty)

pub ruleset put_ways = (put_over, put_long, put_done, rules)

pub ruleset clear_ways = (put_over, clear_done, rules)

-- ---- draw
module _ (store : List ℕ) (place : ℕ) (out : List ℕ) where
  pub out_short : length out < slot_bytes → out ≡ drawn (image_of (held (records_in store) place)) out
  unfolding drawn
  out_short h = rw (lt-ltb (length out) slot_bytes h)

  pub held_fits : {bytes : List ℕ} → bytes ≡ held (records_in store) place → length bytes ≤ most_record_bytes
  held_fits e = rw e (held_length store place)

  pub image_drawn : {bytes image : List ℕ} → bytes ≡ held (records_in store) place → slot_bytes ≤ length out → image ≡ image_of bytes
      → image ++ drop slot_bytes out ≡ drawn (image_of (held (records_in store) place)) out
  unfolding drawn
  image_drawn {bytes} e room w =
      let size = length_image bytes (held_fits e) in
      let in_room : drawn (image_of bytes) out ≡ image_of bytes ++ drop (length (image_of bytes)) out = rw (le-ltb (length out) slot_bytes room) in
      ap₂ (λ (i : List ℕ) (k : ℕ). i ++ drop k out) w (sym size)
      ∙ sym in_room
      ∙ ap (λ (r : List ℕ). drawn (image_of r) out) e

pub ruleset draw_ways = (out_short, held_fits, image_drawn, rules)
