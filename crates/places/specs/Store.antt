-- Sixteen places in one store of bytes: the record at a place, the store after a record is written there, and the list of all records, which is what callers see.
-- Assumes nothing.
use Rattle.std.specs.Prelude.{ℕ, zero, suc, ◌*◌, ◌≤◌, ◌≡◌, ◌&&◌, cond, List, [], ◌∷◌, ◌++◌, ltb, leb, length, take, drop, replicate}
use Rattle.std.proofs.lemmas.List.Edits.{sets}
use Rattle.expression.specs.Limits.{most_record_bytes}
use Rattle.run.specs.Image.{image_bytes, image_of}
use Rattle.run.specs.Places.{place_count, stored}

-- the bytes of one place, its slot: the place's image
abbrev pub slot_bytes : ℕ
slot_bytes = image_bytes

-- the bytes of all slots
abbrev pub store_bytes : ℕ
store_bytes = slot_bytes * place_count

-- where the slot of a place begins, and the slot
abbrev pub slot_at : ℕ → ℕ
slot_at place = slot_bytes * place

abbrev pub slot_of : List ℕ → ℕ → List ℕ
slot_of store place = take slot_bytes (drop (slot_at place) store)

-- the record in a slot: as many bytes as the first byte says, from the byte after it
abbrev pub record_in : List ℕ → List ℕ
record_in [] = []
record_in (n ∷ bytes) = take n bytes

-- The record at a place of the store; none at a place over 15.
unfoldable pub record_at : List ℕ → ℕ → List ℕ
record_at store place = cond (ltb place place_count) (record_in (slot_of store place)) []

-- the records of so many places, from one on
unfoldable pub records_from : List ℕ → ℕ → ℕ → List (List ℕ)
records_from store place zero = []
records_from store place (suc n) = record_at store place ∷ records_from store (suc place) n

-- The places of a panel whose store it is.
unfoldable pub records_in : List ℕ → List (List ℕ)
records_in store = records_from store 0 place_count

-- The store after a record is written at a place: the slot is the record's image, all else is as before.
-- A place over 15, or a record that is too long, changes nothing.
unfoldable pub written : List ℕ → ℕ → List ℕ → List ℕ
written store place bytes =
    cond (ltb place place_count && leb (length bytes) most_record_bytes) (sets store (slot_at place) (image_of bytes)) store

-- A record was put at a place: every byte of the store after it, and what that is to callers.
pub record Enters (store : List ℕ) (place : ℕ) (bytes later : List ℕ) : Type 0 where
  pub bytewise : later ≡ written store place bytes
  pub holds : length bytes ≤ most_record_bytes → records_in later ≡ stored (records_in store) place bytes

-- The lent output after an image is drawn: the image, then what stood there before. An output shorter than an image is as before.
unfoldable pub drawn : List ℕ → List ℕ → List ℕ
drawn image before = cond (ltb (length before) image_bytes) before (image ++ drop (length image) before)

-- the store with all places empty
unfoldable pub fresh : List ℕ
fresh = replicate store_bytes 0
