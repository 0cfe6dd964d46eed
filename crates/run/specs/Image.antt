-- The image of a place (docs/REFERENCE.md, section 5). Assumes nothing.
use Rattle.std.specs.Prelude.{ℕ, ◌+◌, ◌-◌, List, ◌∷◌, ◌++◌, length, replicate}
use Rattle.expression.specs.Limits.{most_record_bytes}

-- its bytes: a length byte and room for the longest record
abbrev pub image_bytes : ℕ
image_bytes = 1 + most_record_bytes

-- The image of a place that holds the bytes of a record: the record's length, the record, then 00. All 00 where the place is empty.
unfoldable pub image_of : List ℕ → List ℕ
image_of bytes = length bytes ∷ (bytes ++ replicate (most_record_bytes - length bytes) 0)
