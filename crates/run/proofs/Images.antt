-- Laws of the image of a place. Assumes nothing.
use mathlib.Core.Path.{◌≡◌, refl}
use mathlib.Core.List.{List, []}
use Prim.Native.Nat.{ℕ, ◌≤◌}
use native.Mathlib.Omega.{arith}
use lib.ListN.{length, replicate, length-append, length-replicate}
use Rattle.expression.specs.Limits.{most_record_bytes}
use Rattle.run.specs.Image.{image_bytes, image_of}

pub length_image : (bytes : List ℕ) → length bytes ≤ most_record_bytes → length (image_of bytes) ≡ image_bytes
unfolding image_of
length_image bytes h = simp (length-append, length-replicate) (omega arith)

-- It is all 00 where the place is empty.
pub image_empty : image_of [] ≡ replicate image_bytes 0
unfolding image_of
image_empty = refl
