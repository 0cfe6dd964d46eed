-- Bytes written to a list from a position on, and the parts of it that they leave. Assumes nothing.
use mathlib.Core.Path.{◌≡◌, refl, ap, ◌∙◌}
use mathlib.Core.List.{List, [], ◌∷◌, ◌++◌, append_assoc}
use Prim.Native.Nat.{ℕ, suc, ◌+◌, ◌-◌, ◌<◌, ◌≤◌}
use native.Mathlib.Omega.{arith}
use lib.ListN.{length, take, drop, set}
use lib.Seq.{sets, sets-eq, length-take-le, drop_at, take-set-le, drop-set-lt, drop-set-add, take-append_seam}

-- the part that is written holds what was written
pub part_written : (l : List ℕ) (i : ℕ) (a : List ℕ) → i + length a ≤ length l → take (length a) (drop i (sets l i a)) ≡ a
part_written l i a h =
    let b : List ℕ = drop (i + length a) l in
    ap (λ (s : List ℕ). take (length a) (drop i s)) (sets-eq a l i h ∙ append_assoc (take i l) a b)
    ∙ ap (take (length a)) (drop_at (take i l) (a ++ b) i (length-take-le i l (omega arith)))
    ∙ take-append_seam a b

module _ (l : List ℕ) (m n : ℕ) where
  -- a store before the part
  part_after : (i v : ℕ) → i < m → take n (drop m (set l i v)) ≡ take n (drop m l)
  part_after i v h = ap (take n) (drop-set-lt m l i v h)

  -- a store past the part
  part_before : (i v : ℕ) → m + n ≤ i → take n (drop m (set l i v)) ≡ take n (drop m l)
  part_before i v h =
      let e : i ≡ m + (i - m) = omega arith in
      ap (λ (k : ℕ). take n (drop m (set l k v))) e ∙ ap (take n) (drop-set-add m l (i - m) v)
      ∙ take-set-le n (drop m l) (i - m) v (omega arith)

-- a part that begins past what is written is as before
pub part_past : (m n : ℕ) (l : List ℕ) (i : ℕ) (a : List ℕ) → i + length a ≤ m → take n (drop m (sets l i a)) ≡ take n (drop m l)
part_past m n l i [] h = refl
part_past m n l i (x ∷ a) h = part_past m n (set l i x) (suc i) a (omega arith) ∙ part_after l m n i x (omega arith)

-- and so is one that ends before it
pub part_ahead : (m n : ℕ) (l : List ℕ) (i : ℕ) (a : List ℕ) → m + n ≤ i → take n (drop m (sets l i a)) ≡ take n (drop m l)
part_ahead m n l i [] h = refl
part_ahead m n l i (x ∷ a) h = part_ahead m n (set l i x) (suc i) a (omega arith) ∙ part_before l m n i x h
