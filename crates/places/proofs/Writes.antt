-- What writing an image gives: the length byte, the record and zeros, one after the other. Assumes nothing.
use mathlib.Core.Path.{◌≡◌, sym, ap, ap₂, ◌∙◌}
use mathlib.Core.List.{List, [], ◌∷◌, ◌++◌}
use Prim.Native.Nat.{ℕ, ◌+◌, ◌-◌, ◌≤◌}
use native.Mathlib.Omega.{arith}
use lib.ListN.{length, take, drop, set, replicate, length-take}
use lib.Seq.{sets, sets-eq}
use mathlib.Core.List.{append_assoc}
use borrow.Rule.Slice.PartMut.{mid_of, post_of, put_mid, Post-is}
use Rattle.std.proofs.lemmas.List.{append-nil, drop_all}
use Rattle.expression.specs.Limits.{most_record_bytes}
use Rattle.run.specs.Image.{image_of}

-- the first part of a slot is as long as the byte and the record, the other part has zeros
module _ (bytes : List ℕ) where
  abbrev n : ℕ
  n = length bytes

  pub image_parts : (head : List ℕ) {copied zeros : List ℕ} → length head ≡ 1 + n → copied ≡ bytes ++ drop n (mid_of 1 (length (set head 0 n) - 1) (set head 0 n))
      → zeros ≡ replicate (most_record_bytes - n) 0 → (take 1 (set head 0 n) ++ (copied ++ post_of 1 (length (set head 0 n) - 1) (set head 0 n))) ++ zeros ≡ image_of bytes
  unfolding image_of
  image_parts [] h c z = absurd (omega arith)
  image_parts (x ∷ rest) {copied} {zeros} h c z =
      let size : length rest ≡ n = omega arith in
      let k : ℕ = length (n ∷ rest) - 1 in
      let past : drop k rest ≡ [] = drop_all k rest (omega arith) in
      let none : drop n (take k rest) ≡ [] = drop_all n (take k rest) (omega (arith, length-take k rest)) in
      let record_there : copied ≡ bytes = c ∙ ap (λ (l : List ℕ). bytes ++ l) none ∙ append-nil bytes in
      ap₂ (λ (a b : List ℕ). n ∷ (a ++ b)) (ap₂ ◌++◌ record_there past ∙ append-nil bytes) z

-- a part of a list, written anew
pub part_is_sets : (l : List ℕ) (at : ℕ) (a : List ℕ) → at + length a ≤ length l → put_mid at (at + length a - at) l a ≡ sets l at a
part_is_sets l at a h =
    ap (λ (b : List ℕ). take at l ++ (a ++ b)) (Post-is at (at + length a) l (omega arith))
    ∙ sym (append_assoc (take at l) a (drop (at + length a) l))
    ∙ sym (sets-eq a l at h)
