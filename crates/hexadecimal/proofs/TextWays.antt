-- What each way through `decode` and `encode` gives, from what is known on it. Assumes nothing.
use mathlib.Core.Path.{◌≡◌, refl, sym, ap, ◌∙◌}
use mathlib.Core.Bool.{Bool, false, not}
use mathlib.Core.List.{List, [], ◌∷◌, ◌++◌}
use Prim.Native.Nat.{ℕ, ◌*◌, ◌/◌, ◌%◌, ◌<◌, ◌≤◌}
use native.Mathlib.Nat.{zero-add}
use native.Mathlib.Omega.{arith}
use borrow.Author.Tests.{le-leb, lt-leb, eq-eqb, not-false}
use lib.ListN.{length, drop}
use lib.Seq.{sets, sets-eq}
use Rattle.std.specs.Prelude.{Ok, Some, None}
use Rattle.hexadecimal.specs.Digits.{all_digits}
use Rattle.hexadecimal.specs.Text.{pair_bytes, bytes_of, text_of, with_front, bytes_within, text_within, Decodes, Encodes}

pub length_pair_bytes : (line : List ℕ) → length (pair_bytes line) ≡ length line / 2
unfolding pair_bytes
length_pair_bytes [] = refl
length_pair_bytes (c ∷ []) = refl
length_pair_bytes (c ∷ d ∷ s) = let e = length_pair_bytes s in omega arith

pub length_text_of : (bytes : List ℕ) → length (text_of bytes) ≡ length bytes * 2
unfolding text_of
length_text_of [] = refl
length_text_of (b ∷ bytes) = let e = length_text_of bytes in omega arith

-- stores from the front on
sets_front : (bytes out : List ℕ) → length bytes ≤ length out → sets out 0 bytes ≡ with_front bytes out
sets_front bytes out h =
    let z = zero-add (length bytes) in
    sets-eq bytes out 0 (omega arith) ∙ ap (λ n. bytes ++ drop n out) z

-- ---- decode
pub decoded : (line out : List ℕ) {r : Bool} {after : List ℕ} → length line / 2 ≤ length out → length line % 2 ≡ 0 → r ≡ all_digits line → not r ≡ false
    → after ≡ sets out 0 (pair_bytes line) → Decodes line out after (Ok (length line / 2))
unfolding bytes_within bytes_of
decoded line out f h d y w =
    let e = le-leb (length line / 2) (length out) f in
    let o = eq-eqb (length line % 2) 0 h in
    let q = sym d ∙ not-false _ y in
    let n = length_pair_bytes line in
    record { answer = rw (e, o, q, n); output = rw (e, o, q) (w ∙ sets_front (pair_bytes line) out (omega arith)); inside = f }

-- ---- encode
pub no_text : (bytes out : List ℕ) → length out / 2 < length bytes → Encodes bytes out out None
unfolding text_within
no_text bytes out h =
    let n = length_text_of bytes in
    let e = lt-leb (length (text_of bytes)) (length out) (omega arith) in
    record { answer = rw e; output = rw e; inside = tt }

pub encoded : (bytes out : List ℕ) {after : List ℕ} → length bytes ≤ length out / 2 → after ≡ sets out 0 (text_of bytes) → Encodes bytes out after (Some (length bytes * 2))
unfolding text_within
encoded bytes out h w =
    let n = length_text_of bytes in
    let e = le-leb (length (text_of bytes)) (length out) (omega arith) in
    record { answer = rw (e, n); output = rw e (w ∙ sets_front (text_of bytes) out (omega arith)); inside = omega arith }
