-- Bytes that are lines: the reply to each line is written, in order, and of the unfinished one the first characters are kept. Assumes nothing.
use mathlib.Core.Path.{◌≡◌, refl, sym, ap, ◌∙◌}
use mathlib.Core.Bool.{Bool, true, false, cond}
use mathlib.Core.List.{List, [], ◌∷◌, ◌++◌, append_assoc, append-nil}
use Prim.Native.Nat.{ℕ, ◌<◌, ◌≤◌}
use native.Mathlib.Omega.{arith}
use borrow.Author.Tests.{lt-ltb, ltb-true, ltb-false, ne_eqb}
use lib.Dec.{eqb, ltb}
use lib.ListN.{length, take, length-append}
use lib.Seq.{take_all, take_at, length-take-le}
use Rattle.line_io.specs.Lines.{line_feed}
use Rattle.frame.specs.Lines.{most_characters, is_long}
use Rattle.explain.specs.Replies.{line_bytes}
use Rattle.explain.specs.Lines.{said, most_kept, Progress, progress, kept_with, with_byte, with_bytes, last_said, with_ends, all_said, Plain, AllPlain}

-- ---- bytes after bytes
pub bytes_append : (p : Progress) (a b : List ℕ) → with_bytes p (a ++ b) ≡ with_bytes (with_bytes p a) b
unfolding with_bytes
bytes_append p [] b = refl
bytes_append p (c ∷ a) b = bytes_append (with_byte p c) a b

-- what was written before stands in front
written_front : (w k s : List ℕ) → with_bytes (progress w k) s ≡ progress (w ++ (with_bytes (progress [] k) s).written) (with_bytes (progress [] k) s).kept
unfolding with_bytes
written_front w k [] = ap (λ l. progress l k) (sym (append-nil w))
written_front w k (c ∷ s) = go (eqb c line_feed) (λ u l. written_front u l s)
  where
    go : (b : Bool) → ((u l : List ℕ) → with_bytes (progress u l) s ≡ progress (u ++ (with_bytes (progress [] l) s).written) (with_bytes (progress [] l) s).kept)
        → with_bytes (cond b (progress (w ++ said k) []) (progress w (kept_with k c))) s ≡ progress (w ++ (with_bytes (cond b (progress (said k) []) (progress [] (kept_with k c))) s).written) (with_bytes (cond b (progress (said k) []) (progress [] (kept_with k c))) s).kept
    go true f =
        f (w ++ said k) [] ∙ ap (λ l. progress l (with_bytes (progress [] []) s).kept) (append_assoc w (said k) (with_bytes (progress [] []) s).written)
        ∙ sym (ap (λ (p : Progress). progress (w ++ p.written) p.kept) (f (said k) []))
    go false f = f w (kept_with k c)

-- Two reads, one after the other, lead to the same as one of both.
pub reads_joined : (k a b : List ℕ) → let p = with_bytes (progress [] k) a in
    with_bytes (progress [] k) (a ++ b) ≡ progress (p.written ++ (with_bytes (progress [] p.kept) b).written) (with_bytes (progress [] p.kept) b).kept
reads_joined k a b = let p = with_bytes (progress [] k) a in bytes_append (progress [] k) a b ∙ written_front p.written p.kept b

-- ---- a line
-- a line over the limit of which only the first characters are kept gets the same reply
cut_said : (line : List ℕ) → said (take most_kept line) ≡ said line
unfolding line_bytes
cut_said line = go (ltb most_kept (length line)) refl
  where
    long : (l : List ℕ) → most_characters < length l → is_long l ≡ true
    long l h = lt-ltb most_characters (length l) h

    go : (b : Bool) → ltb most_kept (length line) ≡ b → said (take most_kept line) ≡ said line
    go true e =
        let h = ltb-true most_kept (length line) e in
        let n = length-take-le most_kept line (omega arith) in
        rw (long (take most_kept line) (omega arith), long line (omega arith))
    go false e = ap said (take_all most_kept line (ltb-false most_kept (length line) e))

-- the characters of a line are kept, as many as there is room for
line_kept : (w k line : List ℕ) → Plain line → length k ≤ most_kept → with_bytes (progress w k) line ≡ progress w (take most_kept (k ++ line))
unfolding with_bytes Plain
line_kept w k [] p h = ap (progress w) (sym (take_all most_kept k h) ∙ ap (take most_kept) (sym (append-nil k)))
line_kept w k (c ∷ line) (n, p) h = rw (ne_eqb c line_feed n) (go (ltb (length k) most_kept) refl (λ l g. line_kept w l line p g))
  where
    go : (b : Bool) → ltb (length k) most_kept ≡ b → ((l : List ℕ) → length l ≤ most_kept → with_bytes (progress w l) line ≡ progress w (take most_kept (l ++ line)))
        → with_bytes (progress w (cond b (k ++ c ∷ []) k)) line ≡ progress w (take most_kept (k ++ c ∷ line))
    go true e f =
        let g = ltb-true (length k) most_kept e in
        f (k ++ c ∷ []) (omega (arith, length-append k (c ∷ []))) ∙ ap (λ l. progress w (take most_kept l)) (append_assoc k (c ∷ []) line)
    go false e f =
        let g = ltb-false (length k) most_kept e in
        let m : length k ≡ most_kept = omega arith in
        f k h ∙ ap (progress w) (take_at k line most_kept m ∙ sym (take_at k (c ∷ line) most_kept m))

line_taken : (w line : List ℕ) → Plain line → with_bytes (progress w []) (line ++ line_feed ∷ []) ≡ progress (w ++ said line) []
unfolding with_bytes
line_taken w line p =
    bytes_append (progress w []) line (line_feed ∷ []) ∙ ap (λ q. with_byte q line_feed) (line_kept w [] line p (omega arith))
    ∙ ap (λ l. progress (w ++ l) []) (cut_said line)

-- ---- lines
lines_taken : (w : List ℕ) (lines : List (List ℕ)) (rest : List ℕ) → AllPlain lines → with_bytes (progress w []) (with_ends lines ++ rest) ≡ with_bytes (progress (w ++ all_said lines) []) rest
unfolding with_ends all_said AllPlain
lines_taken w [] rest p = ap (λ l. with_bytes (progress l []) rest) (sym (append-nil w))
lines_taken w (line ∷ lines) rest (n, p) =
    let this = line ++ line_feed ∷ [] in
    ap (with_bytes (progress w [])) (append_assoc this (with_ends lines) rest) ∙ bytes_append (progress w []) this (with_ends lines ++ rest)
    ∙ ap (λ q. with_bytes q (with_ends lines ++ rest)) (line_taken w line n) ∙ lines_taken (w ++ said line) lines rest p
    ∙ ap (λ l. with_bytes (progress l []) rest) (append_assoc w (said line) (all_said lines))

-- Of lines and an unfinished one: the reply to each line is written, and the first characters of the unfinished one are kept.
pub lines_answered : (lines : List (List ℕ)) (rest : List ℕ) → AllPlain lines → Plain rest → with_bytes (progress [] []) (with_ends lines ++ rest) ≡ progress (all_said lines) (take most_kept rest)
lines_answered lines rest p q = lines_taken [] lines rest p ∙ line_kept (all_said lines) [] rest q (omega arith)

-- At the end of the input, these characters get the reply of the whole line.
pub last_answered : (rest : List ℕ) → last_said (take most_kept rest) ≡ last_said rest
unfolding last_said
last_answered [] = refl
last_answered (c ∷ rest) = cut_said (c ∷ rest)
