-- The same replies, byte by byte: what was written, the panel, and what is kept of the unfinished line. Assumes nothing.
use mathlib.Core.Path.{◌≡◌, refl, sym, ap, ap₂, ◌∙◌}
use mathlib.Core.Bool.{Bool, true, false, cond}
use mathlib.Core.List.{List, [], ◌∷◌, ◌++◌, append_assoc, append-nil}
use Prim.Native.Nat.{ℕ, suc, ◌≤◌}
use native.Mathlib.Omega.{arith}
use borrow.Author.Tests.{ltb-true, ltb-false, ne_eqb}
use lib.Dec.{eqb, ltb}
use lib.ListN.{length, take, length-append, length-take}
use lib.Seq.{take_all, take_at, take-take, get_or-take}
use Rattle.run.specs.Panel.{Panel}
use Rattle.line_io.specs.Lines.{line_feed}
use Rattle.frame.specs.Lines.{line_reply, line_after}
use Rattle.panel.specs.Lines.{with_ends, Plain, AllPlain, after_lines, replies}
use Rattle.panel.specs.CallContracts.{most_kept, Answers}
use Rattle.panel.proofs.Laws.{cut_reply, cut_after}

pub record Progress : Type 0 where
  pub panel : Panel
  pub written : List ℕ
  pub kept : List ℕ

abbrev pub progress : Panel → List ℕ → List ℕ → Progress
progress p written kept = record { panel = p; written = written; kept = kept }

-- the reply to a line, with a line end
abbrev said : Panel → List ℕ → List ℕ
said p line = line_reply p line ++ line_feed ∷ []

-- the kept characters and one more, while there is room
abbrev kept_with : List ℕ → ℕ → List ℕ
kept_with line c = cond (ltb (length line) most_kept) (line ++ c ∷ []) line

-- A line end has the line answered, and the next one begins; any other byte is kept.
abbrev with_test : Bool → Progress → ℕ → Progress
with_test is_end r c =
    cond is_end (progress (line_after r.panel r.kept) (r.written ++ said r.panel r.kept) [])
    (progress r.panel r.written (kept_with r.kept c))

abbrev with_byte : Progress → ℕ → Progress
with_byte r c = with_test (eqb c line_feed) r c

unfoldable pub with_bytes : Progress → List ℕ → Progress
with_bytes r [] = r
with_bytes r (c ∷ bytes) = with_bytes (with_byte r c) bytes

pub bytes_append : (r : Progress) (a b : List ℕ) → with_bytes r (a ++ b) ≡ with_bytes (with_bytes r a) b
unfolding with_bytes
bytes_append r [] b = refl
bytes_append r (c ∷ a) b = bytes_append (with_byte r c) a b

-- what was written stays
pub written_grows : (r : Progress) (s : List ℕ) → (more : List ℕ) × ((with_bytes r s).written ≡ r.written ++ more)
unfolding with_bytes
written_grows r [] = ([], sym (append-nil r.written))
written_grows r (c ∷ s) = go (eqb c line_feed) (λ x. written_grows x s)
  where
    go : (b : Bool) → ((x : Progress) → (more : List ℕ) × ((with_bytes x s).written ≡ x.written ++ more))
        → (more : List ℕ) × ((with_bytes (with_test b r c) s).written ≡ r.written ++ more)
    go true f =
        let (more, e) = f (with_test true r c) in
        (said r.panel r.kept ++ more, e ∙ append_assoc r.written (said r.panel r.kept) more)
    go false f = f (with_test false r c)

-- ---- a line
pub plain_rest : (c : ℕ) (line : List ℕ) → Plain (c ∷ line) → Plain line
plain_rest c line h k l e = h (suc k) (omega arith) e

plain_front : (n : ℕ) (line : List ℕ) → Plain line → Plain (take n line)
plain_front n line h k l e =
    let m = length-take n line in
    h k (omega arith) (sym (get_or-take n line k 0 (omega arith)) ∙ e)

-- the characters of a line are kept, as many as there is room for
line_kept : (p : Panel) (w k line : List ℕ) → Plain line → length k ≤ most_kept → with_bytes (progress p w k) line ≡ progress p w (take most_kept (k ++ line))
unfolding with_bytes
line_kept p w k [] n h = ap (progress p w) (sym (take_all most_kept k h) ∙ ap (take most_kept) (sym (append-nil k)))
line_kept p w k (c ∷ line) n h =
    rw (ne_eqb c line_feed (n 0 (omega arith))) (go (ltb (length k) most_kept) refl (λ l g. line_kept p w l line (plain_rest c line n) g))
  where
    go : (b : Bool) → ltb (length k) most_kept ≡ b
        → ((l : List ℕ) → length l ≤ most_kept → with_bytes (progress p w l) line ≡ progress p w (take most_kept (l ++ line)))
        → with_bytes (progress p w (cond b (k ++ c ∷ []) k)) line ≡ progress p w (take most_kept (k ++ c ∷ line))
    go true e f =
        let g = ltb-true (length k) most_kept e in
        f (k ++ c ∷ []) (omega (arith, length-append k (c ∷ []))) ∙ ap (λ l. progress p w (take most_kept l)) (append_assoc k (c ∷ []) line)
    go false e f =
        let g = ltb-false (length k) most_kept e in
        let m : length k ≡ most_kept = omega arith in
        f k h ∙ ap (progress p w) (take_at k line most_kept m ∙ sym (take_at k (c ∷ line) most_kept m))

pub unfinished_kept : (p : Panel) (w line : List ℕ) → Plain line → with_bytes (progress p w []) line ≡ progress p w (take most_kept line)
unfinished_kept p w line n = line_kept p w [] line n (omega arith)

-- what is kept of an unfinished line leads to the same
pub cut_unfinished : (p : Panel) (w line : List ℕ) → Plain line → with_bytes (progress p w []) line ≡ with_bytes (progress p w []) (take most_kept line)
cut_unfinished p w line n =
    unfinished_kept p w line n ∙ ap (progress p w) (sym (take-take most_kept most_kept line (omega arith)))
    ∙ sym (unfinished_kept p w (take most_kept line) (plain_front most_kept line n))

line_taken : (p : Panel) (w line : List ℕ) → Plain line
    → with_bytes (progress p w []) (line ++ line_feed ∷ []) ≡ progress (line_after p line) (w ++ said p line) []
unfolding with_bytes
line_taken p w line n =
    bytes_append (progress p w []) line (line_feed ∷ []) ∙ ap (λ r. with_byte r line_feed) (unfinished_kept p w line n)
    ∙ ap₂ (λ q l. progress q (w ++ (l ++ line_feed ∷ [])) []) (cut_after p line) (cut_reply p line)

-- ---- lines
pub lines_taken : (p : Panel) (w : List ℕ) (lines : List (List ℕ)) (rest : List ℕ) → AllPlain lines
    → with_bytes (progress p w []) (with_ends lines ++ rest) ≡ with_bytes (progress (after_lines p lines) (w ++ with_ends (replies p lines)) []) rest
unfolding with_ends AllPlain after_lines replies
lines_taken p w [] rest n = ap (λ l. with_bytes (progress p l []) rest) (sym (append-nil w))
lines_taken p w (line ∷ lines) rest (n, ns) =
    let this = line ++ line_feed ∷ [] in
    let q = after_lines p lines in
    let v = w ++ with_ends (replies p lines) in
    ap (with_bytes (progress p w [])) (append_assoc (with_ends lines) this rest) ∙ lines_taken p w lines (this ++ rest) ns
    ∙ bytes_append (progress q v []) this rest
    ∙ ap (λ r. with_bytes r rest) (line_taken q v line n)
    ∙ ap (λ l. with_bytes (progress (line_after q line) l []) rest) (append_assoc w (with_ends (replies p lines)) (said q line))

pub answers_taken : {p : Panel} {s laid left : List ℕ} {later : Panel} (w : List ℕ) → Answers p s laid left later
    → with_bytes (progress p w []) s ≡ with_bytes (progress later (w ++ laid) []) left
answers_taken {p} {s} {laid} {left} w a =
    ap (with_bytes (progress p w [])) a.read ∙ lines_taken p w a.lines left a.plain
    ∙ ap₂ (λ q l. with_bytes (progress q (w ++ l) []) left) (sym a.stands) (sym a.written)
