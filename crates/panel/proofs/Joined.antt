-- Over a run, what is laid ready is the replies to the lines of all that the reads gave, in order, however the reads cut them. Assumes nothing.
use mathlib.Core.Path.{◌≡◌, refl, sym, ap, ap₂, ◌∙◌}
use mathlib.Core.Bool.{true, false, true≢false}
use mathlib.Core.List.{List, [], ◌∷◌, ◌++◌, append_assoc, append-nil}
use Prim.Native.Nat.{ℕ, zero, suc, ◌≤◌}
use native.Mathlib.Omega.{arith}
use native.Mathlib.Decide.{ℕ_discrete}
use borrow.Author.Tests.{ltb-false}
use lib.ListN.{length, take}
use Rattle.run.specs.Panel.{Panel}
use Rattle.line_io.specs.Lines.{line_feed}
use Rattle.panel.specs.Lines.{with_ends, Plain, AllPlain, after_lines, replies, panel_at_end, last_reply}
use Rattle.panel.specs.CallContracts.{most_kept, most_filled}
use Rattle.panel.specs.Runs.{Event, more, failed, ended, gave, bytes_of, goes_on_after, is_more, is_full, Takes}
use Rattle.panel.specs.Runs.{Turn, panel_after, left_after, laid_last, goes_after, InTurn, given, all_laid, Answered}
use Rattle.panel.proofs.Laws.{cut_last_reply, cut_at_end}
use Rattle.panel.proofs.ByByte.{Progress, progress, with_bytes, bytes_append, written_grows}
use Rattle.panel.proofs.ByByte.{plain_rest, unfinished_kept, cut_unfinished, lines_taken, answers_taken}

-- ---- one turn more
left_by_turn : (e : Event) (p : Panel) (left laid left' : List ℕ) (later : Panel) → goes_on_after e ≡ true → Takes p left e laid left' later
    → length laid ≤ most_filled → Plain left'
unfolding Takes
left_by_turn more p left laid left' later g a h = a.all h
left_by_turn failed p left laid left' later g a h = absurd (true≢false (sym g))
left_by_turn ended p left laid left' later g a h = absurd (true≢false (sym g))
left_by_turn (gave bytes) p left laid left' later g a h = a.all h

-- Taken byte by byte, what the reads gave so far leads to where the answered lines and the bytes that are left lead.
more_by_turn : (e : Event) (r : Progress) (p : Panel) (w s left laid left' : List ℕ) (later : Panel)
    → goes_on_after e ≡ true → (is_more e ≡ false → Plain left)
    → Takes p left e laid left' later → with_bytes r s ≡ with_bytes (progress p w []) left
    → with_bytes r (s ++ bytes_of e) ≡ with_bytes (progress later (w ++ laid) []) left'
unfolding Takes
more_by_turn more r p w s left laid left' later g n a f = ap (with_bytes r) (append-nil s) ∙ f ∙ answers_taken w a
more_by_turn failed r p w s left laid left' later g n a f = absurd (true≢false (sym g))
more_by_turn ended r p w s left laid left' later g n a f = absurd (true≢false (sym g))
more_by_turn (gave bytes) r p w s left laid left' later g n a f =
    bytes_append r s bytes ∙ ap (λ q. with_bytes q bytes) (f ∙ cut_unfinished p w left (n refl))
    ∙ sym (bytes_append (progress p w []) (take most_kept left) bytes) ∙ answers_taken w a

-- ---- all turns
module _ (p : Panel) where
  none_left : (turns : List Turn) → InTurn p turns → goes_after turns ≡ true → is_full (length (laid_last turns)) ≡ false → Plain (left_after turns)
  unfolding panel_after left_after laid_last goes_after InTurn
  none_left [] i g f = λ k h. absurd (omega arith)
  none_left (t ∷ turns) (_, _, takes, _) g f =
      left_by_turn t.event (panel_after p turns) (left_after turns) t.laid t.left t.after g takes
      (ltb-false most_filled (length t.laid) f)

  taken : (turns : List Turn) → InTurn p turns → goes_after turns ≡ true
      → with_bytes (progress p [] []) (given turns) ≡ with_bytes (progress (panel_after p turns) (all_laid turns) []) (left_after turns)
  unfolding panel_after left_after goes_after InTurn given all_laid
  taken [] i g = refl
  taken (t ∷ turns) (before, kind, takes, i) g =
      more_by_turn t.event (progress p [] []) (panel_after p turns) (all_laid turns) (given turns) (left_after turns) t.laid t.left t.after g
      (λ n. none_left turns i before (sym kind ∙ n)) takes (taken turns i before)

module _ (p : Panel) (turns : List Turn) (lines : List (List ℕ)) (rest : List ℕ) (gives : given turns ≡ with_ends lines ++ rest) (plain : AllPlain lines)
    (unfinished : Plain rest) where
  all_read : with_bytes (progress p [] []) (given turns) ≡ progress (after_lines p lines) (with_ends (replies p lines)) (take most_kept rest)
  all_read =
      ap (with_bytes (progress p [] [])) gives ∙ lines_taken p [] lines rest plain
      ∙ unfinished_kept (after_lines p lines) (with_ends (replies p lines)) rest unfinished

  -- At any time, what was laid ready is the beginning of the replies to the complete lines of all that was read, in order.
  pub beginning_answered : InTurn p turns → goes_after turns ≡ true → (next : List ℕ) × (with_ends (replies p lines) ≡ all_laid turns ++ next)
  beginning_answered i g =
      let (next, e) = written_grows (progress (panel_after p turns) (all_laid turns) []) (left_after turns) in
      (next, ap (λ (r : Progress). r.written) (sym all_read ∙ taken p turns i g) ∙ e)

  module _ (i : InTurn p turns) (g : goes_after turns ≡ true) (f : is_full (length (laid_last turns)) ≡ false) where
    reached : progress (panel_after p turns) (all_laid turns) (take most_kept (left_after turns))
        ≡ progress (after_lines p lines) (with_ends (replies p lines)) (take most_kept rest)
    reached =
        sym (unfinished_kept (panel_after p turns) (all_laid turns) (left_after turns) (none_left p turns i g f)) ∙ sym (taken p turns i g) ∙ all_read

    written : all_laid turns ≡ with_ends (replies p lines)
    written = ap (λ (r : Progress). r.written) reached

    stands : panel_after p turns ≡ after_lines p lines
    stands = ap (λ (r : Progress). r.panel) reached

    kept : take most_kept (left_after turns) ≡ take most_kept rest
    kept = ap (λ (r : Progress). r.kept) reached

    -- Whenever a read is next, that is all of them.
    pub lines_answered : Answered p turns lines []
    unfolding last_reply panel_at_end
    lines_answered = record { written = written ∙ sym (append-nil (with_ends (replies p lines))); stands = stands }

  module _ (t : Turn) (i : InTurn p (t ∷ turns)) where
    -- The input ended: the last line without line end is answered too.
    pub last_answered : t.event ≡ ended → Answered p (t ∷ turns) lines rest
    unfolding panel_after InTurn all_laid Takes
    last_answered e =
        let (before, kind, takes, earlier) = i in
        let f = sym kind ∙ ap is_more e in
        let same = ap (λ x. Takes (panel_after p turns) (left_after turns) x t.laid t.left t.after) e in
        let (laid, later) : Takes (panel_after p turns) (left_after turns) ended t.laid t.left t.after = rw same at takes in
        record {
          written =
              ap₂ ◌++◌ (written earlier before f)
              (laid ∙ ap₂ last_reply (stands earlier before f) (kept earlier before f) ∙ cut_last_reply (after_lines p lines) rest);
          stands = later ∙ ap₂ panel_at_end (stands earlier before f) (kept earlier before f) ∙ cut_at_end (after_lines p lines) rest;
        }

    -- A read failed: the line that it cut is not run, and gets no reply.
    pub cut_answered : t.event ≡ failed → Answered p (t ∷ turns) lines []
    unfolding panel_after InTurn all_laid Takes last_reply panel_at_end
    cut_answered e =
        let (before, kind, takes, earlier) = i in
        let f = sym kind ∙ ap is_more e in
        let same = ap (λ x. Takes (panel_after p turns) (left_after turns) x t.laid t.left t.after) e in
        let (laid, later) : Takes (panel_after p turns) (left_after turns) failed t.laid t.left t.after = rw same at takes in
        record { written = ap₂ ◌++◌ (written earlier before f) laid; stands = later ∙ stands earlier before f }

-- ---- any bytes
plain_with : (line : List ℕ) (c : ℕ) → Plain line → (c ≡ line_feed → ⊥) → Plain (line ++ c ∷ [])
plain_with [] c p h zero l e = h e
plain_with [] c p h (suc k) l e = absurd (omega arith)
plain_with (d ∷ line) c p h zero l e = p zero (omega arith) e
plain_with (d ∷ line) c p h (suc k) l e = plain_with line c (plain_rest d line p) h k (omega arith) e

abbrev pub InLines : List ℕ → Type 0
InLines s = (lines : List (List ℕ)) × (rest : List ℕ) × (s ≡ with_ends lines ++ rest) × AllPlain lines × Plain rest

lines_and : (lines : List (List ℕ)) (rest s : List ℕ) → AllPlain lines → Plain rest → InLines (with_ends lines ++ (rest ++ s))
unfolding with_ends AllPlain
lines_and lines rest [] a p = (lines, rest, ap (λ l. with_ends lines ++ l) (append-nil rest), a, p)
lines_and lines rest (c ∷ s) a p =
    elim (ℕ_discrete c line_feed) [
      | yes e ↦
          let same : (with_ends lines ++ (rest ++ line_feed ∷ [])) ++ s ≡ with_ends lines ++ (rest ++ c ∷ s) =
          append_assoc (with_ends lines) (rest ++ line_feed ∷ []) s ∙ ap (λ l. with_ends lines ++ l) (append_assoc rest (line_feed ∷ []) s)
          ∙ ap (λ d. with_ends lines ++ (rest ++ d ∷ s)) (sym e) in
          let (lines', rest', f, a', p') = lines_and (rest ∷ lines) [] s (p, a) (λ k h. absurd (omega arith)) in
          (lines', rest', sym same ∙ f, a', p')
      | no h ↦
          let same = ap (λ l. with_ends lines ++ l) (append_assoc rest (c ∷ []) s) in
          let (lines', rest', f, a', p') = lines_and lines (rest ++ c ∷ []) s a (plain_with rest c p h) in
          (lines', rest', sym same ∙ f, a', p')
    ]

-- Whatever the reads gave is lines and an unfinished one, which may be empty.
pub in_lines : (s : List ℕ) → InLines s
unfolding with_ends AllPlain
in_lines s = lines_and [] [] s tt (λ k h. absurd (omega arith))
