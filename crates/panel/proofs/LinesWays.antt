-- What each way through answering lines gives, from what is known on it. Assumes nothing.
use mathlib.Core.Path.{◌≡◌, refl, sym, ap, ◌∙◌}
use mathlib.Core.List.{List, [], ◌∷◌, ◌++◌, append_assoc}
use Prim.Native.Nat.{ℕ, ◌+◌, ◌<◌, ◌≤◌}
use native.Mathlib.Numerals.{add-one}
use native.Mathlib.Omega.{arith}
use borrow.Author.Rules.{rules}
use lib.ListN.{length, get_or, take, drop, take-append-drop}
use lib.Seq.{take-suc, get_or-take, length-take-le}
use Rattle.run.specs.Panel.{Panel}
use Rattle.std.specs.Prelude.{Option, Some, None}
use Rattle.line_io.specs.Lines.{line_feed, line_end, Ends}
use Rattle.line_io.proofs.Laws.{line_end_here, none_before_line_end, ends_found, ends_none}
use Rattle.frame.specs.Lines.{line_reply, line_after}
use Rattle.panel.specs.Lines.{with_ends, Plain, AllPlain, after_lines, replies, panel_at_end, last_reply}
use Rattle.panel.specs.CallContracts.{most_filled, Puts, Answers, Finishes}

-- ---- one line more
module _ {s : List ℕ} {end : ℕ} (f : Ends s 0 (Some end)) where
  place : end ≡ line_end s 0
  place = ends_found f

  line_feed_lem : get_or s end 0 ≡ line_feed
  line_feed_lem = ap (λ k. get_or s k 0) place ∙ line_end_here s 0 (omega (arith, place, f.inside))

  line_plain : Plain (take end s)
  line_plain k l e =
      let n : length (take end s) ≡ end = length-take-le end s (omega (arith, f.inside)) in
      none_before_line_end s 0 k (omega arith) (omega (arith, place)) (sym (get_or-take end s k 0 (omega arith)) ∙ e)

  -- the bytes are the line, its end and the bytes after it
  line_first : s ≡ (take end s ++ line_feed ∷ []) ++ drop (end + 1) s
  line_first =
      sym (take-append-drop (end + 1) s)
      ∙ ap (λ l. l ++ drop (end + 1) s) (
      ap (λ n. take n s) (add-one end) ∙ take-suc s end 0 (omega (arith, f.inside)) ∙ ap (λ c. take end s ++ c ∷ []) line_feed_lem)

-- where there is no line end, none is left
none_left : {s : List ℕ} → Ends s 0 None → Plain s
none_left {s} f k l e = none_before_line_end s 0 k (omega arith) (omega (arith, ends_none f)) e

-- ---- the loop
-- The first lines are answered.
pub record Answering (p : Panel) (s out left : List ℕ) (later : Panel) : Type 0 where
  pub lines : List (List ℕ)
  pub read : s ≡ with_ends lines ++ left
  pub plain : AllPlain lines
  pub written : out ≡ with_ends (replies p lines)
  pub stands : later ≡ after_lines p lines

pub answering_starts : (s : List ℕ) {out : List ℕ} (later : Panel) → out ≡ [] → Answering later s out s later
unfolding with_ends AllPlain after_lines replies
answering_starts s later e = record { lines = []; read = refl; plain = tt; written = e; stands = refl }

module _ {p : Panel} {s out left : List ℕ} {later : Panel} (t : Answering p s out left later) where
  pub answering_more : {bytes rest out' left' : List ℕ} {end : ℕ} {later' : Panel} → bytes ≡ left → Ends bytes 0 (Some end) → rest ≡ left
      → Puts later (take end rest) out out' later' → left' ≡ drop (end + 1) left → Answering p s out' left' later'
  unfolding with_ends AllPlain after_lines replies
  answering_more {end = end} b g r w d =
      let f : Ends left 0 (Some end) = rw b at g in
      let line = take end left in
      let v = rw r at w in
      record {
        lines = line ∷ t.lines;
        read =
            t.read ∙ ap (λ a. with_ends t.lines ++ a) (line_first f)
            ∙ sym (append_assoc (with_ends t.lines) (line ++ line_feed ∷ []) (drop (end + 1) left)) ∙ rw d;
        plain = (line_plain f, t.plain);
        written =
            v.written ∙ ap (λ a. a ++ (line_reply later line ++ line_feed ∷ [])) t.written
            ∙ ap (λ q. with_ends (replies p t.lines) ++ (line_reply q line ++ line_feed ∷ [])) t.stands;
        stands = v.stands ∙ ap (λ q. line_after q line) t.stands;
      }

  answering_so_far : (length out ≤ most_filled → Plain left) → Answers p s out left later
  answering_so_far all = record { lines = t.lines; read = t.read; plain = t.plain; written = t.written; stands = t.stands; all = all }

  pub answering_all : {bytes : List ℕ} {r : Option ℕ} → bytes ≡ left → Ends bytes 0 r → r ≡ None → Answers p s out left later
  answering_all b f e = answering_so_far (λ _. none_left (rw (b, e) at f))

  pub answering_full : most_filled < length out → Answers p s out left later
  answering_full h = answering_so_far (λ e. absurd (omega arith))

pub ruleset lines_ways = (answering_starts, answering_more, answering_all, answering_full, rules)

-- ---- finish
module _ (p : Panel) (line : List ℕ) {out : List ℕ} where
  pub finished_none : length line ≡ 0 → out ≡ [] → Finishes p line out p
  unfolding panel_at_end last_reply
  finished_none h o = go line h
    where
      go : (l : List ℕ) → length l ≡ 0 → Finishes p l out p
      go [] e = record { written = o; stands = refl }
      go (c ∷ l) e = absurd (omega arith)

  pub finished_line : {before : List ℕ} {later : Panel} → Puts p line before out later → before ≡ [] → (length line ≡ 0 → ⊥) → Finishes p line out later
  unfolding panel_at_end last_reply
  finished_line {before} {later} w b h = go line w h
    where
      go : (s : List ℕ) → Puts p s before out later → (length s ≡ 0 → ⊥) → Finishes p s out later
      go [] w h = absurd (h refl)
      go (c ∷ s) w h = record { written = w.written ∙ ap (λ l. l ++ (line_reply p (c ∷ s) ++ line_feed ∷ [])) b; stands = w.stands }

pub ruleset finish_ways = (finished_none, finished_line, rules)
