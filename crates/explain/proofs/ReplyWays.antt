-- What each way through the reply to a line gives, from what is known on it. Assumes nothing.
use mathlib.Core.Path.{◌≡◌, refl, sym, ap, ap₂, subst, ◌∙◌}
use mathlib.Core.Bool.{Bool, true, false, cond}
use mathlib.Core.List.{List, [], ◌∷◌}
use Prim.Native.Nat.{ℕ, ◌+◌, ◌-◌, ◌<◌, ◌≤◌}
use native.Mathlib.Omega.{arith}
use borrow.Author.Rules.{rules}
use borrow.Author.Tests.{lt-ltb, le-ltb, eq-eqb, ne_eqb}
use lib.Dec.{eqb}
use lib.ListN.{length, get_or, take, drop, length-take}
use lib.Seq.{take_all, take-append_seam}
use Rattle.expression.specs.Refusal.{accepted, first}
use denote.Enum.Declared.{tag_of}
use Rattle.expression.specs.contracts.refusal.Refusal.{the_type}
use Rattle.expression.specs.Outcome.{number_of}
use Rattle.expression.specs.declared.refusal.Refusal.{Refusal}
use Rattle.expression.specs.declared.refusal.Refusal.TheVariants.{Oversize, Torn, Stranger, Dead, Double, NoRow, NoTree, Place, Empty, Short, InUse, Frame, NoMeaning, NoReading, NothingStaged, OtherRow, Conflict}
use Rattle.expression.specs.Lent.{length_after}
use Rattle.expression.proofs.Cond.{by_cond}
use Rattle.disambiguation.specs.SheetChecks.{order_checks}
use Rattle.record.specs.declared.Answer.{Answer}
use Rattle.hexadecimal.specs.Text.{bytes_of, text_of, with_front, Decodes}
use Rattle.std.specs.Prelude.{Result, Ok, Err}
use Rattle.hexadecimal.specs.declared.DecodeError.{DecodeError}
use Rattle.hexadecimal.proofs.TextWays.{length_text_of}
use Rattle.frame.specs.Lines.{most_frame, most_characters}
use Rattle.frame.specs.CallContracts.{Writes}
use Rattle.frame.proofs.LineWays.{unread, read}
use Rattle.witness.specs.Explaining.{most_explained, explained, AnswersWith}
use Rattle.explain.specs.Replies.{sheet_bytes, frame_bytes, text_bytes, line_bytes}
use Rattle.explain.specs.CallContracts.{Says}
use Rattle.explain.proofs.Longest.{explained_short, never_short}

-- A number and an answer were written, and they are the bytes.
says : {number : ℕ} {answer out after : List ℕ} {r : ℕ} → Writes number answer out after r → (bytes : List ℕ) → bytes ≡ number ∷ answer → length answer ≤ most_explained → Says bytes out after r
says {number} {answer} {out} w bytes e l = record {
  measured = w.measured ∙ ap (λ b. length (text_of b)) (sym e);
  output = w.output ∙ ap (λ b. with_front (text_of b) out) (sym e);
  inside = omega (arith, w.measured, length_text_of (number ∷ answer));
}

same_bytes : {bytes others out after : List ℕ} {r : ℕ} → others ≡ bytes → Says bytes out after r → Says others out after r
same_bytes {out = out} {after} {r} e s = subst (λ b. Says b out after r) (sym e) s

-- ---- reply_to_sheet
module _ (n : ℕ) (bytes : List ℕ) {before after : List ℕ} {t : Answer} (a : AnswersWith (order_checks n bytes) (explained n bytes) before after t) (h : length before ≡ most_explained) where
  -- the answer is the front of the lent array
  answer_front : take t.length after ≡ cond (eqb t.number accepted) (explained n bytes) []
  answer_front = go (eqb t.number accepted) a.measured a.output
    where
      go : (b : Bool) → t.length ≡ cond b (length (explained n bytes)) 0 → after ≡ cond b (with_front (explained n bytes) before) before → take t.length after ≡ cond b (explained n bytes) []
      go true m e = ap₂ take m e ∙ take-append_seam (explained n bytes) (drop (length (explained n bytes)) before)
      go false m e = ap (λ m. take m after) m

  answer_short : t.length ≤ most_explained
  answer_short =
      let m : length_after t.number (explained n bytes) ≤ most_explained = by_cond (λ m. m ≤ most_explained) (eqb t.number accepted) (λ _. explained_short n bytes) (λ _. omega arith) in
      omega (arith, a.measured)

  pub answer_inside : length after ≡ length before → t.length ≤ length after
  answer_inside e = omega (arith, answer_short)

  pub answer_fits : length (take t.length after) ≤ 256
  answer_fits = omega (arith, answer_short, length-take t.length after)

  pub sheet_explained : {out written : List ℕ} {r : ℕ} → Writes t.number (take t.length after) out written r → Says (sheet_bytes n bytes) out written r
  unfolding sheet_bytes
  sheet_explained w =
      let number : t.number ≡ first (order_checks n bytes) = a.numbered ∙ never_short n bytes (length before) (omega arith) in
      says w (sheet_bytes n bytes) (ap₂ ◌∷◌ (sym number) (ap (λ m. cond (eqb m accepted) (explained n bytes) []) (sym number) ∙ sym answer_front)) (omega (arith, answer_short, length-take t.length after))

-- ---- reply_to_frame
short_frame_lem : (bytes : List ℕ) → length bytes < 2 → frame_bytes bytes ≡ 12 ∷ []
unfolding frame_bytes
short_frame_lem [] h = refl
short_frame_lem (kind ∷ []) h = by_cond (λ l. l ≡ 12 ∷ []) (eqb kind 1) (λ _. refl) (λ _. refl)
short_frame_lem (kind ∷ n ∷ bytes) h = absurd (omega arith)

other_frame : (bytes : List ℕ) → (get_or bytes 0 0 ≡ 1 → ⊥) → frame_bytes bytes ≡ 12 ∷ []
unfolding frame_bytes
other_frame [] h = refl
other_frame (kind ∷ rest) h = rw (ne_eqb kind 1 h)

sheet_frame : (bytes : List ℕ) → 2 ≤ length bytes → get_or bytes 0 0 ≡ 1 → frame_bytes bytes ≡ sheet_bytes (get_or bytes 1 0) (take (length bytes - 2) (drop 2 bytes))
unfolding frame_bytes
sheet_frame [] l h = absurd (omega arith)
sheet_frame (kind ∷ []) l h = absurd (omega arith)
sheet_frame (kind ∷ n ∷ bytes) l h = rw (eq-eqb kind 1 h) (ap (sheet_bytes n) (sym (take_all (length (kind ∷ n ∷ bytes) - 2) bytes (omega arith))))

module _ (bytes : List ℕ) {out after : List ℕ} {r : ℕ} where
  pub frame_short : Writes 12 [] out after r → length bytes < 2 → Says (frame_bytes bytes) out after r
  frame_short w h = says w (frame_bytes bytes) (short_frame_lem bytes h) (omega arith)

  pub frame_other : Writes 12 [] out after r → (get_or bytes 0 0 ≡ 1 → ⊥) → Says (frame_bytes bytes) out after r
  frame_other w h = says w (frame_bytes bytes) (other_frame bytes h) (omega arith)

  pub frame_sheet : Says (sheet_bytes (get_or bytes 1 0) (take (length bytes - 2) (drop 2 bytes))) out after r → 2 ≤ length bytes → get_or bytes 0 0 ≡ 1 → Says (frame_bytes bytes) out after r
  frame_sheet s l h = same_bytes (sheet_frame bytes l h) s

pub ruleset frame_ways = (frame_short, frame_other, frame_sheet, rules)

-- ---- reply_within
module _ {line room room' : List ℕ} {d : Result ℕ DecodeError} (reads : Decodes line room room' d) (l : length line ≤ most_characters) (h : length room ≡ most_frame) where
  within : line_bytes line ≡ text_bytes (bytes_of line)
  unfolding line_bytes
  within = rw (le-ltb most_characters (length line) l)

  pub line_refused : {out after : List ℕ} {r : ℕ} {e : DecodeError} → Writes 12 [] out after r → d ≡ Err e → Says (line_bytes line) out after r
  line_refused w e = says w (line_bytes line) (within ∙ ap text_bytes (unread line room reads (omega arith) e)) (omega arith)

  pub line_read : {out after : List ℕ} {r n : ℕ} → Says (frame_bytes (take (n - 0) room')) out after r → d ≡ Ok n → Says (line_bytes line) out after r
  line_read s e = same_bytes (within ∙ ap text_bytes (read line room reads (omega arith) e)) s

pub ruleset within_ways = (line_refused, line_read, rules)

-- ---- reply
pub line_long : (line : List ℕ) {out after : List ℕ} {r : ℕ} → Writes 1 [] out after r → most_characters < length line → Says (line_bytes line) out after r
unfolding line_bytes
line_long line w l = says w (line_bytes line) (rw (lt-ltb most_characters (length line) l)) (omega arith)

pub ruleset reply_ways = (line_long, rules)
