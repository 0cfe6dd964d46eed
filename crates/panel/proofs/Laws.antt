-- A line over the limit of which only the first characters are kept gets the same reply and leads to the same panel. Assumes nothing.
use mathlib.Core.Path.{◌≡◌, refl, ap}
use mathlib.Core.Bool.{Bool, true, false}
use mathlib.Core.List.{List, [], ◌∷◌, ◌++◌}
use Prim.Native.Nat.{ℕ, ◌<◌}
use native.Mathlib.Omega.{arith}
use borrow.Author.Tests.{lt-ltb, ltb-true, ltb-false}
use lib.Dec.{ltb}
use lib.ListN.{length, take}
use lib.Seq.{take_all, length-take-le}
use Rattle.run.specs.Panel.{Panel}
use Rattle.line_io.specs.Lines.{line_feed}
use Rattle.frame.specs.Lines.{most_characters, is_long, line_call, line_bytes, line_reply, line_after}
use Rattle.panel.specs.Lines.{panel_at_end, last_reply}
use Rattle.panel.specs.CallContracts.{most_kept}

long_line : (l : List ℕ) → most_characters < length l → is_long l ≡ true
long_line l h = lt-ltb most_characters (length l) h

-- a claim about a line: it is whole, or it and what is kept of it are over the limit
by_cut : (P : List ℕ → List ℕ → Type 0) (line : List ℕ) → ((l : List ℕ) → P l l)
    → (is_long (take most_kept line) ≡ true → is_long line ≡ true → P (take most_kept line) line) → P (take most_kept line) line
by_cut P line whole cut = go (ltb most_kept (length line)) refl
  where
    go : (b : Bool) → ltb most_kept (length line) ≡ b → P (take most_kept line) line
    go true e =
        let h = ltb-true most_kept (length line) e in
        let n = length-take-le most_kept line (omega arith) in
        cut (long_line (take most_kept line) (omega arith)) (long_line line (omega arith))
    go false e = rw (take_all most_kept line (ltb-false most_kept (length line) e)) (whole line)

module _ (p : Panel) (line : List ℕ) where
  pub cut_reply : line_reply p (take most_kept line) ≡ line_reply p line
  unfolding line_reply line_bytes
  cut_reply = by_cut (λ a b. line_reply p a ≡ line_reply p b) line (λ l. refl) (λ e f. rw (e, f))

  pub cut_after : line_after p (take most_kept line) ≡ line_after p line
  unfolding line_after line_call
  cut_after = by_cut (λ a b. line_after p a ≡ line_after p b) line (λ l. refl) (λ e f. rw (e, f))

-- so does a last line without line end
pub cut_last_reply : (p : Panel) (line : List ℕ) → last_reply p (take most_kept line) ≡ last_reply p line
unfolding last_reply
cut_last_reply p [] = refl
cut_last_reply p (c ∷ line) = ap (λ l. l ++ line_feed ∷ []) (cut_reply p (c ∷ line))

pub cut_at_end : (p : Panel) (line : List ℕ) → panel_at_end p (take most_kept line) ≡ panel_at_end p line
unfolding panel_at_end
cut_at_end p [] = refl
cut_at_end p (c ∷ line) = cut_after p (c ∷ line)
