-- What closes on the stack changes no note: an operator that closes has its place already. Assumes nothing.
use Prim.Native.Nat.{ℕ, suc, ◌+◌, ◌-◌, ◌<◌}
use native.Mathlib.Omega.{arith}
use mathlib.Core.Path.{◌≡◌, refl, ap, sym, ◌∙◌}
use mathlib.Core.Bool.{Bool}
use mathlib.Core.Option.{some, some-injective}
use mathlib.Core.List.{List, [], ◌∷◌, ◌++◌, append_assoc}
use lib.ListN.{length, length-append, get_or, take}
use lib.Seq.{length-take-le, take-take, take_at, get_or_at, get_or-take}
use Rattle.expression.specs.Limits.{most_operators}
use Rattle.expression.specs.Token.{opening, Operators, class}
use Rattle.expression.specs.Tree.{Tree, bracket, record_of, Over}
use Rattle.expression.proofs.Classes.{infix_byte, prefix_byte}
use Rattle.disambiguation.specs.LeftToRight.{Pending, after, ahead, operator_of, fill, Stack, bottom, opened, waiting, State, due, have, stuck, close}
use Rattle.disambiguation.specs.LeftToRight.{everything, whole, finish}
use Rattle.disambiguation.proofs.LeftToRight.{close_keeps}
use Rattle.parser.specs.Notes.{note, byte_in, back_in, notes_of, notes_below, notes_at}
use Rattle.parser.specs.Reading.{OverBelow, Waits}
use Rattle.parser.proofs.NoteLaws.{byte_note, back_note, length_notes_of}

-- ---- what is left is over the operators
pub close_over : (ops : Operators) (p : ℕ → Bool) (s : Stack) (t : Tree) → OverBelow ops s → Over (class ops) t
    → OverBelow ops (close p s t).0 × Over (class ops) (close p s t).1
close_over ops p s t hs ht = close_keeps (λ x y. OverBelow ops x × Over (class ops) y) filled p s t (hs, ht)
  where
    filled : (f : Pending) (x : Stack) (y : Tree) → OverBelow ops (waiting f x) × Over (class ops) y → OverBelow ops x × Over (class ops) (fill f y)
    filled (after l o) x y h = (h.0.2, (h.0.0, h.0.1, h.1))
    filled (ahead p) x y h = (h.0.1, (h.0.0, h.1))

-- ---- lengths
pub length_opened : (s : Stack) → length (notes_below (opened s)) ≡ suc (length (notes_below s))
length_opened s = length-append (notes_below s) (note opening 1 0 ∷ []) ∙ omega arith

pub length_waiting : (l : Tree) (o : ℕ) (s : Stack) → length (notes_below (waiting (after l o) s)) ≡ suc (length (notes_below s) + length (record_of l))
length_waiting l o s =
    length-append (notes_below s ++ notes_of 1 l) (note o 0 (length (record_of l)) ∷ [])
    ∙ ap (λ n. n + 1) (length-append (notes_below s) (notes_of 1 l) ∙ ap (λ n. length (notes_below s) + n) (length_notes_of 1 l)) ∙ omega arith

pub length_led : (p : ℕ) (s : Stack) → length (notes_below (waiting (ahead p) s)) ≡ suc (length (notes_below s))
length_led p s = length-append (notes_below s) (note p 1 0 ∷ []) ∙ omega arith

pub length_notes_at : (s : Stack) (t : Tree) → length (notes_at (have s t)) ≡ length (notes_below s) + length (record_of t)
length_notes_at s t = length-append (notes_below s) (notes_of 0 t) ∙ ap (λ n. length (notes_below s) + n) (length_notes_of 0 t)

-- ---- the notes
fill_notes : (f : Pending) (s : Stack) (t : Tree) → notes_at (have (waiting f s) t) ≡ notes_at (have s (fill f t))
fill_notes (after l o) s t =
    let n : ℕ = note o 0 (length (record_of l)) in
    append_assoc (notes_below s ++ notes_of 1 l) (n ∷ []) (notes_of 0 t) ∙ append_assoc (notes_below s) (notes_of 1 l) (n ∷ notes_of 0 t)
fill_notes (ahead p) s t = append_assoc (notes_below s) (note p 1 0 ∷ []) (notes_of 0 t)

pub close_notes : (p : ℕ → Bool) (s : Stack) (t : Tree) → notes_at (have s t) ≡ notes_at (have (close p s t).0 (close p s t).1)
close_notes p s t = close_keeps (λ x y. notes_at (have s t) ≡ notes_at (have x y)) (λ f x y e. e ∙ fill_notes f x y) p s t refl

-- a bracket that closes has its note already
pub shut_notes : (s : Stack) (t : Tree) → notes_at (have (opened s) t) ≡ notes_at (have s (bracket t))
shut_notes s t = append_assoc (notes_below s) (note opening 1 0 ∷ []) (notes_of 0 t)

-- ---- what stands right before an operand
module _ (ops : Operators) (words : List ℕ) (first : ℕ) where
  pub waits_length : {s : Stack} → Waits ops words first s → first ≡ length (notes_below s)
  waits_length w = sym (length-take-le first words w.inside) ∙ ap length w.noted

  -- the word before the place, and what waits below it
  abbrev pub Top : ℕ → Stack → Type 0
  Top w bottom = ⊥
  Top w (opened s) = byte_in w ≡ opening
  Top w (waiting f s) = (byte_in w ≡ operator_of f) × (operator_of f < most_operators) × (back_in w < first) × Waits ops words (first - 1 - back_in w) s

  last_word : (xs : List ℕ) (w : ℕ) → take first words ≡ xs ++ w ∷ [] → first ≡ suc (length xs) → get_or words (first - 1) 0 ≡ w
  last_word xs w e n = sym (get_or-take first words (first - 1) 0 (omega arith)) ∙ ap (λ x. get_or x (first - 1) 0) e
      ∙ get_or_at xs w [] 0 (first - 1) (omega arith)

  pub top_note : 0 < first → (s : Stack) → Waits ops words first s → Top (get_or words (first - 1) 0) s
  top_note h bottom w = absurd (omega (arith, waits_length w))
  top_note h (opened s) w = ap byte_in (last_word (notes_below s) (note opening 1 0) w.noted (waits_length w ∙ length_opened s))
      ∙ byte_note opening 1 0 (omega arith)
  top_note h (waiting (after l o) s) w =
      let m : ℕ = length (record_of l) in
      let small = (infix_byte ops o w.over.0).0 in
      let long = waits_length w ∙ length_waiting l o s in
      let size = length-append (notes_below s) (notes_of 1 l) ∙ ap (λ n. length (notes_below s) + n) (length_notes_of 1 l) in
      let word = last_word (notes_below s ++ notes_of 1 l) (note o 0 m) w.noted (long ∙ ap suc (sym size)) in
      let back : back_in (get_or words (first - 1) 0) ≡ m = ap back_in word ∙ back_note o 0 m (omega arith) (omega arith) in
      let at : first - 1 - back_in (get_or words (first - 1) 0) ≡ length (notes_below s) = omega (arith, back, long) in (
        ap byte_in word ∙ byte_note o 0 m (omega arith),
        small,
        omega (arith, back, long),
        record {
          noted =
              sym (take-take (first - 1 - back_in (get_or words (first - 1) 0)) first words (omega arith))
              ∙ ap (take (first - 1 - back_in (get_or words (first - 1) 0))) (w.noted ∙ append_assoc (notes_below s) (notes_of 1 l) (note o 0 m ∷ []))
              ∙ take_at (notes_below s) (notes_of 1 l ++ note o 0 m ∷ []) (first - 1 - back_in (get_or words (first - 1) 0)) (sym at);
          over = w.over.2;
          inside = omega (arith, w.inside);
        },
      )
  top_note h (waiting (ahead p) s) w =
      let small = (prefix_byte ops p w.over.0).0 in
      let long = waits_length w ∙ length_led p s in
      let word = last_word (notes_below s) (note p 1 0) w.noted long in
      let back : back_in (get_or words (first - 1) 0) ≡ 0 = ap back_in word ∙ back_note p 1 0 (omega arith) (omega arith) in
      let at : first - 1 - back_in (get_or words (first - 1) 0) ≡ length (notes_below s) = omega (arith, back, long) in (
        ap byte_in word ∙ byte_note p 1 0 (omega arith),
        small,
        omega (arith, back, long),
        record {
          noted =
              sym (take-take (first - 1 - back_in (get_or words (first - 1) 0)) first words (omega arith))
              ∙ ap (take (first - 1 - back_in (get_or words (first - 1) 0))) w.noted
              ∙ take_at (notes_below s) (note p 1 0 ∷ []) (first - 1 - back_in (get_or words (first - 1) 0)) (sym at);
          over = w.over.1;
          inside = omega (arith, w.inside);
        },
      )

-- ---- at the end
whole_notes : (s : Stack) (u t : Tree) → whole s u ≡ some t → notes_at (have s u) ≡ notes_of 0 t
whole_notes bottom u t e = ap (notes_of 0) (some-injective u t e)
whole_notes (opened s) u t e = cc
whole_notes (waiting f s) u t e = cc

-- all that waits at the end closes, which changes no note
pub finished_notes : (m : State) (t : Tree) → finish m ≡ some t → notes_at m ≡ notes_of 0 t
finished_notes (due s) t e = cc
finished_notes (have s u) t e = close_notes everything s u ∙ whole_notes (close everything s u).0 (close everything s u).1 t e
finished_notes stuck t e = cc
