-- What `take_operand` gives, and what that is to the machine. Assumes nothing.
use mathlib.Core.Path.{◌≡◌, refl, sym, ap, ◌∙◌}
use mathlib.Core.Bool.{Bool, true, false, not, true≢false, not-not}
use mathlib.Core.List.{List, [], ◌∷◌, ◌++◌}
use Prim.Native.Nat.{ℕ, suc, ◌<◌, ◌≤◌}
use native.Mathlib.Omega.{arith}
use native.Mathlib.Decide.{dec_lt}
use lib.ListN.{length, take}
use lib.Seq.{length-take-le, take-take, take_at}
use borrow.Author.Tests.{lt-ltb, le-ltb}
use Rattle.expression.specs.Limits.{most_operators}
use Rattle.expression.specs.Token.{Class, Infix, Prefix, Opening, Closing, Reading, Meaningless, opening, closing, Operators, class}
use Rattle.expression.specs.Tree.{Tree, reading}
use Rattle.expression.proofs.Classes.{infix_byte, brackets}
use Rattle.disambiguation.specs.LeftToRight.{ahead, Stack, opened, waiting, State, due, have, stuck, where_due, where_read}
use Rattle.sheet.specs.Layout.{operators_of, prefix_in}
use Rattle.sheet.proofs.Laws.{infix_in_lem}
use Rattle.parser.specs.Notes.{note, notes_of, notes_below, notes_at}
use Rattle.parser.specs.Reading.{infix_in, next, Goes, Waits, Noted, Takes, Held, Adds}
use Rattle.parser.proofs.Shares.{share_byte}
use Rattle.parser.proofs.Closing.{length_notes_at}

module _ {ops : Operators} {h : Held} where
  pub count_is : {m : State} → Noted ops h m → h.count ≡ length (notes_at m)
  count_is n = sym (length-take-le h.count h.words (omega (arith, n.held.inside, n.held.full))) ∙ ap length n.noted

  -- where an operand was read, what waits stands before it
  pub waits_before : {s : Stack} {t : Tree} → Noted ops h (have s t) → Waits ops h.words h.first s
  waits_before {s} {t} n =
      let long = count_is n ∙ length_notes_at s t in
      record {
        noted =
            sym (take-take h.first h.count h.words (omega (arith, n.begins, long))) ∙ ap (take h.first) n.noted
            ∙ take_at (notes_below s) (notes_of 0 t) h.first (sym n.begins);
        over = n.over.0;
        inside = omega (arith, n.held.ordered, n.held.inside, n.held.full);
      }

-- ---- what take_operand is to the machine
module _ (ops : Operators) (closes : ℕ → ℕ → Bool) (c : ℕ) {h h' : Held} (starts : Adds (note c 1 0) h.count h h') where
  -- the words with the note of c
  with_note_lem : (s : Stack) → Noted ops h (due s) → take h'.count h'.words ≡ notes_below s ++ note c 1 0 ∷ []
  with_note_lem s n =
      let e : h'.count ≡ suc h.count = omega (arith, starts.counted) in
      ap (λ k. take k h'.words) e ∙ starts.added ∙ ap (λ l. l ++ note c 1 0 ∷ []) n.noted

  opens : (s : Stack) → c ≡ opening → Noted ops h (due s) → Noted ops h' (due (opened s))
  opens s e n =
      record {
        noted = with_note_lem s n ∙ ap (λ b. notes_below s ++ note b 1 0 ∷ []) e;
        begins = tt;
        over = n.over;
        held = starts.held;
      }

  leads : (s : Stack) → class ops c ≡ Prefix → Noted ops h (due s) → Noted ops h' (due (waiting (ahead c) s))
  leads s e n =
      record {
        noted = with_note_lem s n;
        begins = tt;
        over = (e, n.over);
        held = starts.held;
      }

  reads_one : (s : Stack) → class ops c ≡ Reading → Noted ops h (due s) → Noted ops h' (have s (reading c))
  reads_one s e n =
      record {
        noted = with_note_lem s n;
        begins = starts.first_is ∙ count_is n;
        over = (n.over, e);
        held = starts.held;
      }

  -- where an operand is due, by the class of c, which is no infix operator and no closing bracket
  where_due_lem : (k : Class) → class ops c ≡ k → (c ≡ closing → ⊥) → (s : Stack) → Noted ops h (due s) → Goes (where_due k c s)
      → Noted ops h' (where_due k c s)
  where_due_lem Infix e not_closing_lem s n h = absurd h
  where_due_lem Prefix e not_closing_lem s n h = leads s e n
  where_due_lem Opening e not_closing_lem s n h = opens s ((brackets ops).opening_only c e) n
  where_due_lem Closing e not_closing_lem s n h = absurd h
  where_due_lem Reading e not_closing_lem s n h = reads_one s e n
  where_due_lem Meaningless e not_closing_lem s n h = absurd h

  -- and none of these where one has been read
  where_read_lem : (k : Class) → class ops c ≡ k → (class ops c ≡ Infix → ⊥) → (c ≡ closing → ⊥) → (s : Stack) (t : Tree) → Goes (where_read closes k c s t) → ⊥
  where_read_lem Infix e no_infix not_closing_lem s t h = no_infix e
  where_read_lem Prefix e no_infix not_closing_lem s t h = h
  where_read_lem Opening e no_infix not_closing_lem s t h = h
  where_read_lem Closing e no_infix not_closing_lem s t h = not_closing_lem ((brackets ops).closing_only c e)
  where_read_lem Reading e no_infix not_closing_lem s t h = h
  where_read_lem Meaningless e no_infix not_closing_lem s t h = h

  taken_as_operand : (class ops c ≡ Infix → ⊥) → (c ≡ closing → ⊥) → Takes ops closes c h h'
  taken_as_operand no_infix not_closing_lem =
      record {
        taken = operand_goes;
        counted = omega (arith, starts.counted, share_byte c not_closing_lem);
      }
    where
      operand_goes : (m : State) → Noted ops h m → Goes (next ops closes c m) → Noted ops h' (next ops closes c m)
      operand_goes (due s) n h = where_due_lem (class ops c) refl not_closing_lem s n h
      operand_goes (have s t) n h = absurd (where_read_lem (class ops c) refl no_infix not_closing_lem s t h)
      operand_goes stuck n h = absurd h

-- ---- is_infix
module _ (sheet : List ℕ) (c : ℕ) where
  no_operator : most_operators ≤ c → false ≡ infix_in sheet c
  unfolding infix_in
  no_operator h = simp (le-ltb c most_operators h)

  by_kind : {p : Bool} → c < most_operators → p ≡ prefix_in sheet c → not p ≡ infix_in sheet c
  unfolding infix_in
  by_kind h kind = ap not kind ∙ simp (lt-ltb c most_operators h)

  module _ {p : Bool} (told : p ≡ infix_in sheet c) where
    pub told_operator : p ≡ true → c < most_operators
    told_operator z = go (dec_lt c most_operators)
      where
        go : Dec (c < most_operators) → c < most_operators
        go (yes h) = h
        go (no h) = absurd (true≢false (sym z ∙ told ∙ sym (no_operator (omega arith))))

    pub told_infix : p ≡ true → prefix_in sheet c ≡ false
    told_infix z = sym (not-not (prefix_in sheet c)) ∙ ap not (by_kind (told_operator z) refl ∙ sym told ∙ z)

-- what is no infix operator of the sheet and no closing bracket
module _ (sheet : List ℕ) (closes : ℕ → ℕ → Bool) (c : ℕ) where
  infix_here : class (operators_of sheet) c ≡ Infix → infix_in sheet c ≡ true
  infix_here e = sym (by_kind sheet c (infix_byte (operators_of sheet) c e).0 refl) ∙ ap not (infix_in_lem sheet c e)

  pub operand_taken : {h h' : Held} {p : Bool} → Adds (note c 1 0) h.count h h' → p ≡ infix_in sheet c → p ≡ false
      → (c ≡ closing → ⊥) → Takes (operators_of sheet) closes c h h'
  operand_taken starts kind z = taken_as_operand (operators_of sheet) closes c starts (λ e. true≢false (sym (kind ∙ infix_here e) ∙ z))
