-- What each way through `yield_row` gives. Assumes nothing.
use Prim.Native.Nat.{ℕ, ◌≤◌, ◌<◌}
use native.Mathlib.Omega.{arith}
use Rattle.std.specs.Prelude.{Option, Some}
use mathlib.Core.Path.{◌≡◌, refl, ap, sym, ◌∙◌}
use mathlib.Core.List.{List, [], ◌∷◌, ◌++◌}
use lib.ListN.{length, drop}
use borrow.Author.Rules.{rules}
use borrow.Author.Tests.{lt-ltb, le-ltb, ne_eqb}
use Rattle.expression.specs.Limits.{most_tokens, most_record_bytes}
use Rattle.expression.specs.Refusal.{Check, accepted, short}
use Rattle.expression.specs.Outcome.{number_of}
use Rattle.expression.specs.Token.{Operators, class}
use Rattle.expression.specs.Tree.{Tree, yield}
use Rattle.expression.specs.Checks.{row_tokens, record_checks, short_check, record_number, yield_number}
use Rattle.expression.specs.Decode.{tree_of}
use Rattle.expression.specs.declared.refusal.Refusal.{Refusal}
use Rattle.expression.specs.declared.refusal.Refusal.TheVariants.{Oversize}
use Rattle.expression.proofs.Classes.{brackets}
use Rattle.expression.proofs.Lengths.{row_length_of_record}
use Rattle.expression.proofs.Numbers.{first_append, first_refused}
use Rattle.record.specs.Checks.{row_length}
use Rattle.record.specs.Front.{front}
use Rattle.record.specs.Rows.{Writes}
use Rattle.record.specs.Answers.{Yields}
use Rattle.record.proofs.Accepted.{Accepted, accepted_tree}
use Rattle.record.proofs.Standing.{read_back}
use Rattle.record.proofs.Numbering as numbering
use Rattle.record.proofs.Holding.{front_all}

-- the last of the checks
abbrev room : Operators → List ℕ → List ℕ → List Check
room ops bytes before = short_check (row_tokens (tree_of (class ops) bytes)) (length before) ∷ []

module _ (ops : Operators) (bytes before : List ℕ) where
  refused : {n : ℕ} → n ≡ record_number ops bytes → (n ≡ accepted → ⊥) → Yields ops bytes before before (record { number = n; length = 0 })
  unfolding record_number yield_number
  refused {n} known h =
      record {
        numbered = known ∙ sym (first_refused (record_checks ops bytes) (room ops bytes before) (λ z. h (known ∙ z)));
        measured = rw (ne_eqb n accepted h);
        output = rw (ne_eqb n accepted h);
      }

  pub too_long : {r : Refusal} → (r ≡ Oversize) × (most_record_bytes < length bytes) → Yields ops bytes before before (record { number = number_of r; length = 0 })
  too_long (e, h) = rw e (refused (numbering.too_long ops bytes h) (λ z. omega arith))

  pub row_over : {v : ℕ} → v ≡ row_length bytes → most_tokens < v → record_number ops bytes ≡ accepted → ⊥
  row_over v l e = let (t, a) = accepted_tree ops bytes e in omega (arith, a.row_fits, a.row_is)

  pub row_too_long : {v n : ℕ} → v ≡ row_length bytes → most_tokens < v → n ≡ record_number ops bytes → Yields ops bytes before before (record { number = n; length = 0 })
  row_too_long v l e = refused e (λ z. row_over v l (sym e ∙ z))

  module _ {r : Option ℕ} {row : List ℕ} (h : Writes ops (front (length bytes) bytes) 0 [] row r) where
    on_bytes : Writes ops bytes 0 [] row r
    on_bytes = rw (front_all bytes) at h

    pub not_accepted : (r ≡ Some (length bytes) → ⊥) → record_number ops bytes ≡ accepted → ⊥
    not_accepted n e = let (t, a) = accepted_tree ops bytes e in n (on_bytes.wrote t (length bytes) a.stands (omega (arith, a.row_fits))).0

    pub flawed : {n : ℕ} → (r ≡ Some (length bytes) → ⊥) → n ≡ record_number ops bytes → Yields ops bytes before before (record { number = n; length = 0 })
    flawed n e = refused e (λ z. not_accepted n (sym e ∙ z))

    module _ (fits : length bytes ≤ most_record_bytes) (all : r ≡ Some (length bytes)) where
      the_tree : (t : Tree) × Accepted ops bytes t × (row ≡ yield t)
      the_tree =
          let (t, x, low) = on_bytes.found (length bytes) all in
          let read = read_back ops bytes t x refl in
          let long = sym (ap row_tokens read) ∙ row_length_of_record (class ops) (brackets ops) bytes t read in
          let (u, a) = accepted_tree ops bytes (sym (numbering.read_number ops bytes fits t read refl (omega (arith, long)))) in
          (u, a, (on_bytes.wrote u (length bytes) a.stands (omega (arith, a.row_fits))).1)

      pub too_short : length before < length row → Yields ops bytes before before (record { number = short; length = 0 })
      unfolding yield_number
      too_short l =
          let (t, a, e) = the_tree in
          record {
            numbered =
                sym (first_append (record_checks ops bytes) (room ops bytes before) a.passed
                ∙ rw (a.read, lt-ltb (length before) (length (yield t)) (omega (arith, ap length e))));
            measured = refl;
            output = refl;
          }

      pub yielded : {after : List ℕ} → length row ≤ length before → after ≡ row ++ drop (length row) before
          → Yields ops bytes before after (record { number = accepted; length = length row })
      unfolding yield_number
      yielded enough output =
          let (t, a, e) = the_tree in
          record {
            numbered =
                sym (first_append (record_checks ops bytes) (room ops bytes before) a.passed
                ∙ rw (a.read, le-ltb (length before) (length (yield t)) (omega (arith, ap length e))));
            measured = rw a.read (ap length e);
            output = rw a.read (output ∙ ap (λ d. d ++ drop (length d) before) e);
          }

pub ruleset yield_row_ways = (too_long, row_over, row_too_long, not_accepted, flawed, too_short, yielded, rules)
