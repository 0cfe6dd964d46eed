-- What each way through a repair gives, from what is known on it. Assumes nothing.
use mathlib.Core.Path.{◌≡◌, refl, sym, ap, ap₂, ◌∙◌}
use mathlib.Core.List.{List, [], ◌∷◌, ◌++◌}
use Prim.Native.Nat.{ℕ, ◌-◌, ◌<◌, ◌≤◌}
use native.Mathlib.Omega.{arith}
use lib.ListN.{length, take, drop, length-append}
use lib.Seq.{take_at, length-take-le}
use borrow.Author.Tests.{ne_eqb}
use Rattle.expression.specs.Limits.{most_tokens}
use Rattle.expression.specs.Refusal.{accepted}
use Rattle.expression.specs.Token.{Operators, class}
use Rattle.expression.specs.Grammar.{Row}
use Rattle.expression.specs.Decode.{tree_of}
use Rattle.expression.specs.Operand.{row_of}
use Rattle.expression.specs.Checks.{record_bytes, row_tokens, short_check, record_checks, record_number, repair_number, yield_number}
use Rattle.expression.proofs.Classes.{brackets}
use Rattle.expression.proofs.RowsAndTrees.{row_exactly_if_yielded}
use Rattle.expression.proofs.Lengths.{record_length}
use Rattle.expression.proofs.Numbers.{first_refused, first_short, first_roomy, first_enough, record_numbered, read_as, record_accepted}
use Rattle.sheet.specs.Layout.{operators_of}
use Rattle.sheet.specs.Relation.{closes_in}
use Rattle.record.specs.Answers.{Yields}
use Rattle.record.specs.declared.Answer.{Answer}
use Rattle.parser.specs.Build.{built}
use Rattle.parser.specs.Reading.{Buildable}
use Rattle.parser.specs.Answers.{AnswersRepair}
use Rattle.parser.proofs.BuildLaws.{row_buildable, built_length}

module _ (ops : Operators) (bytes : List ℕ) where
  abbrev row_here : List ℕ
  row_here = row_of (tree_of (class ops) bytes)

  -- What is known of an accepted record.
  pub record Accepted : Type 0 where
    pub is_row : Row ops row_here
    pub fits : length row_here ≤ most_tokens
    pub tokens : row_tokens (tree_of (class ops) bytes) ≡ length row_here
    pub same_length : record_bytes row_here ≡ length bytes

  pub accepted_record : record_number ops bytes ≡ accepted → Accepted
  accepted_record e =
      let (t, r) = (record_accepted ops bytes).0 e in
      let q = read_as ops bytes t r.over r.recorded in
      record {
        is_row = (row_exactly_if_yielded ops row_here).1 (t, r.over, sym (ap row_of q));
        fits = rw (ap row_of q) r.tokens_fit;
        tokens = ap row_tokens q ∙ ap length (sym (ap row_of q));
        same_length = ap record_bytes (ap row_of q) ∙ sym (record_length (class ops) (brackets ops) t r.over) ∙ ap length r.recorded;
      }

  -- with room for every row, 10 is no number of a yield
  pub yield_number_lem : (room : ℕ) → most_tokens ≤ room → yield_number ops bytes room ≡ record_number ops bytes
  unfolding record_number yield_number
  yield_number_lem room h =
      first_enough (record_checks ops bytes) (row_tokens (tree_of (class ops) bytes)) room (record_numbered ops bytes)
      (λ e. let a = accepted_record e in omega (arith, a.fits, a.tokens))

module _ (sheet bytes out row : List ℕ) {row' : List ℕ} {y : Answer} (room : most_tokens ≤ length row) (yields : Yields (operators_of sheet) bytes row row' y) where
  pub number_is : y.number ≡ record_number (operators_of sheet) bytes
  number_is = yields.numbered ∙ yield_number_lem (operators_of sheet) bytes (length row) room

  pub repair_refused : (y.number ≡ 0 → ⊥) → AnswersRepair sheet bytes out out (record { number = y.number; length = 0 })
  unfolding record_number repair_number
  repair_refused h =
      record {
        numbered = number_is ∙ sym (first_refused (record_checks (operators_of sheet) bytes) (short_check (length bytes) (length out) ∷ [])
            (λ f. h (number_is ∙ f)));
        measured = rw (ne_eqb y.number 0 h);
        output = rw (ne_eqb y.number 0 h);
      }

  module _ (zero : y.number ≡ 0) where
    known : Accepted (operators_of sheet) bytes
    known = accepted_record (operators_of sheet) bytes (sym number_is ∙ zero)

    pub repair_short : length out < length bytes → AnswersRepair sheet bytes out out (record { number = 10; length = 0 })
    unfolding record_number repair_number
    repair_short h =
        record {
          numbered = sym (first_short (record_checks (operators_of sheet) bytes) (length bytes) (length out) (sym number_is
              ∙ zero) (record_numbered (operators_of sheet) bytes) h);
          measured = refl;
          output = refl;
        }

    -- the front of the lent buffer is the row
    tokens_are : y.length ≡ length (row_here (operators_of sheet) bytes)
    tokens_are = yields.measured ∙ rw zero

    filled : row' ≡ row_here (operators_of sheet) bytes ++ drop (length (row_here (operators_of sheet) bytes)) row
    filled = yields.output ∙ rw zero

    pub laid : take (y.length - 0) row' ≡ row_here (operators_of sheet) bytes
    laid =
        ap (take (y.length - 0)) filled
        ∙ take_at (row_here (operators_of sheet) bytes) (drop (length (row_here (operators_of sheet) bytes)) row) (y.length - 0) (omega (arith, tokens_are))

    pub repair_few : length (take (y.length - 0) row') ≤ most_tokens
    repair_few = rw laid known.fits

    pub repair_room : length bytes ≤ length out → length (take (length bytes - 0) out) ≡ record_bytes (take (y.length - 0) row')
    repair_room h = length-take-le (length bytes - 0) out (omega arith) ∙ omega (arith, ap record_bytes laid, known.same_length)

    pub repair_buildable : Buildable (operators_of sheet) (closes_in sheet) (take (y.length - 0) row')
    repair_buildable = rw laid (row_buildable (closes_in sheet) (operators_of sheet) (row_here (operators_of sheet) bytes) known.is_row)

    pub repair_part : y.length ≤ length row'
    repair_part = omega (
      arith,
      tokens_are,
      known.fits,
      room,
      ap length filled,
      length-append (row_here (operators_of sheet) bytes)
          (drop (length (row_here (operators_of sheet) bytes)) row),
    )

    pub repair_done : {part : List ℕ} → length bytes ≤ length out → part ≡ built (operators_of sheet) (closes_in sheet) (take (y.length - 0) row')
        → AnswersRepair sheet bytes out (part ++ drop (length bytes - 0) out) (record { number = 0; length = length bytes })
    unfolding record_number repair_number
    repair_done h same =
        let long : length (built (operators_of sheet) (closes_in sheet) (row_here (operators_of sheet) bytes)) ≡ length bytes =
        built_length (closes_in sheet) (operators_of sheet) (row_here (operators_of sheet) bytes) known.is_row ∙ known.same_length in
        let ends : length bytes - 0 ≡ length (built (operators_of sheet) (closes_in sheet) (row_here (operators_of sheet) bytes)) = omega (arith, long) in
        record {
          numbered = sym (first_roomy (record_checks (operators_of sheet) bytes) (length bytes) (length out) (sym number_is
              ∙ zero) (record_numbered (operators_of sheet) bytes) h);
          measured = sym long;
          output = ap₂ ◌++◌ (same ∙ ap (built (operators_of sheet) (closes_in sheet)) laid) (ap (λ x. drop x out) ends);
        }
