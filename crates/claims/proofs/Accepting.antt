-- A pair is accepted exactly if the record is that of a conflict-free tree of the row: by any operators and rules. Assumes nothing.
use Prim.Native.Nat.{ℕ, ◌≤◌}
use native.Mathlib.Omega.{arith}
use mathlib.Core.Path.{◌≡◌, refl, ap, sym, subst, ◌∙◌}
use mathlib.Core.Bool.{Bool, true, false, not}
use mathlib.Core.Logic.{◌↔◌}
use mathlib.Core.List.{List, []}
use lib.Dec.{eqb}
use lib.ListN.{length}
use borrow.Author.Tests.{eq-eqb, eqb-true, not-false}
use Rattle.expression.specs.Limits.{most_tokens, most_record_bytes}
use Rattle.expression.specs.Refusal.{first, accepted, conflict}
use Rattle.expression.specs.Token.{Operators, class}
use Rattle.expression.specs.Tree.{Tree, yield, record_of, Over}
use Rattle.expression.specs.Decode.{tree_of}
use Rattle.expression.specs.Operand.{row_of}
use Rattle.expression.specs.Checks.{record_bytes, row_checks, record_checks, row_number, record_number}
use Rattle.expression.proofs.Classes.{brackets}
use Rattle.expression.proofs.RowsAndTrees.{row_exactly_if_yielded}
use Rattle.expression.proofs.Lengths.{few_bytes, record_length}
use Rattle.expression.proofs.Numbers.{first_passed, rest_first, given_after, row_numbered, record_numbered, row_accepted, Recorded, read_as, record_accepted}
use Rattle.disambiguation.specs.Rules.{Rule}
use Rattle.disambiguation.specs.Conflicts.{ConflictFreeTree}
use Rattle.claims.specs.Claims.{Claimed, same_bytes, claim_checks, beside_checks, count_by, claim_number}
use Rattle.claims.proofs.SameBytes.{same_exactly_if}

-- A record that passes beside a row is of a tree of that row, and its count is 0;
module _ (ops : Operators) (row bytes : List ℕ) (count : ℕ) (z : first (beside_checks ops row bytes count) ≡ accepted) where
  passed : (t : Tree) × Recorded ops bytes t × (yield t ≡ row) × (count ≡ 0)
  unfolding record_number
  passed =
      let same = same_bytes (row_of (tree_of (class ops) bytes)) row in
      let (of_record, last) = given_after accepted (record_checks ops bytes) (claim_checks same count) refl z in
      let ((rows, (none, _)), _) = given_after accepted (claim_checks same count) [] refl last in
      let (t, r) = (record_accepted ops bytes).0 (first_passed (record_checks ops bytes) of_record) in (
        t,
        r,
        sym (ap row_of (read_as ops bytes t r.over r.recorded)) ∙ (same_exactly_if (row_of (tree_of (class ops) bytes)) row).0 (not-false same rows),
        eqb-true count 0 (not-false (eqb count 0) none),
      )

  -- so the row passes too.
  pub row_passes : row_number ops row ≡ accepted
  row_passes =
      let (t, r, yields, _) = passed in
      (row_accepted ops row).1 (subst (λ tokens. length tokens ≤ most_tokens) yields r.tokens_fit, (row_exactly_if_yielded ops row).1 (t, r.over, yields))

module _ (ops : Operators) (rules : List Rule) (row bytes : List ℕ) where
  abbrev count : ℕ
  count = count_by rules (tree_of (class ops) bytes)

  abbrev same : Bool
  same = same_bytes (row_of (tree_of (class ops) bytes)) row

  claimed : claim_number ops rules row bytes ≡ accepted → (length row ≤ most_tokens) × Claimed ops rules row bytes
  unfolding claim_number row_number
  claimed z =
      let (of_row, beside) = given_after accepted (row_checks ops row) (beside_checks ops row bytes count) refl z in
      let (t, r, yields, none) = passed ops row bytes count beside in
      let free = sym (ap (count_by rules) (read_as ops bytes t r.over r.recorded)) ∙ none in
      (((row_accepted ops row).0 (first_passed (row_checks ops row) of_row)).0, (t, record { over = r.over; yields = yields; free = free }, r.recorded))

  module _ (fits : length row ≤ most_tokens) (t : Tree) (c : ConflictFreeTree ops rules row t) (e : record_of t ≡ bytes) where
    bytes_fit : length bytes ≤ most_record_bytes
    bytes_fit = omega (arith, fits, ap length e, record_length (class ops) (brackets ops) t c.over, ap record_bytes c.yields, few_bytes row)

    claim_passes : claim_number ops rules row bytes ≡ accepted
    unfolding claim_number row_number record_number
    claim_passes =
        let q = read_as ops bytes t c.over e in
        rest_first (row_checks ops row) (beside_checks ops row bytes count) (row_numbered ops row)
        ((row_accepted ops row).1 (fits, (row_exactly_if_yielded ops row).1 (t, c.over, c.yields)))
        ∙ rest_first (record_checks ops bytes) (claim_checks same count) (record_numbered ops bytes)
        ((record_accepted ops bytes).1 (t, record { over = c.over; recorded = e; bytes_fit = bytes_fit; tokens_fit = rw c.yields fits }))
        ∙ first_passed (claim_checks same count) (
          ap not ((same_exactly_if (row_of (tree_of (class ops) bytes)) row).1 (ap row_of q ∙ c.yields)),
          (ap not (eq-eqb count 0 (ap (count_by rules) q ∙ c.free)), tt),
        )

  -- 17 is given only where the row is the record's own
  pub conflict_in_row : claim_number ops rules row bytes ≡ conflict → (t : Tree) × Over (class ops) t × (record_of t ≡ bytes) × (yield t ≡ row)
  unfolding claim_number record_number
  conflict_in_row z =
      let (_, beside) = given_after conflict (row_checks ops row) (beside_checks ops row bytes count) refl z in
      let (passed, last) = given_after conflict (record_checks ops bytes) (claim_checks same count) refl beside in
      let (t, r) = (record_accepted ops bytes).0 (first_passed (record_checks ops bytes) passed) in (
        t,
        r.over,
        r.recorded,
        sym (ap row_of (read_as ops bytes t r.over r.recorded))
            ∙ (same_exactly_if (row_of (tree_of (class ops) bytes)) row).0 (rows_same same last),
      )
    where
      rows_same : (x : Bool) → first (claim_checks x count) ≡ conflict → x ≡ true
      rows_same true e = refl
      rows_same false e = absurd (omega arith)

  pub accepted_exactly_if : (claim_number ops rules row bytes ≡ accepted) ↔ ((length row ≤ most_tokens) × Claimed ops rules row bytes)
  accepted_exactly_if = (claimed, λ h. let (fits, (t, c, e)) = h in claim_passes fits t c e)
