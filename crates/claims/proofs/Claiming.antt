-- What each way through the checks of a claim gives, from what is known on it. Assumes nothing.
use Prim.Native.Nat.{ℕ, ◌-◌, ◌≤◌}
use mathlib.Core.Path.{◌≡◌, refl, ap, ap₂, sym, ◌∙◌}
use mathlib.Core.Bool.{Bool, true, false}
use mathlib.Core.List.{List, []}
use lib.ListN.{length, take}
use borrow.Author.Rules.{rules}
use borrow.Author.Tests.{ne_eqb}
use Rattle.expression.specs.Refusal.{first, accepted, other_row, conflict}
use Rattle.expression.specs.Outcome.{number_of}
use Rattle.expression.specs.declared.refusal.Refusal.{Refusal}
use Rattle.expression.specs.Limits.{most_tokens}
use Rattle.expression.specs.Token.{Operators, class}
use Rattle.expression.specs.Decode.{tree_of}
use Rattle.expression.specs.Operand.{row_of}
use Rattle.expression.specs.Checks.{row_checks, record_checks, row_number, record_number}
use Rattle.expression.proofs.Numbers.{first_refused, rest_first, row_numbered, record_numbered}
use Rattle.sheet.specs.Layout.{operators_of}
use Rattle.record.specs.Answers.{Yields, count_in, judgement}
use Rattle.record.specs.declared.Judgement.{Judgement}
use Rattle.expression.proofs.Outcomes.{not_accepted}
use Rattle.parser.proofs.RepairWays.{number_is, laid, repair_part}
use Rattle.claims.specs.Claims.{same_bytes, claim_checks, beside_checks, beside_number_in, claim_number_in}
use Rattle.claims.proofs.SameBytes.{same_exactly_if}
use Rattle.claims.proofs.Accepting.{row_passes}

module _ (sheet row bytes : List ℕ) where
  abbrev ops : Operators
  ops = operators_of sheet

  abbrev count : ℕ
  count = count_in sheet (tree_of (class ops) bytes)

  abbrev same : Bool
  same = same_bytes (row_of (tree_of (class ops) bytes)) row

  -- ---- check_claim
  pub pair_passed : accepted ≡ beside_number_in sheet row bytes → accepted ≡ claim_number_in sheet row bytes
  unfolding row_number beside_number_in claim_number_in
  pair_passed e =
      sym (rest_first (row_checks ops row) (beside_checks ops row bytes count) (row_numbered ops row) (row_passes ops row bytes count (sym e)) ∙ sym e)

  pub row_refused : (r : Refusal) → number_of r ≡ row_number ops row → number_of r ≡ claim_number_in sheet row bytes
  unfolding row_number claim_number_in
  row_refused r is = is ∙ sym (first_refused (row_checks ops row) (beside_checks ops row bytes count) (λ z. not_accepted r (is ∙ z)))

  pub row_passed : {beside : ℕ} → beside ≡ beside_number_in sheet row bytes → accepted ≡ row_number ops row → beside ≡ claim_number_in sheet row bytes
  unfolding row_number beside_number_in claim_number_in
  row_passed e is = e ∙ sym (rest_first (row_checks ops row) (beside_checks ops row bytes count) (row_numbered ops row) (sym is))

  -- ---- check_beside: the record's row was written into a buffer with room for every row
  module _ (zeros : List ℕ) {own : List ℕ} (room : most_tokens ≤ length zeros) where
    pub record_refused : (r : Refusal) → Yields ops bytes zeros own (record { number = number_of r; length = 0 })
        → number_of r ≡ beside_number_in sheet row bytes
    unfolding record_number beside_number_in
    record_refused r yields =
        let is = number_is sheet bytes [] zeros room yields in
        is ∙ sym (first_refused (record_checks ops bytes) (claim_checks same count) (λ z. not_accepted r (is ∙ z)))

    module _ {n : ℕ} (yields : Yields ops bytes zeros own (record { number = accepted; length = n })) where
      pub row_part : n ≤ length own
      row_part = repair_part sheet bytes [] zeros room yields refl

      record_passes : record_number ops bytes ≡ accepted
      record_passes = sym (number_is sheet bytes [] zeros room yields)

      -- so 16 and 17 are left
      by_checks : first (claim_checks same count) ≡ beside_number_in sheet row bytes
      unfolding record_number beside_number_in
      by_checks = sym (rest_first (record_checks ops bytes) (claim_checks same count) (record_numbered ops bytes) record_passes)

      pub rows_differ : (take (n - 0) own ≡ row → ⊥) → other_row ≡ beside_number_in sheet row bytes
      rows_differ h = go same refl
        where
          go : (b : Bool) → same ≡ b → other_row ≡ beside_number_in sheet row bytes
          go true e = absurd (h (laid sheet bytes [] zeros room yields refl ∙ (same_exactly_if (row_of (tree_of (class ops) bytes)) row).0 e))
          go false e = ap (λ b. first (claim_checks b count)) (sym e) ∙ by_checks

      module _ (equal : take (n - 0) own ≡ row) where
        same_rows : same ≡ true
        same_rows = (same_exactly_if (row_of (tree_of (class ops) bytes)) row).1 (sym (laid sheet bytes [] zeros room yields refl) ∙ equal)

        -- a record that passes is judged
        judged : {j : Judgement} → j ≡ judgement sheet bytes → j ≡ record { number = accepted; count = count }
        unfolding judgement
        judged is = is ∙ rw record_passes

        pub never_refused : (r : Refusal) → record { number = number_of r; count = 0 } ≡ judgement sheet bytes → ⊥
        never_refused r is = not_accepted r (ap (λ (j : Judgement). j.number) (judged is))

        module _ {c : ℕ} (is : record { number = accepted; count = c } ≡ judgement sheet bytes) where
          by_count : first (claim_checks true c) ≡ beside_number_in sheet row bytes
          by_count = ap₂ (λ b x. first (claim_checks b x)) (sym same_rows) (ap (λ (j : Judgement). j.count) (judged is)) ∙ by_checks

          pub some_conflict : (c ≡ 0 → ⊥) → conflict ≡ beside_number_in sheet row bytes
          some_conflict h = rw (ne_eqb c 0 h) at by_count

          pub no_conflict : c ≡ 0 → accepted ≡ beside_number_in sheet row bytes
          no_conflict z = rw z at by_count

pub ruleset pair_ways = (pair_passed, row_refused, row_passed, rules)
