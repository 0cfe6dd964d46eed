-- The lengths of rows and records. Assumes nothing.
use Prim.Native.Nat.{ℕ, ◌+◌, ◌≤◌}
use native.Mathlib.Omega.{arith}
use mathlib.Core.Path.{◌≡◌, ap, sym, ◌∙◌}
use mathlib.Core.Bool.{Bool, true, false, not, true≢false}
use mathlib.Core.Option.{some}
use mathlib.Core.List.{List, [], ◌∷◌, ◌++◌}
use lib.Dec.{eqb}
use lib.ListN.{length, length-append}
use borrow.Author.Tests.{ne_eqb}
use Rattle.expression.specs.Lists.{one_if, how_many}
use Rattle.expression.specs.Token.{Class, Infix, Prefix, Opening, Closing, Reading, Meaningless, opening, closing}
use Rattle.expression.specs.Tree.{Tree, reading, bracket, binary, prefix, yield, record_of, Over}
use Rattle.expression.specs.Decode.{tree_of}
use Rattle.expression.specs.Checks.{record_bytes, row_tokens}
use Rattle.expression.proofs.Classes.{Brackets}
use Rattle.expression.proofs.RecordsAndTrees.{record_tree_of}
use Rattle.expression.proofs.Tests.{at_most_one}

pub count_append : {A : Type 0} (p : A → Bool) (xs ys : List A) → how_many p (xs ++ ys) ≡ how_many p xs + how_many p ys
count_append p [] ys = omega arith
count_append p (x ∷ xs) ys = omega (arith, count_append p xs ys)

abbrev pub is_opening : ℕ → Bool
is_opening c = eqb c opening

abbrev not_closing : ℕ → Bool
not_closing c = not (eqb c closing)

-- A row's record has no more bytes than the row has tokens.
pub few_bytes : (row : List ℕ) → record_bytes row ≤ length row
few_bytes [] = omega arith
few_bytes (c ∷ cs) = omega (arith, at_most_one (not_closing c), few_bytes cs)

abbrev is_bracket : Class → Bool
is_bracket Infix = false
is_bracket Prefix = false
is_bracket Opening = true
is_bracket Closing = true
is_bracket Reading = false
is_bracket Meaningless = false

module _ (k : ℕ → Class) (brackets : Brackets k) where
  not_opening : (c : ℕ) → is_bracket (k c) ≡ false → is_opening c ≡ false
  not_opening c h = ne_eqb c opening (λ e. true≢false (ap is_bracket (sym brackets.opens ∙ ap k (sym e)) ∙ h))

  not_closing_lem : (c : ℕ) → is_bracket (k c) ≡ false → not_closing c ≡ true
  not_closing_lem c h = rw (ne_eqb c closing (λ e. true≢false (ap is_bracket (sym brackets.closes ∙ ap k (sym e)) ∙ h)))

  -- A tree's row has as many tokens as its record has bytes, and one more for each bracket byte.
  pub row_length_lem : (t : Tree) → Over k t → length (yield t) ≡ length (record_of t) + how_many is_opening (record_of t)
  row_length_lem (reading a) h = rw (not_opening a (ap is_bracket h))
  row_length_lem (bracket t) h = omega (arith, length-append (yield t) (closing ∷ []), row_length_lem t h)
  row_length_lem (binary o l r) h =
      omega (
        arith,
        ap one_if (not_opening o (ap is_bracket h.0)),
        length-append (yield l) (o ∷ yield r),
        length-append (record_of l) (record_of r),
        count_append is_opening (record_of l) (record_of r),
        row_length_lem l h.1,
        row_length_lem r h.2,
      )
  row_length_lem (prefix p t) h = omega (arith, ap one_if (not_opening p (ap is_bracket h.0)), row_length_lem t h.1)

  -- A tree's record has as many bytes as its row has tokens that are no closing bracket.
  pub record_length : (t : Tree) → Over k t → length (record_of t) ≡ record_bytes (yield t)
  record_length (reading a) h = rw (not_closing_lem a (ap is_bracket h))
  record_length (bracket t) h = omega (arith, count_append not_closing (yield t) (closing ∷ []), record_length t h)
  record_length (binary o l r) h =
      omega (
        arith,
        ap one_if (not_closing_lem o (ap is_bracket h.0)),
        count_append not_closing (yield l) (o ∷ yield r),
        length-append (record_of l) (record_of r),
        record_length l h.1,
        record_length r h.2,
      )
  record_length (prefix p t) h = omega (arith, ap one_if (not_closing_lem p (ap is_bracket h.0)), record_length t h.1)

  -- Trees of one row have records of one length.
  pub same_row_same_length : (t u : Tree) → Over k t → Over k u → yield t ≡ yield u → length (record_of t) ≡ length (record_of u)
  same_row_same_length t u ht hu e = record_length t ht ∙ ap record_bytes e ∙ sym (record_length u hu)

  -- The length of a record's row, read off its bytes.
  pub row_length_of_record : (bytes : List ℕ) (t : Tree) → tree_of k bytes ≡ some t → row_tokens (tree_of k bytes) ≡ length bytes + how_many is_opening bytes
  row_length_of_record bytes t e =
      let (r, h) = record_tree_of k brackets bytes t e in
      ap row_tokens e ∙ row_length_lem t h ∙ ap (λ l. length l + how_many is_opening l) r
