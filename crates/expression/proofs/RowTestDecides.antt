-- The row test decides whether tokens are one expression. Assumes nothing.
use Prim.Native.Nat.{ℕ, zero, suc}
use mathlib.Core.Path.{◌≡◌, refl, ap, sym, ◌∙◌}
use mathlib.Core.Bool.{true, false≢true}
use mathlib.Core.Logic.{◌↔◌}
use mathlib.Core.List.{List, [], ◌∷◌, ◌++◌, append_assoc}
use Rattle.expression.specs.Token.{Class, Infix, Prefix, Opening, Closing, Reading, Meaningless, opening, closing, Operators, class}
use Rattle.expression.specs.Grammar.{Operand, single, bracketed, prefixed, Expression, operand_then, Tail, end, operator_then, Row}
use Rattle.expression.specs.RowTest.{Progress, due, done, wrong, where_due, where_done, closed, complete, advance, scan, is_row}
use Rattle.expression.proofs.Classes.{Brackets, brackets}

module _ (k : ℕ → Class) where
  pub scan_append : (xs ys : List ℕ) (p : Progress) → scan k p (xs ++ ys) ≡ scan k (scan k p xs) ys
  scan_append [] ys p = refl
  scan_append (x ∷ xs) ys p = scan_append xs ys (advance k p x)

  module _ (bytes : Brackets k) where
    mutual
      -- an operand is read where one is due; a tail is passed where one has been read
      scan_operand : (xs : List ℕ) → Operand k xs → (d : ℕ) → scan k (due d) xs ≡ done d
      scan_operand xs (single c h e) d = rw (e, h)
      scan_operand xs (bracketed ys x e) d =
          ap (scan k (due d)) e ∙ ap (λ c. scan k (where_due c d) (ys ++ (closing ∷ []))) bytes.opens
          ∙ scan_append ys (closing ∷ []) (due (suc d)) ∙ ap (λ p. scan k p (closing ∷ [])) (scan_expression ys x (suc d)) ∙ rw bytes.closes
      scan_operand xs (prefixed p ys h x e) d = ap (scan k (due d)) e ∙ ap (λ c. scan k (where_due c d) ys) h ∙ scan_operand ys x d

      scan_expression : (xs : List ℕ) → Expression k xs → (d : ℕ) → scan k (due d) xs ≡ done d
      scan_expression xs (operand_then ys zs x u e) d =
          ap (scan k (due d)) e ∙ scan_append ys zs (due d) ∙ ap (λ p. scan k p zs) (scan_operand ys x d) ∙ scan_tail zs u d

      scan_tail : (xs : List ℕ) → Tail k xs → (d : ℕ) → scan k (done d) xs ≡ done d
      scan_tail xs (end e) d = rw e
      scan_tail xs (operator_then o ys zs h x u e) d =
          ap (scan k (done d)) e ∙ ap (λ c. scan k (where_done c d) (ys ++ zs)) h
          ∙ scan_append ys zs (due d) ∙ ap (λ p. scan k p zs) (scan_operand ys x d) ∙ scan_tail zs u d

    -- What follows an operand inside d open brackets: a tail, and for each bracket its closing and a tail.
    After : ℕ → List ℕ → Type 0
    After zero xs = Tail k xs
    After (suc d) xs = (ys : List ℕ) × (zs : List ℕ) × Tail k ys × After d zs × (xs ≡ ys ++ closing ∷ zs)

    -- What is left of a row where the scan stands.
    Left : Progress → List ℕ → Type 0
    Left (due d) xs = (ys : List ℕ) × (zs : List ℕ) × Operand k ys × After d zs × (xs ≡ ys ++ zs)
    Left (done d) xs = After d xs
    Left wrong xs = ⊥

    after_operator : (o : ℕ) → k o ≡ Infix → (d : ℕ) (xs ys : List ℕ) → Operand k xs → After d ys → After d (o ∷ xs ++ ys)
    unfolding After
    after_operator o h zero xs ys x t = operator_then o xs ys h x t refl
    after_operator o h (suc d) xs ys x (t, u, ht, hu, e) =
        (o ∷ xs ++ t, u, operator_then o xs t h x ht refl, hu, ap (λ l. o ∷ xs ++ l) e ∙ ap (λ l. o ∷ l) (sym (append_assoc xs t (closing ∷ u))))

    left_due : (x : Class) (c : ℕ) → k c ≡ x → (d : ℕ) (xs : List ℕ) → Left (where_due x d) xs → Left (due d) (c ∷ xs)
    unfolding Left After
    left_due Infix c h d xs f = absurd f
    left_due Prefix c h d xs (ys, zs, y, a, e) = (c ∷ ys, zs, prefixed c ys h y refl, a, ap (λ l. c ∷ l) e)
    left_due Opening c h d xs (ys, zs, y, (t, u, ht, hu, e), f) = (
      opening ∷ (ys ++ t) ++ (closing ∷ []),
      u,
      bracketed (ys ++ t) (operand_then ys t y ht refl) refl,
      hu,
      ap (λ o. o ∷ xs) (bytes.opening_only c h) ∙ ap (λ l. opening ∷ l) (f ∙ ap (λ l. ys ++ l) e ∙ sym (simp append_assoc)),
    )
    left_due Closing c h d xs f = absurd f
    left_due Reading c h d xs f = (c ∷ [], xs, single c h refl, f, refl)
    left_due Meaningless c h d xs f = absurd f

    left_closed : (d : ℕ) (xs : List ℕ) → Left (closed d) xs → After d (closing ∷ xs)
    unfolding Left After
    left_closed zero xs f = absurd f
    left_closed (suc d) xs f = ([], xs, end refl, f, refl)

    left_done : (x : Class) (c : ℕ) → k c ≡ x → (d : ℕ) (xs : List ℕ) → Left (where_done x d) xs → Left (done d) (c ∷ xs)
    unfolding Left
    left_done Infix c h d xs (ys, zs, y, t, e) = rw e (after_operator c h d ys zs y t)
    left_done Prefix c h d xs f = absurd f
    left_done Opening c h d xs f = absurd f
    left_done Closing c h d xs f = rw (bytes.closing_only c h) (left_closed d xs f)
    left_done Reading c h d xs f = absurd f
    left_done Meaningless c h d xs f = absurd f

    left_of_lem : (xs : List ℕ) (p : Progress) → complete (scan k p xs) ≡ true → Left p xs
    unfolding Left After
    left_of_lem [] (due d) e = absurd (false≢true e)
    left_of_lem [] (done zero) e = end refl
    left_of_lem [] (done (suc d)) e = absurd (false≢true e)
    left_of_lem [] wrong e = absurd (false≢true e)
    left_of_lem (x ∷ xs) (due d) e = left_due (k x) x refl d xs (left_of_lem xs (where_due (k x) d) e)
    left_of_lem (x ∷ xs) (done d) e = left_done (k x) x refl d xs (left_of_lem xs (where_done (k x) d) e)
    left_of_lem (x ∷ xs) wrong e = absurd (left_of_lem xs wrong e)

    pub is_row_decides : (tokens : List ℕ) → (is_row k tokens ≡ true) ↔ Expression k tokens
    unfolding is_row Left After
    is_row_decides tokens = (
      λ e. let (ys, zs, y, t, f) = left_of_lem tokens (due 0) e in operand_then ys zs y t f,
      λ x. ap complete (scan_expression tokens x 0),
    )

-- Of a sheet's operators.
pub is_row_exactly_if_row : (ops : Operators) (tokens : List ℕ) → (is_row (class ops) tokens ≡ true) ↔ Row ops tokens
is_row_exactly_if_row ops = is_row_decides (class ops) (brackets ops)
