-- Tokens are one expression by the grammar exactly if some tree over the operators yields them. Assumes nothing.
use Prim.Native.Nat.{ℕ}
use mathlib.Core.Path.{◌≡◌, refl, ap, sym, ◌∙◌}
use mathlib.Core.Logic.{◌↔◌}
use mathlib.Core.List.{List, [], ◌∷◌, ◌++◌, append_assoc, append-nil}
use Rattle.expression.specs.Token.{Class, Infix, Prefix, opening, closing, Operators, class}
use Rattle.expression.specs.Tree.{Tree, reading, bracket, binary, prefix, yield, Over}
use Rattle.expression.specs.Grammar.{Operand, single, bracketed, prefixed, Expression, operand_then, Tail, end, operator_then, Row}

module _ (k : ℕ → Class) where
  tail_append : (xs ys : List ℕ) → Tail k xs → Tail k ys → Tail k (xs ++ ys)
  tail_append xs ys (end e) u = rw e u
  tail_append xs ys (operator_then o zs rest h x t e) u =
      operator_then o zs (rest ++ ys) h x (tail_append rest ys t u) (ap (λ l. l ++ ys) e ∙ ap (λ l. o ∷ l) (append_assoc zs rest ys))

  -- two expressions with an operator between them are one
  expression_join : (o : ℕ) → k o ≡ Infix → (xs ys : List ℕ) → Expression k xs → Expression k ys → Expression k (xs ++ o ∷ ys)
  expression_join o h xs ys (operand_then zs rest x t e) (operand_then zs' rest' y u e') =
      operand_then zs (rest ++ o ∷ ys) x (tail_append rest (o ∷ ys) t (operator_then o zs' rest' h y u (ap (λ l. o ∷ l) e')))
      (ap (λ l. l ++ o ∷ ys) e ∙ append_assoc zs rest (o ∷ ys))

  -- a prefix operator before an expression takes its first operand
  expression_prefixed : (p : ℕ) → k p ≡ Prefix → (xs : List ℕ) → Expression k xs → Expression k (p ∷ xs)
  expression_prefixed p h xs (operand_then zs rest x t e) = operand_then (p ∷ zs) rest (prefixed p zs h x refl) t (ap (λ l. p ∷ l) e)

  expression_yield : (t : Tree) → Over k t → Expression k (yield t)
  expression_yield (reading a) h = operand_then (a ∷ []) [] (single a h refl) (end refl) refl
  expression_yield (bracket t) h =
      operand_then (yield (bracket t)) [] (bracketed (yield t) (expression_yield t h) refl) (end refl) (sym (append-nil (yield (bracket t))))
  expression_yield (binary o l r) h = expression_join o h.0 (yield l) (yield r) (expression_yield l h.1) (expression_yield r h.2)
  expression_yield (prefix p t) h = expression_prefixed p h.0 (yield t) (expression_yield t h.1)

  -- some tree over the operators yields the tokens
  abbrev pub Yielded : List ℕ → Type 0
  Yielded tokens = (t : Tree) × Over k t × (yield t ≡ tokens)

  mutual
    tree_of_operand : (xs : List ℕ) → Operand k xs → Yielded xs
    tree_of_operand xs (single c h e) = (reading c, h, sym e)
    tree_of_operand xs (bracketed ys x e) =
        let (t, h, f) = tree_of_expression ys x in
        (bracket t, h, ap (λ l. opening ∷ l ++ (closing ∷ [])) f ∙ sym e)
    tree_of_operand xs (prefixed p ys hp x e) =
        let (t, h, f) = tree_of_operand ys x in
        (prefix p t, (hp, h), ap (λ l. p ∷ l) f ∙ sym e)

    tree_of_expression : (xs : List ℕ) → Expression k xs → Yielded xs
    tree_of_expression xs (operand_then ys zs x u e) =
        let (t, h, f) = tree_of_operand ys x in
        let (t', h', f') = tree_of_tail zs u t h in
        (t', h', f' ∙ ap (λ l. l ++ zs) f ∙ sym e)

    -- t and what follows it
    tree_of_tail : (zs : List ℕ) → Tail k zs → (t : Tree) → Over k t → Yielded (yield t ++ zs)
    tree_of_tail zs (end e) t h = (t, h, rw (e, append-nil))
    tree_of_tail zs (operator_then o xs rest ho x u e) t h =
        let (r, hr, f) = tree_of_operand xs x in
        let (t', h', f') = tree_of_tail rest u (binary o t r) (ho, h, hr) in
        (t', h', f' ∙ append_assoc (yield t) (o ∷ yield r) rest ∙ ap (λ l. yield t ++ (o ∷ l ++ rest)) f ∙ ap (λ l. yield t ++ l) (sym e))

  pub expression_exactly_if_yielded : (tokens : List ℕ) → Expression k tokens ↔ Yielded tokens
  expression_exactly_if_yielded tokens = (tree_of_expression tokens, λ y. rw (← y.2) (expression_yield y.0 y.1))

-- Of the tokens that are a row over a sheet's operators.
pub row_exactly_if_yielded : (ops : Operators) (tokens : List ℕ) → Row ops tokens ↔ Yielded (class ops) tokens
row_exactly_if_yielded ops = expression_exactly_if_yielded (class ops)
