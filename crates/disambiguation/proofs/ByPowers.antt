-- Reading by powers makes of a conflict-free tree's row, where it has no prefix operator, that very tree. Assumes nothing.
use Prim.Native.Nat.{ℕ, zero, suc, ◌+◌, ◌-◌, ◌*◌, ◌<◌, ◌≤◌}
use native.Mathlib.Nat.{lt_of_not-le}
use native.Mathlib.Omega.{arith}
use native.Mathlib.Numerals.{one-add}
use mathlib.Core.Path.{◌≡◌, refl, ap, sym, ◌∙◌}
use mathlib.Core.Bool.{Bool, true, false, true≢false}
use mathlib.Core.Logic.{◌↔◌}
use mathlib.Core.Option.{some}
use mathlib.Core.List.{List, [], ◌∷◌, ◌++◌, append_assoc, append-nil}
use borrow.Author.Tests.{lt-ltb, le-ltb}
use lib.ListN.{length, length-append}
use Rattle.expression.specs.Lists.{All}
use Rattle.expression.specs.Refusal.{accepted}
use Rattle.expression.specs.Token.{Class, Infix, Prefix, Reading, opening, closing, Operators, class}
use Rattle.expression.specs.Tree.{Tree, reading, bracket, binary, prefix, yield, Over}
use Rattle.expression.proofs.Classes.{Brackets, brackets}
use Rattle.disambiguation.specs.Edges.{right_edge, left_edge}
use Rattle.disambiguation.specs.Rules.{Rule, L, R}
use Rattle.disambiguation.specs.Conflicts.{ConflictFreeTree}
use Rattle.disambiguation.specs.Verdict.{verdict}
use Rattle.disambiguation.specs.ByPowers.{and_then, shut, operand_from, whole_row, is_over, expression, operand, onward, read_by_powers}
use Rattle.disambiguation.proofs.Free.{all, all_map}
use Rattle.disambiguation.proofs.Plain.{Plain, plain_of_row}
use Rattle.disambiguation.proofs.Follows.{Follows}
use Rattle.disambiguation.proofs.Unique.{conflict_free_follows}
use Rattle.disambiguation.proofs.TestsDecide.{total_total, level_transitive, level_cotransitive}
use Rattle.disambiguation.proofs.Accepted.{accepted_passes}

-- how many calls lie within each other from the beginning of a tree's row to its last token, and how many more are enough to read it
abbrev spine : Tree → ℕ
spine (reading a) = 1
spine (bracket t) = 1
spine (binary o l r) = 1 + spine l
spine (prefix p t) = 1

abbrev need : Tree → ℕ
need (reading a) = 1
need (bracket t) = 1 + (spine t + need t)
need (binary o l r) = need l + (spine r + need r)
need (prefix p t) = 1

some_need : (t : Tree) → 1 ≤ need t
some_need (reading a) = omega arith
some_need (bracket t) = omega arith
some_need (binary o l r) = omega (arith, some_need l)
some_need (prefix p t) = omega arith

enough : (t : Tree) → spine t + need t ≤ 2 * length (yield t)
enough (reading a) = omega arith
enough (bracket t) = omega (arith, enough t, length-append (yield t) (closing ∷ []))
enough (binary o l r) = omega (arith, enough l, enough r, length-append (yield l) (o ∷ yield r))
enough (prefix p t) = omega arith

module _ (k : ℕ → Class) (brackets : Brackets k) (closes : ℕ → ℕ → Bool) (left right : ℕ → ℕ)
    (decides : (a b : ℕ) → k a ≡ Infix → k b ≡ Infix → (closes a b ≡ true) ↔ (left b ≤ right a)) (positive : (a : ℕ) → k a ≡ Infix → 0 < left a) where
  -- an expression over the floor ends before these tokens
  abbrev Ends : ℕ → List ℕ → Type 0
  Ends floor [] = Unit {0}
  Ends floor (b ∷ rest) = is_over k left right floor b ≡ false

  ends : (n floor : ℕ) (t : Tree) (rest : List ℕ) → 1 ≤ n → Ends floor rest → onward k left right n floor t rest ≡ some (t, rest)
  unfolding onward
  ends zero floor t rest l h = absurd (omega arith)
  ends (suc n) floor t [] l h = refl
  ends (suc n) floor t (b ∷ rest) l h = rw h

  -- what closes before b ends before it; a closing bracket ends everything
  ends_before : (a b : ℕ) (rest : List ℕ) → k a ≡ Infix → k b ≡ Infix → closes a b ≡ true → Ends (right a) (b ∷ rest)
  ends_before a b rest ha hb e = rw (hb, le-ltb (right a) (left b) ((decides a b ha hb).0 e))

  ends_at_closing : (floor : ℕ) (rest : List ℕ) → Ends floor (closing ∷ rest)
  ends_at_closing floor rest = rw brackets.closes

  -- what does not close before b is passed by it
  passes : (a b : ℕ) → k a ≡ Infix → k b ≡ Infix → closes a b ≡ false → right a < left b
  passes a b ha hb e = lt_of_not-le (λ (l : left b ≤ right a). true≢false (sym ((decides a b ha hb).1 l) ∙ e))

  -- what holds of every infix operator holds along both edges
  left_edge_lem : {P : ℕ → Type 0} → ((o : ℕ) → k o ≡ Infix → P o) → (t : Tree) → Over k t → All P (left_edge t)
  left_edge_lem f (reading a) h = tt
  left_edge_lem f (bracket t) h = tt
  left_edge_lem f (binary o l r) h = (f o h.0, left_edge_lem f l h.1)
  left_edge_lem f (prefix p t) h = tt

  right_edge_lem : {P : ℕ → Type 0} → ((o : ℕ) → k o ≡ Infix → P o) → (t : Tree) → Over k t → Plain t → All P (right_edge t)
  right_edge_lem f (reading a) h p = tt
  right_edge_lem f (bracket t) h p = tt
  right_edge_lem f (binary o l r) h p = (f o h.0, right_edge_lem f r h.2 p.1)
  right_edge_lem f (prefix o t) h p = absurd p

  -- an operand by itself is an expression so far
  from_operand : (t : Tree) (floor n : ℕ) (tokens rest : List ℕ) → operand k left right n tokens ≡ some (t, rest) → (m : ℕ) → m ≡ 1 + n
      → expression k left right m floor tokens ≡ onward k left right n floor t rest
  unfolding expression
  from_operand t floor n tokens rest e m q =
      ap (λ (x : ℕ). expression k left right x floor tokens) (q ∙ one-add n) ∙ ap (λ x. and_then x (onward k left right n floor)) e

  a_reading : (a n : ℕ) (rest : List ℕ) → k a ≡ Reading → 1 ≤ n → operand k left right n (a ∷ rest) ≡ some (reading a, rest)
  unfolding operand
  a_reading a zero rest h l = absurd (omega arith)
  a_reading a (suc n) rest h l = rw h

  a_bracket : (t : Tree) (n : ℕ) (inside rest : List ℕ) → expression k left right n 0 inside ≡ some (t, closing ∷ rest) → (m : ℕ) → m ≡ 1 + n
      → operand k left right m (opening ∷ inside) ≡ some (bracket t, rest)
  unfolding operand
  a_bracket t n inside rest e m q =
      ap (λ (x : ℕ). operand k left right x (opening ∷ inside)) (q ∙ one-add n) ∙ ap (λ x. operand_from x opening inside (expression k left right n 0 inside)) brackets.opens
      ∙ ap (λ x. and_then x shut) e

  -- an operator over the floor takes the tree so far and reads its right operand
  taken_in : (floor n o : ℕ) (l r : Tree) (tokens rest : List ℕ) → k o ≡ Infix → floor < left o → expression k left right n (right o) tokens ≡ some (r, rest)
      → onward k left right (suc n) floor l (o ∷ tokens) ≡ onward k left right n floor (binary o l r) rest
  unfolding onward
  taken_in floor n o l r tokens rest h f e = rw (h, lt-ltb floor (left o) f) (ap (λ x. and_then x (λ u rest. onward k left right n floor (binary o l u) rest)) e)

  -- The row of a tree is read as the tree, if the floor is under all of its left edge and all of its right edge ends before what follows.
  reads : (t : Tree) → Over k t → Plain t → Follows closes t → (floor : ℕ) → All (λ o. floor < left o) (left_edge t) → (rest : List ℕ) → All (λ p. Ends (right p) rest) (right_edge t)
      → (m n : ℕ) → m ≡ spine t + n → need t ≤ n → expression k left right m floor (yield t ++ rest) ≡ onward k left right n floor t rest
  reads (reading a) h p f floor below rest after m n q l = from_operand (reading a) floor n (a ∷ rest) rest (a_reading a n rest h l) m q
  reads (bracket t) h p f floor below rest after m n q l =
      let inside =
      reads t h p f 0 (left_edge_lem positive t h) (closing ∷ rest)
      (all (λ o. ends_at_closing (right o) rest) (right_edge t)) (n - 1) (n - 1 - spine t) (omega arith) (omega arith)
      ∙ ends (n - 1 - spine t) 0 t (closing ∷ rest) (omega (arith, some_need t)) (ends_at_closing 0 rest) in
      from_operand (bracket t) floor n (yield (bracket t) ++ rest) rest
      (ap (λ tokens. operand k left right n (opening ∷ tokens)) (append_assoc (yield t) (closing ∷ []) rest) ∙ a_bracket t (n - 1) (yield t ++ closing ∷ rest) rest inside n (omega arith)) m q
  reads (binary o l r) h p f floor below rest after m n q e =
      let Operand_read =
      reads r h.2 p.1 f.3 (right o) (all_map (λ b i c. passes o b h.0 i c) (left_edge r) (left_edge_lem (λ _ i. i) r h.2) f.1) rest after.1 n (n - spine r) (omega arith) (omega arith)
      ∙ ends (n - spine r) (right o) r rest (omega (arith, some_need r)) after.0 in
      ap (expression k left right m floor) (append_assoc (yield l) (o ∷ yield r) rest)
      ∙ reads l h.1 p.0 f.2 floor below.1 (o ∷ yield r ++ rest)
      (all_map (λ a i c. ends_before a o (yield r ++ rest) i h.0 c) (right_edge l) (right_edge_lem (λ _ i. i) l h.1 p.0) f.0) m (suc n) (omega arith) (omega arith)
      ∙ taken_in floor n o l r (yield r ++ rest) rest h.0 below.0 Operand_read
  reads (prefix o t) h p f floor below rest after m n q l = absurd p

  reads_row : (t : Tree) → Over k t → Plain t → Follows closes t → read_by_powers k left right (yield t) ≡ some t
  unfolding read_by_powers
  reads_row t h p f =
      ap (λ tokens. whole_row (expression k left right (2 * length (yield t)) 0 tokens)) (sym (append-nil (yield t)))
      ∙ ap whole_row
      (reads t h p f 0 (left_edge_lem positive t h) []
      (all (λ _. tt) (right_edge t)) (2 * length (yield t)) (2 * length (yield t) - spine t) (omega (arith, enough t)) (omega (arith, enough t))
      ∙ ends (2 * length (yield t) - spine t) 0 t [] (omega (arith, enough t, some_need t)) tt)

-- Under an accepted sheet, numbers that decide as the powers do read each row without prefix operators as its conflict-free tree.
pub reads_conflict_free : (ops : Operators) (rules : List Rule) → verdict ops rules ≡ accepted → (left right : ℕ → ℕ)
    → ((a b : ℕ) → class ops a ≡ Infix → class ops b ≡ Infix → (R rules a b ≡ true) ↔ (left b ≤ right a)) → ((a : ℕ) → class ops a ≡ Infix → 0 < left a)
    → (row : List ℕ) → All (λ c. class ops c ≡ Prefix → ⊥) row → (t : Tree) → ConflictFreeTree ops rules row t → read_by_powers (class ops) left right row ≡ some t
reads_conflict_free ops rules e left right decides positive row plain t c =
    let s = accepted_passes ops rules e in
    let follows =
    conflict_free_follows (L rules) (R rules) (class ops) (total_total ops (L rules) (R rules) s.is_total) (level_transitive ops (R rules) s.is_level)
    (level_cotransitive ops (R rules) s.is_level) t c.over c.free in
    ap (read_by_powers (class ops) left right) (sym c.yields)
    ∙ reads_row (class ops) (brackets ops) (R rules) left right decides positive t c.over (plain_of_row (class ops) t c.over (rw (← c.yields) at plain)) follows
