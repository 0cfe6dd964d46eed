-- Where every row has exactly one conflict-free tree, the book gives one answer to a call. Assumes nothing.
use Prim.Native.Nat.{ℕ}
use native.Mathlib.Decide.{ℕ_discrete}
use mathlib.Core.Path.{◌≡◌, ap, sym, subst, ◌∙◌}
use mathlib.Core.Option.{Option, none, some}
use mathlib.Core.List.{List, [], ◌++◌}
use lib.ListN.{length}
use lib.ListN as lists
use Rattle.expression.specs.Refusal.{accepted}
use Rattle.expression.specs.Token.{class}
use Rattle.expression.specs.Tree.{Tree, record_of}
use Rattle.expression.specs.Tree as tree
use Rattle.expression.specs.Operand.{operand_record}
use Rattle.expression.proofs.Classes.{brackets}
use Rattle.expression.proofs.RecordsAndTrees.{record_injective}
use Rattle.expression.proofs.RowsAndTrees.{row_exactly_if_yielded}
use Rattle.disambiguation.specs.Rules.{L, R}
use Rattle.disambiguation.specs.Conflicts.{conflict_count, ConflictFreeTree}
use Rattle.disambiguation.specs.ExactlyOne.{EveryRowHasExactlyOne}
use Rattle.brackets.specs.Enclosed.{enclosed}
use Rattle.brackets.specs.SameMeaning.{ShortestRow}
use Rattle.run.specs.Image.{image_of}
use Rattle.run.specs.Call.{Question, Call, lent_before, stage, stage_list, switch, put_row, put_record, put_claim, drop, ask, fetch_record, fetch_row, image, build, repair, judge, yield, operand, shortest_row, Reply}
use Rattle.run.specs.Book.{Book, slot_row}
use Rattle.run.specs.AnswerBytes.{Records, Image, AnswerIs}
use Rattle.run.specs.Answers.{Lent, Valued, Count, Part, Silent, Rest, Answers}
use Rattle.run.proofs.OneNumber.{OfOne, means_one}

-- replies with the same fields
same_reply : (r s : Reply) → r.number ≡ s.number → r.length ≡ s.length → r.output ≡ s.output → r.count ≡ s.count → r.part ≡ s.part → r ≡ s
same_reply r s n l o c p =
    ap (λ x. record { number = x; length = r.length; output = r.output; count = r.count; part = r.part }) n
    ∙ ap (λ x. record { number = s.number; length = x; output = r.output; count = r.count; part = r.part }) l
    ∙ ap (λ x. record { number = s.number; length = s.length; output = x; count = r.count; part = r.part }) o
    ∙ ap (λ x. record { number = s.number; length = s.length; output = s.output; count = x; part = r.part }) c
    ∙ ap (λ x. record { number = s.number; length = s.length; output = s.output; count = s.count; part = x }) p

one_valued : {A : Type 0} (number : ℕ) (Is : A → Type 0) (refused : A) → OfOne Is → OfOne (Valued number Is refused)
one_valued number Is refused one x y f g = go (ℕ_discrete number accepted)
  where
    go : Dec (number ≡ accepted) → x ≡ y
    go (yes z) = one x y (f.accepted z) (g.accepted z)
    go (no z) = f.refused z ∙ sym (g.refused z)

one_lent : (number : ℕ) (Is : List ℕ → Type 0) → OfOne Is → (before : List ℕ) (m n : ℕ) (x y : List ℕ)
    → Lent number Is before m x → Lent number Is before n y → (m ≡ n) × (x ≡ y)
one_lent number Is one before m n x y f g = go (ℕ_discrete number accepted)
  where
    go : Dec (number ≡ accepted) → (m ≡ n) × (x ≡ y)
    go (yes z) =
        let (a, ia, la, oa) = f.accepted z in
        let (b, ib, lb, ob) = g.accepted z in
        let e = one a b ia ib in
        (la ∙ ap length e ∙ sym lb, oa ∙ ap (λ w. w ++ lists.drop (length w) before) e ∙ sym ob)
    go (no z) = ((f.refused z).0 ∙ sym (g.refused z).0, (f.refused z).1 ∙ sym (g.refused z).1)

module _ (b : Book) (one : EveryRowHasExactlyOne b.operators b.rules) where
  one_tree : (row : List ℕ) → OfOne (ConflictFreeTree b.operators b.rules row)
  one_tree row t u ht hu =
      let (v, hv, only) = one row ((row_exactly_if_yielded b.operators row).1 (t, ht.over, ht.yields)) in
      only t ht ∙ sym (only u hu)

  one_recorded : (bytes : List ℕ) → OfOne (Records b bytes)
  one_recorded bytes t u ht hu = record_injective (class b.operators) (brackets b.operators) t u ht.0 hu.0 (ht.1 ∙ sym hu.1)

  -- what is read off the tree of a record
  one_read : {A : Type 0} (bytes : List ℕ) (f : Tree → A) → OfOne (λ x. (t : Tree) × Records b bytes t × (x ≡ f t))
  one_read bytes f x y (t, ht, e) (u, hu, d) = e ∙ ap f (one_recorded bytes t u ht hu) ∙ sym d

  -- and off the conflict-free tree of a row
  one_built : (row : List ℕ) (f : Tree → List ℕ) → OfOne (λ x. (t : Tree) × ConflictFreeTree b.operators b.rules row t × (x ≡ f t))
  one_built row f x y (t, ht, e) (u, hu, d) = e ∙ ap f (one_tree row t u ht hu) ∙ sym d

  -- and the shortest row
  one_shortest : (row : List ℕ) → OfOne (ShortestRow b.operators b.rules row)
  one_shortest row x y hx hy =
      hx.made ∙ ap (λ t. tree.yield (enclosed (L b.rules) (R b.rules) t)) (one_tree row hx.tree hy.tree hx.conflict_free hy.conflict_free) ∙ sym hy.made

  one_image : (k : ℕ) (slot : Option (List ℕ)) → OfOne (Image b k slot)
  one_image k none x y e d = e ∙ sym d
  one_image k (some row) x y e d = one_built (slot_row b k) (λ t. image_of (record_of t)) x y e d

  one_answer : (q : Question) → OfOne (AnswerIs b q)
  one_answer (fetch_record k out) x y e d = one_built (slot_row b k) record_of x y e d
  one_answer (fetch_row k out) x y e d = e ∙ sym d
  one_answer (image k out) x y e d = one_image k (b.slots k) x y e d
  one_answer (build row out) x y e d = one_built row record_of x y e d
  one_answer (repair bytes out) x y (t, u, r, h, e) (t', u', r', h', d) =
      let same = ap tree.yield (one_recorded bytes t t' r r') in
      e ∙ ap record_of (one_tree (tree.yield t) u u' h (subst (λ row. ConflictFreeTree b.operators b.rules row u') (sym same) h')) ∙ sym d
  one_answer (judge bytes) x y e d = e ∙ sym d
  one_answer (yield bytes out) x y e d = one_read bytes tree.yield x y e d
  one_answer (operand right bytes) x y e d = e ∙ sym d
  one_answer (shortest_row bytes out) x y (t, r, h) (t', r', h') =
      one_shortest (tree.yield t) x y h (subst (λ row. ShortestRow b.operators b.rules row y) (sym (ap tree.yield (one_recorded bytes t t' r r'))) h')

  one_count : (q : Question) (number : ℕ) → OfOne (Count b q number)
  one_count (judge bytes) number x y e d =
      one_valued number (λ c. (t : Tree) × Records b bytes t × (c ≡ conflict_count b.rules t)) 0 (one_read bytes (conflict_count b.rules)) x y e d
  one_count (fetch_record k out) number x y e d = e ∙ sym d
  one_count (fetch_row k out) number x y e d = e ∙ sym d
  one_count (image k out) number x y e d = e ∙ sym d
  one_count (build row out) number x y e d = e ∙ sym d
  one_count (repair bytes out) number x y e d = e ∙ sym d
  one_count (yield bytes out) number x y e d = e ∙ sym d
  one_count (operand right bytes) number x y e d = e ∙ sym d
  one_count (shortest_row bytes out) number x y e d = e ∙ sym d

  one_part : (q : Question) (number : ℕ) → OfOne (Part b q number)
  one_part (operand right bytes) number x y e d =
      one_valued number (λ p. (t : Tree) × Records b bytes t × (p ≡ operand_record right t)) [] (one_read bytes (operand_record right)) x y e d
  one_part (fetch_record k out) number x y e d = e ∙ sym d
  one_part (fetch_row k out) number x y e d = e ∙ sym d
  one_part (image k out) number x y e d = e ∙ sym d
  one_part (build row out) number x y e d = e ∙ sym d
  one_part (repair bytes out) number x y e d = e ∙ sym d
  one_part (judge bytes) number x y e d = e ∙ sym d
  one_part (yield bytes out) number x y e d = e ∙ sym d
  one_part (shortest_row bytes out) number x y e d = e ∙ sym d

  silent_same : (r s : Reply) → r.number ≡ s.number → Silent b r → Silent b s → r ≡ s
  silent_same r s n f g = same_reply r s n (f.length ∙ sym g.length) (f.output ∙ sym g.output) (f.count ∙ sym g.count) (f.part ∙ sym g.part)

  rest_same : (c : Call) (r s : Reply) → r.number ≡ s.number → Rest b c r → Rest b c s → r ≡ s
  rest_same (stage n bytes) r s e f g = silent_same r s e f g
  rest_same (stage_list n kinds rules) r s e f g = silent_same r s e f g
  rest_same switch r s e f g = silent_same r s e f g
  rest_same (put_row k row) r s e f g = silent_same r s e f g
  rest_same (put_record k bytes) r s e f g = silent_same r s e f g
  rest_same (put_claim k row bytes) r s e f g = silent_same r s e f g
  rest_same (drop k) r s e f g = silent_same r s e f g
  rest_same (ask q) r s e f g =
      let output = subst (λ n. Lent n (AnswerIs b q) (lent_before q) s.length s.output) (sym e) g.output in
      let count = subst (λ n. Count b q n s.count) (sym e) g.count in
      let part = subst (λ n. Part b q n s.part) (sym e) g.part in
      let (l, o) = one_lent r.number (AnswerIs b q) (one_answer q) (lent_before q) r.length s.length r.output s.output f.output output in
      same_reply r s e l o (one_count q r.number r.count s.count f.count count) (one_part q r.number r.part s.part f.part part)

  pub answers_same : (c : Call) → OfOne (Answers b c)
  answers_same c r s f g = rest_same c r s (means_one b c r.number s.number f.number g.number) f.rest g.rest
