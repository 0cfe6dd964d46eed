-- Where a panel value stands for a book, each call answers what the book does. Assumes nothing.
use Prim.Native.Nat.{ℕ, ◌<◌}
use native.Mathlib.Omega.{arith}
use mathlib.Core.Path.{◌≡◌, refl, ap, sym, subst, ◌∙◌}
use mathlib.Core.Bool.{Bool, true, false, not, cond}
use mathlib.Core.Option.{Option, none, some}
use mathlib.Core.List.{List, [], ◌∷◌, ◌++◌}
use lib.Dec.{eqb, ltb}
use lib.ListN.{length}
use borrow.Author.Tests.{ltb-true, ne_eqb}
use Rattle.expression.specs.Refusal.{Check, first, accepted}
use Rattle.expression.specs.Lent.{output_after, length_after}
use Rattle.expression.specs.Token.{class}
use Rattle.expression.specs.Tree.{Tree}
use Rattle.expression.specs.Tree as tree
use Rattle.expression.specs.Decode.{tree_of}
use Rattle.expression.specs.Operand.{row_of, operand_in, operand_record, operand_part}
use Rattle.expression.specs.Checks.{short_check, record_bytes, row_tokens, row_checks, record_checks, row_number, record_number, build_number, repair_number, yield_number}
use Rattle.expression.proofs.Numbers.{Numbered, read_as, record_accepted, row_numbered, record_numbered}
use Rattle.disambiguation.specs.Conflicts.{conflict_count}
use Rattle.sheet.proofs.Laws.{count_by_relation}
use Rattle.record.specs.Answers.{judgement, count_in}
use Rattle.brackets.specs.SameMeaning.{ShortestRow}
use Rattle.brackets.specs.Shortest.{shortest_by, shortest_number}
use Rattle.brackets.proofs.ShortestRows.{shortest_of_tree}
use Rattle.brackets.proofs.InForceShortest.{shortest_by_rules}
use Rattle.run.specs.Image.{image_bytes, image_of}
use Rattle.run.specs.Places.{place_count, held}
use Rattle.run.specs.Call.{Question, Call, lent_before, stage, stage_list, switch, put_row, put_record, put_claim, drop, ask, fetch_record, fetch_row, image, build, repair, judge, yield, operand, shortest_row}
use Rattle.run.specs.Panel.{Panel, place_check}
use Rattle.run.specs.Steps.{ops, asked_outcome, outcome, reply}
use Rattle.run.specs.Book.{Book, row_in, is_blank, blank_check, slot_row, SlotTree, asked_number}
use Rattle.run.specs.AnswerBytes.{Records, Image, AnswerIs}
use Rattle.run.specs.Answers.{Lent, Valued, Count, Part, Answered, Silent, Rest}
use Rattle.run.proofs.Slots.{HeldTree, Holds, row_back, put_row_holds, put_record_holds}
use Rattle.run.proofs.Stands.{Stands, filled, same_operators, same_asked}

-- an answer that is what it should be where the call is accepted
lent_answer : (number : ℕ) (Is : List ℕ → Type 0) (answer before : List ℕ) → (number ≡ accepted → Is answer)
    → Lent number Is before (length_after number answer) (output_after number answer before)
lent_answer number Is answer before f =
    record {
      accepted = λ z. (answer, f z, ap (λ x. length_after x answer) z, ap (λ x. output_after x answer before) z);
      refused = λ h. let z = ne_eqb number 0 h in (rw z, rw z);
    }

valued : {A : Type 0} (number : ℕ) (Is : A → Type 0) (instead value : A) → (number ≡ accepted → Is value) → Valued number Is instead (cond (eqb number accepted) value instead)
valued number Is instead value f = record { accepted = λ z. rw z (f z); refused = λ h. rw (ne_eqb number 0 h) }

-- nothing is nothing, accepted or not
no_length : (x : Bool) → ◌≡◌ {A = ℕ} (cond x 0 0) 0
no_length true = refl
no_length false = refl

no_output : (x : Bool) → ◌≡◌ {A = List ℕ} (cond x [] []) []
no_output true = refl
no_output false = refl

-- what an accepted list has passed
pub front_accepted : (cs ds : List Check) → Numbered cs → first (cs ++ ds) ≡ accepted → first cs ≡ accepted
front_accepted [] ds n e = refl
front_accepted (c ∷ cs) ds n e = go c.0 (front_accepted cs ds n.1) e
  where
    go : (b : Bool) → (first (cs ++ ds) ≡ accepted → first cs ≡ accepted) → cond b c.1 (first (cs ++ ds)) ≡ accepted → cond b c.1 (first cs) ≡ accepted
    go true f e = absurd (n.0 e)
    go false f e = f e

pub place_passed : (k : ℕ) (cs : List Check) → first (place_check k ∷ cs) ≡ accepted → (k < place_count) × (first cs ≡ accepted)
place_passed k cs e = go (ltb k place_count) refl e
  where
    go : (b : Bool) → ltb k place_count ≡ b → cond (not b) 8 (first cs) ≡ accepted → (k < place_count) × (first cs ≡ accepted)
    go true h f = (ltb-true k place_count h, f)
    go false h f = absurd (omega arith)

pub blank_passed : (slot : Option (List ℕ)) (cs : List Check) → first (blank_check slot ∷ cs) ≡ accepted → is_blank slot ≡ false
blank_passed slot cs e = go (is_blank slot) e
  where
    go : (b : Bool) → cond b 9 (first cs) ≡ accepted → b ≡ false
    go true f = absurd (omega arith)
    go false f = refl

module _ (p : Panel) (b : Book) (s : Stands p b) where
  -- what a fetch that is accepted finds
  found : (k : ℕ) (cs : List Check) → first (place_check k ∷ blank_check (b.slots k) ∷ cs) ≡ accepted
      → (row : List ℕ) × (b.slots k ≡ some row) × Holds b.operators b.rules (some row) (held p.places k)
  found k cs e =
      let (h, f) = place_passed k (blank_check (b.slots k) ∷ cs) e in
      filled p b s k h (blank_passed (b.slots k) cs f)

  slot_tree : (k : ℕ) (row : List ℕ) → b.slots k ≡ some row → (t : Tree) → HeldTree b.operators b.rules row (held p.places k) t → SlotTree b k t
  slot_tree k row q t g = rw (ap row_in q) g.tree

  -- the tree that an accepted record is of
  recorded : (bytes : List ℕ) → record_number b.operators bytes ≡ accepted → (t : Tree) × Records b bytes t × (tree_of (class b.operators) bytes ≡ some t)
  recorded bytes e =
      let (t, r) = (record_accepted b.operators bytes).0 e in
      (t, (r.over, r.recorded), read_as b.operators bytes t r.over r.recorded)

  -- The bytes of each accepted answer are those that the book gives.
  pub tells : (q : Question) → asked_number b q ≡ accepted → AnswerIs b q (asked_outcome p q).answer
  unfolding build_number row_number repair_number yield_number record_number shortest_number
  tells (fetch_record k out) z = let (row, q, (t, g)) = found k (short_check (record_bytes (slot_row b k)) (length out) ∷ []) z in (t, slot_tree k row q t g, g.recorded)
  tells (fetch_row k out) z =
      let (row, q, (t, g)) = found k (short_check (length (slot_row b k)) (length out) ∷ []) z in
      ap (λ o. row_of (tree_of (class o) (held p.places k))) (same_operators p b s) ∙ row_back g ∙ sym (ap row_in q)
  tells (image k out) z = let (h, f) = place_passed k (short_check image_bytes (length out) ∷ []) z in go (b.slots k) refl (s.holds k h)
    where
      go : (slot : Option (List ℕ)) → b.slots k ≡ slot → Holds b.operators b.rules slot (held p.places k) → Image b k slot (image_of (held p.places k))
      go none q e = ap image_of e
      go (some row) q (t, g) = (t, slot_tree k row q t g, ap image_of g.recorded)
  tells (build row out) z =
      let e = front_accepted (row_checks b.operators row) (short_check (record_bytes row) (length out) ∷ []) (row_numbered b.operators row) z in
      let (t, g) = put_row_holds p.sheet b.operators b.rules s.in_force_lem row e in
      (t, g.tree, g.recorded)
  tells (repair bytes out) z =
      let e = front_accepted (record_checks b.operators bytes) (short_check (length bytes) (length out) ∷ []) (record_numbered b.operators bytes) z in
      let (t, r, q) = recorded bytes e in
      let (u, g) = put_record_holds p.sheet b.operators b.rules s.in_force_lem bytes e in
      (t, u, r, rw (ap row_of q) at g.tree, g.recorded)
  tells (yield bytes out) z =
      let e = front_accepted (record_checks b.operators bytes) (short_check (row_tokens (tree_of (class b.operators) bytes)) (length out) ∷ []) (record_numbered b.operators bytes) z in
      let (t, r, q) = recorded bytes e in
      (t, r, ap (λ o. row_of (tree_of (class o) bytes)) (same_operators p b s) ∙ ap row_of q)
  tells (judge bytes) z = refl
  tells (operand right bytes) z = refl
  tells (shortest_row bytes out) z =
      let e = front_accepted (record_checks b.operators bytes) (short_check (length (shortest_by b.operators b.rules (tree_of (class b.operators) bytes))) (length out) ∷ []) (record_numbered b.operators bytes) z in
      let (t, r, q) = recorded bytes e in
      let same = shortest_by_rules p.sheet b.operators b.rules s.in_force_lem bytes ∙ ap (shortest_by b.operators b.rules) q in
      (t, r, subst (ShortestRow b.operators b.rules (tree.yield t)) (sym same) (shortest_of_tree b.operators b.rules s.in_force_lem.accepts t r.0))

  judge_count : (bytes : List ℕ) → Count b (judge bytes) (asked_outcome p (judge bytes)).number (asked_outcome p (judge bytes)).count
  unfolding judgement
  judge_count bytes =
      valued (record_number (ops p) bytes) (λ c. (t : Tree) × Records b bytes t × (c ≡ conflict_count b.rules t)) 0
      (count_in p.sheet (tree_of (class (ops p)) bytes))
      (λ z.
      let (t, r, q) = recorded bytes (sym (same_asked p b s (judge bytes)) ∙ z) in (
        t,
        r,
        ap (λ o. count_in p.sheet (tree_of (class o) bytes)) (same_operators p b s) ∙ ap (count_in p.sheet) q
            ∙ sym (count_by_relation p.sheet b.operators b.rules s.in_force_lem t r.0),
      ))

  operand_part_lem : (right : Bool) (bytes : List ℕ) → Part b (operand right bytes) (asked_outcome p (operand right bytes)).number (asked_outcome p (operand right bytes)).part
  unfolding operand_part
  operand_part_lem right bytes =
      valued (record_number (ops p) bytes) (λ x. (t : Tree) × Records b bytes t × (x ≡ operand_record right t)) []
      (operand_in right (tree_of (class (ops p)) bytes))
      (λ z.
      let (t, r, q) = recorded bytes (sym (same_asked p b s (operand right bytes)) ∙ z) in
      (t, r, ap (λ o. operand_in right (tree_of (class o) bytes)) (same_operators p b s) ∙ ap (operand_in right) q))

  count : (q : Question) → Count b q (asked_outcome p q).number (asked_outcome p q).count
  count (judge bytes) = judge_count bytes
  count (fetch_record k out) = refl
  count (fetch_row k out) = refl
  count (image k out) = refl
  count (build row out) = refl
  count (repair bytes out) = refl
  count (yield bytes out) = refl
  count (operand right bytes) = refl
  count (shortest_row bytes out) = refl

  part : (q : Question) → Part b q (asked_outcome p q).number (asked_outcome p q).part
  part (operand right bytes) = operand_part_lem right bytes
  part (fetch_record k out) = refl
  part (fetch_row k out) = refl
  part (image k out) = refl
  part (build row out) = refl
  part (repair bytes out) = refl
  part (judge bytes) = refl
  part (yield bytes out) = refl
  part (shortest_row bytes out) = refl

  pub answered : (q : Question) → Answered b q (reply p (ask q))
  answered q =
      record {
        output = lent_answer (asked_outcome p q).number (AnswerIs b q) (asked_outcome p q).answer (lent_before q) (λ z. tells q (sym (same_asked p b s q) ∙ z));
        count = count q;
        part = part q;
      }

  -- a number alone
  silent : (number : ℕ) → Silent b (record { number = number; length = length_after number []; output = output_after number [] []; count = 0; part = [] })
  silent number = record { length = no_length (eqb number accepted); output = no_output (eqb number accepted); count = refl; part = refl }

  -- The reply but for its number.
  pub rest : (c : Call) → Rest b c (reply p c)
  rest (stage n bytes) = silent (outcome p (stage n bytes)).number
  rest (stage_list n kinds rules) = silent (outcome p (stage_list n kinds rules)).number
  rest switch = silent (outcome p switch).number
  rest (put_row k row) = silent (outcome p (put_row k row)).number
  rest (put_record k bytes) = silent (outcome p (put_record k bytes)).number
  rest (put_claim k row bytes) = silent (outcome p (put_claim k row bytes)).number
  rest (drop k) = silent (outcome p (drop k)).number
  rest (ask q) = answered q
