-- Each number that the book gives has its meaning, and so has each number of a run. Assumes nothing.
use Prim.Native.Nat.{ℕ, ◌<◌, ◌≤◌}
use native.Mathlib.Omega.{arith}
use native.Mathlib.Nat.{le_antisymm}
use mathlib.Core.Path.{◌≡◌, refl, ap, sym, subst, ◌∙◌}
use mathlib.Core.Bool.{not, false≢true}
use mathlib.Core.Option.{Option, none, some}
use mathlib.Core.List.{List, [], ◌∷◌}
use lib.Dec.{ltb}
use lib.ListN.{length}
use borrow.Author.Tests.{ltb-true, lt-ltb, not-false}
use Rattle.expression.specs.Limits.{most_tokens}
use Rattle.expression.specs.Refusal.{Check, first, accepted, place, empty, short}
use Rattle.expression.specs.Token.{class}
use Rattle.expression.specs.Tree.{Tree, record_of, Over}
use Rattle.expression.specs.Tree as tree
use Rattle.expression.specs.Decode.{tree_of}
use Rattle.expression.specs.Operand.{row_of}
use Rattle.expression.specs.Checks.{short_check, record_bytes, row_tokens, row_checks, record_checks, record_number, build_number, repair_number, yield_number}
use Rattle.expression.proofs.Classes.{brackets}
use Rattle.expression.proofs.RowsAndTrees.{row_exactly_if_yielded}
use Rattle.expression.proofs.Lengths.{few_bytes, record_length, same_row_same_length}
use Rattle.disambiguation.specs.Conflicts.{ConflictFreeTree}
use Rattle.disambiguation.specs.ExactlyOne.{HasOne, EveryRowHasOne}
use Rattle.parser.proofs.InForceBuilds.{built_conflict_free}
use Rattle.brackets.specs.SameMeaning.{ShortestRow}
use Rattle.brackets.specs.Shortest.{shortest_by, shortest_number}
use Rattle.brackets.proofs.ShortestRows.{shortest_of_tree}
use Rattle.claims.specs.Claims.{same_bytes, claim_checks, beside_checks, pair_checks_by, count_by}
use Rattle.run.specs.Image.{image_bytes, image_of}
use Rattle.run.specs.Places.{place_count, held}
use Rattle.run.proofs.Images.{length_image}
use Rattle.run.specs.Call.{Question, Call, lent_before, stage, stage_list, switch, put_row, put_record, put_claim, drop, ask, fetch_record, fetch_row, image, build, repair, judge, yield, operand, shortest_row}
use Rattle.run.specs.Panel.{Panel, place_check}
use Rattle.run.specs.Steps.{reply}
use Rattle.run.specs.Book.{Book, row_in, is_blank, blank_check, slot_row, SlotTree, asked_number, book_number}
use Rattle.run.specs.AnswerBytes.{Image, AnswerIs}
use Rattle.run.specs.Run.{panel_after, book_after, answer}
use Rattle.run.specs.Meaning.{Accepted, AtPlace, NotBlank, WithRoom, OfRow, OfRecord, OfClaim, MeansAsked, Means}
use Rattle.run.proofs.Slots.{Holds, not_blank}
use Rattle.run.proofs.Stands.{Stands, same_number}
use Rattle.run.proofs.Histories.{stands}
use Rattle.run.proofs.Meanings.{Decides, when, decides_not_less, row_means, reads_back, record_means, claim_means}
use Rattle.run.proofs.MeaningsSheet.{stage_means, stage_list_means, switch_means}

-- each slot that is not blank has a row within the length that has a conflict-free tree
abbrev pub SlotsHaveTrees : Book → Type 0
SlotsHaveTrees b = (k : ℕ) (row : List ℕ) → k < place_count → b.slots k ≡ some row → (length row ≤ most_tokens) × HasOne b.operators b.rules row

decides_blank : (slot : Option (List ℕ)) → Decides (is_blank slot) (slot ≡ none)
decides_blank none = (λ _. refl, λ _. refl)
decides_blank (some row) = (λ e. absurd (false≢true e), λ e. ap is_blank e)

module _ (b : Book) where
  -- ---- 8, 9 and 10
  place_means : (Else : ℕ → Type 0) (k : ℕ) (rest : List Check) → (k < place_count → Else (first rest)) → AtPlace b k Else (first (place_check k ∷ rest))
  place_means Else k rest f =
      when Else (not (ltb k place_count)) place (first rest) (decides_not_less k place_count) (λ e. f (ltb-true k place_count (not-false (ltb k place_count) e)))

  blank_means : (Else : ℕ → Type 0) (k : ℕ) (rest : List Check) → ((row : List ℕ) → b.slots k ≡ some row → Else (first rest))
      → NotBlank b k Else (first (blank_check (b.slots k) ∷ rest))
  blank_means Else k rest f =
      when Else (is_blank (b.slots k)) empty (first rest) (decides_blank (b.slots k)) (λ e. let (row, q) = not_blank (b.slots k) e in f row q)

  -- there is an answer, and all that the book gives have this length
  room_means : (q : Question) (size : ℕ) → (a : List ℕ) → AnswerIs b q a → ((a : List ℕ) → AnswerIs b q a → length a ≡ size)
      → WithRoom b q (first (short_check size (length (lent_before q)) ∷ []))
  room_means q size a t long =
      when Accepted (ltb (length (lent_before q)) size) short accepted (
        λ e. (a, t, omega (arith, long a t, ltb-true (length (lent_before q)) size e)),
        λ h. let (c, s, l) = h in lt-ltb (length (lent_before q)) size (omega (arith, long c s, l)),
      )
      (λ _. refl)

  -- ---- the lengths of answers
  free_length : {row : List ℕ} {t : Tree} → ConflictFreeTree b.operators b.rules row t → length (record_of t) ≡ record_bytes row
  free_length {t = t} c = record_length (class b.operators) (brackets b.operators) t c.over ∙ ap record_bytes c.yields

  module _ (every : EveryRowHasOne b.operators b.rules) (trees : SlotsHaveTrees b)
      (shortens : (t : Tree) → Over (class b.operators) t → ShortestRow b.operators b.rules (tree.yield t) (shortest_by b.operators b.rules (some t))) where
    slot_tree : (k : ℕ) (row : List ℕ) → k < place_count → b.slots k ≡ some row → (t : Tree) × SlotTree b k t
    slot_tree k row h q = let (_, (t, c)) = trees k row h q in (t, rw (ap row_in q) c)

    image_means : (k : ℕ) (out : List ℕ) → k < place_count → WithRoom b (image k out) (first (short_check image_bytes (length out) ∷ []))
    image_means k out h = go (b.slots k) refl
      where
        with_tree : (row : List ℕ) → b.slots k ≡ some row → (t : Tree) → SlotTree b k t → length (image_of (record_of t)) ≡ image_bytes
        with_tree row q t c =
            length_image (record_of t)
            (omega (arith, free_length c, few_bytes (slot_row b k), ap (λ slot. length (row_in slot)) q, (trees k row h q).0))

        go : (slot : Option (List ℕ)) → b.slots k ≡ slot → WithRoom b (image k out) (first (short_check image_bytes (length out) ∷ []))
        go none q =
            room_means (image k out) image_bytes (image_of []) (rw q refl)
            (λ a t. let z : a ≡ image_of [] = rw q at t in ap length z ∙ length_image [] (omega arith))
        go (some row) q =
            let (t, c) = slot_tree k row h q in
            room_means (image k out) image_bytes (image_of (record_of t)) (rw q (t, c, refl))
            (λ a t. let (u, d, e) : Image b k (some row) a = rw q at t in ap length e ∙ with_tree row q u d)

    asked_means : (q : Question) → MeansAsked b q (asked_number b q)
    unfolding record_number build_number repair_number yield_number shortest_number
    asked_means (fetch_record k out) =
        place_means (NotBlank b k (WithRoom b (fetch_record k out))) k (blank_check (b.slots k) ∷ short_check (record_bytes (slot_row b k)) (length out) ∷ [])
        (λ h. blank_means (WithRoom b (fetch_record k out)) k (short_check (record_bytes (slot_row b k)) (length out) ∷ [])
        (λ row q.
        let (t, c) = slot_tree k row h q in
        room_means (fetch_record k out) (record_bytes (slot_row b k)) (record_of t) (t, c, refl) (λ a s. let (u, d, e) = s in ap length e ∙ free_length d)))
    asked_means (fetch_row k out) =
        place_means (NotBlank b k (WithRoom b (fetch_row k out))) k (blank_check (b.slots k) ∷ short_check (length (slot_row b k)) (length out) ∷ [])
        (λ h. blank_means (WithRoom b (fetch_row k out)) k (short_check (length (slot_row b k)) (length out) ∷ [])
        (λ row q. room_means (fetch_row k out) (length (slot_row b k)) (slot_row b k) refl (λ a e. ap length e)))
    asked_means (image k out) = place_means (WithRoom b (image k out)) k (short_check image_bytes (length out) ∷ []) (image_means k out)
    asked_means (build row out) =
        row_means b (WithRoom b (build row out)) row (short_check (record_bytes row) (length out) ∷ [])
        (λ r.
        let (t, c) = every row r in
        room_means (build row out) (record_bytes row) (record_of t) (t, c, refl) (λ a s. let (u, d, e) = s in ap length e ∙ free_length d))
    asked_means (repair bytes out) =
        record_means b (WithRoom b (repair bytes out)) bytes (short_check (length bytes) (length out) ∷ [])
        (λ t r.
        let (u, c) = every (tree.yield t) ((row_exactly_if_yielded b.operators (tree.yield t)).1 (t, r.0, refl)) in
        room_means (repair bytes out) (length bytes) (record_of u) (t, u, r, c, refl)
        (λ a s.
        let (v, w, x, d, e) = s in
        ap length e ∙ same_row_same_length (class b.operators) (brackets b.operators) w v d.over x.0 d.yields ∙ ap length x.1))
    asked_means (judge bytes) = record_means b Accepted bytes [] (λ _ _. refl)
    asked_means (yield bytes out) =
        record_means b (WithRoom b (yield bytes out)) bytes (short_check (row_tokens (tree_of (class b.operators) bytes)) (length out) ∷ [])
        (λ t r.
        room_means (yield bytes out) (row_tokens (tree_of (class b.operators) bytes)) (tree.yield t) (t, r, refl)
        (λ a s. let (u, x, e) = s in ap length e ∙ sym (ap row_tokens (reads_back b bytes u x))))
    asked_means (operand right bytes) = record_means b Accepted bytes [] (λ _ _. refl)
    asked_means (shortest_row bytes out) =
        record_means b (WithRoom b (shortest_row bytes out)) bytes (short_check (length (shortest_by b.operators b.rules (tree_of (class b.operators) bytes))) (length out) ∷ [])
        (λ t r.
        let is = ap (shortest_by b.operators b.rules) (reads_back b bytes t r) in
        room_means (shortest_row bytes out) (length (shortest_by b.operators b.rules (tree_of (class b.operators) bytes))) (shortest_by b.operators b.rules (some t)) (t, r, shortens t r.0)
        (λ a s.
        let (u, x, h) = s in
        let g = shortens u x.0 in
        le_antisymm (h.fewest (shortest_by b.operators b.rules (some u)) g.means_same) (g.fewest a h.means_same)
        ∙ ap length (sym (ap (shortest_by b.operators b.rules) (reads_back b bytes u x)))))

    -- The book's number of a call means what docs/REFERENCE.md, section 4, says.
    pub book_means : (c : Call) → Means b c (book_number b c)
    book_means (stage n bytes) = stage_means b n bytes
    book_means (stage_list n kinds rules) = stage_list_means b n kinds rules
    book_means switch = switch_means b
    book_means (put_row k row) = place_means (OfRow b row Accepted) k (row_checks b.operators row) (λ _. row_means b Accepted row [] (λ _. refl))
    book_means (put_record k bytes) = place_means (OfRecord b bytes Accepted) k (record_checks b.operators bytes) (λ _. record_means b Accepted bytes [] (λ _ _. refl))
    book_means (put_claim k row bytes) =
        place_means (OfRow b row (OfRecord b bytes (OfClaim b row bytes))) k (pair_checks_by b.operators b.rules row bytes)
        (λ _. row_means b (OfRecord b bytes (OfClaim b row bytes)) row (beside_checks b.operators row bytes count)
        (λ _. record_means b (OfClaim b row bytes) bytes (claim_checks (same_bytes (row_of (tree_of (class b.operators) bytes)) row) count) (claim_means b row bytes)))
      where
        count : ℕ
        count = count_by b.rules (tree_of (class b.operators) bytes)
    book_means (drop k) = place_means (NotBlank b k Accepted) k (blank_check (b.slots k) ∷ []) (λ _. blank_means Accepted k [] (λ _ _. refl))
    book_means (ask q) = asked_means q

-- ---- of a panel value that stands for the book
module _ (p : Panel) (b : Book) (s : Stands p b) where
  every_row : EveryRowHasOne b.operators b.rules
  every_row row r = let (t, c, _) = built_conflict_free p.sheet b.operators b.rules s.in_force_lem row r in (t, c)

  slots_have_trees : SlotsHaveTrees b
  slots_have_trees k row h q = go (rw q at (s.holds k h))
    where
      go : Holds b.operators b.rules (some row) (held p.places k) → (length row ≤ most_tokens) × HasOne b.operators b.rules row
      go (t, g) = (g.tokens_fit, (t, g.tree))

  pub reply_means : (c : Call) → Means b c (reply p c).number
  reply_means c = subst (Means b c) (sym (same_number p b s c)) (book_means b every_row slots_have_trees (shortest_of_tree b.operators b.rules s.in_force_lem.accepts) c)

-- After every list of calls the number of a call has its meaning.
pub means : (cs : List Call) (c : Call) → Means (book_after cs) c (answer cs c).number
means cs c = reply_means (panel_after cs) (book_after cs) (stands cs) c
