-- What each way through the questions gives, from what is known on it. Assumes nothing.
use mathlib.Core.Path.{◌≡◌, refl, sym, ap, ap₂, subst, ◌∙◌}
use Rattle.std.specs.Prelude.{Err}
use Rattle.expression.specs.declared.refusal.Refusal.{Refusal}
use Rattle.expression.specs.declared.refusal.Refusal.TheVariants as refusal
use Rattle.record.specs.Outcome.{answer_of}
use mathlib.Core.Bool.{false}
use mathlib.Core.List.{List, ◌++◌}
use Prim.Native.Nat.{ℕ, ◌<◌, ◌≤◌}
use native.Mathlib.Omega.{arith}
use lib.Dec.{eqb}
use lib.ListN.{length, drop}
use borrow.Author.Tests.{lt-ltb, le-ltb, ne_eqb}
use borrow.Author.Rules.{rules}
use Rattle.expression.specs.Lent.{output_after, length_after}
use Rattle.expression.specs.Token.{class}
use Rattle.expression.specs.Decode.{tree_of}
use Rattle.expression.specs.Operand.{row_of}
use Rattle.expression.specs.Checks.{yield_number}
use Rattle.sheet.specs.Layout.{operators_of}
use Rattle.record.specs.Answers.{Yields, judgement}
use Rattle.record.specs.declared.Answer.{Answer}
use Rattle.record.specs.declared.Judgement.{Judgement}
use Rattle.parser.specs.Answers.{AnswersBuild, AnswersRepair}
use Rattle.brackets.specs.Shortest.{AnswersShortest}
use Rattle.run.specs.Image.{image_bytes, image_of}
use Rattle.run.specs.Places.{place_count, held}
use Rattle.run.proofs.Images.{length_image}
use Rattle.places.specs.Store.{records_in, drawn}
use Rattle.places.specs.Memory.{Memory, memory, panel_in}
use Rattle.places.proofs.Laws.{held_length}
use Rattle.run.specs.Call.{Question, lent_before, fetch_record, fetch_row, image, build, repair, yield, shortest_row}
use Rattle.run.specs.Panel.{is_empty}
use Rattle.run.proofs.Places.{empty_true, empty_false}
use Rattle.run.specs.Steps.{fetch_record_number, fetch_row_number, image_number, asked_outcome}
use Rattle.monitor.specs.CallContracts.{AnswersInto, AnswersOn, AnswersUnder, AnswersFrom, Judges}

-- ---- an answer by its number
module _ (m : Memory) (q : Question) where
  refused : (number : ℕ) → number ≡ (asked_outcome (panel_in m) q).number → (number ≡ 0 → ⊥) → AnswersInto m q (record { number = number; length = 0 }) (lent_before q)
  refused number e h =
      let z : eqb (asked_outcome (panel_in m) q).number 0 ≡ false = ne_eqb (asked_outcome (panel_in m) q).number 0 (λ f. h (e ∙ f)) in
      record { numbered = e; measured = rw z; output = rw z }

  done : {size : ℕ} {later : List ℕ} → (asked_outcome (panel_in m) q).number ≡ 0 → size ≡ length (asked_outcome (panel_in m) q).answer → later ≡ (asked_outcome (panel_in m) q).answer ++ drop (length (asked_outcome (panel_in m) q).answer) (lent_before q)
      → AnswersInto m q (record { number = 0; length = size }) later
  done e l o = record { numbered = sym e; measured = rw e l; output = rw e o }

  -- a callee's answer, under the question's own number and answer
  as_told : {r : Answer} {later : List ℕ} (number : ℕ) (answer : List ℕ) → number ≡ (asked_outcome (panel_in m) q).number → answer ≡ (asked_outcome (panel_in m) q).answer
      → r.number ≡ number → r.length ≡ length_after r.number answer → later ≡ output_after r.number answer (lent_before q) → AnswersInto m q r later
  as_told number answer e a n l o =
      record { numbered = n ∙ e; measured = l ∙ ap₂ length_after (n ∙ e) a; output = o ∙ ap₂ (λ x y. output_after x y (lent_before q)) (n ∙ e) a }

-- ---- build, repair, yield, the shortest row: what the lower crates promise is the run's answer
module _ (sheet : List ℕ) {bytes before later : List ℕ} {r : Answer} where
  pub build_answered : AnswersBuild sheet bytes before later r → AnswersUnder sheet (build bytes before) r later
  build_answered a = record { answers = λ staged store. as_told (memory sheet staged store) (build bytes before) _ _ refl refl a.numbered a.measured a.output }

  pub repair_answered : AnswersRepair sheet bytes before later r → AnswersUnder sheet (repair bytes before) r later
  repair_answered a = record { answers = λ staged store. as_told (memory sheet staged store) (repair bytes before) _ _ refl refl a.numbered a.measured a.output }

  pub yield_answered : Yields (operators_of sheet) bytes before later r → AnswersUnder sheet (yield bytes before) r later
  yield_answered a = record { answers = λ staged store. as_told (memory sheet staged store) (yield bytes before) _ _ refl refl a.numbered a.measured a.output }

  pub shortest_answered : AnswersShortest sheet bytes before later r → AnswersUnder sheet (shortest_row bytes before) r later
  shortest_answered a = record { answers = λ staged store. as_told (memory sheet staged store) (shortest_row bytes before) _ _ refl refl a.numbered a.measured a.output }

pub ruleset under_sheet_ways = (build_answered, repair_answered, yield_answered, shortest_answered, rules)

-- ---- judge
pub judged : (sheet bytes : List ℕ) {r : Judgement} → r ≡ judgement sheet bytes → Judges sheet bytes r
unfolding judgement
judged sheet bytes e = record { numbered = λ staged places. ap (λ (j : Judgement). j.number) e; counted = λ staged places. ap (λ (j : Judgement). j.count) e }

pub ruleset judge_ways = (judged, rules)

-- ---- fetch_record
module _ (store : List ℕ) (k : ℕ) (out : List ℕ) where
  record_refused : (number : ℕ) → ((sheet staged : List ℕ) → number ≡ fetch_record_number (panel_in (memory sheet staged store)) k (length out)) → (number ≡ 0 → ⊥)
      → AnswersFrom store (fetch_record k out) (record { number = number; length = 0 }) out
  record_refused number e h = record { answers = λ sheet staged. refused (memory sheet staged store) (fetch_record k out) number (e sheet staged) h }

  pub record_over : {e : Refusal} → e ≡ refusal.Place → place_count ≤ k → AnswersFrom store (fetch_record k out) (answer_of (Err e)) out
  unfolding fetch_record_number
  record_over q h =
      subst (λ (x : Refusal). AnswersFrom store (fetch_record k out) (answer_of (Err x)) out) (sym q)
      (record_refused 8 (λ sheet staged. simp (le-ltb k place_count h)) (λ e. omega arith))

  module _ {at : ℕ} (there : at ≡ k) (below : at < place_count) {bytes : List ℕ} (holds : bytes ≡ held (records_in store) at) where
    place_inside : k < place_count
    place_inside = omega arith

    e : bytes ≡ held (records_in store) k
    e = holds ∙ ap (held (records_in store)) there

    pub record_none : length bytes ≡ 0 → AnswersFrom store (fetch_record k out) (record { number = 9; length = 0 }) out
    unfolding fetch_record_number
    record_none z = record_refused 9 (λ sheet staged. simp (lt-ltb k place_count place_inside, empty_true (held (records_in store) k) (ap length (sym e) ∙ z))) (λ e. omega arith)

    module _ (n : length bytes ≡ 0 → ⊥) where
      some_held : is_empty (held (records_in store) k) ≡ false
      some_held = empty_false (held (records_in store) k) (λ z. n (ap length e ∙ z))

      pub record_short : length out < length bytes → AnswersFrom store (fetch_record k out) (record { number = 10; length = 0 }) out
      unfolding fetch_record_number
      record_short l =
          record_refused 10 (λ sheet staged. simp (lt-ltb k place_count place_inside, some_held, lt-ltb (length out) (length (held (records_in store) k)) (omega (arith, ap length e)))) (λ e. omega arith)

      pub record_done : {later : List ℕ} → length bytes ≤ length out → later ≡ bytes ++ drop (length bytes) out
          → AnswersFrom store (fetch_record k out) (record { number = 0; length = length bytes }) later
      unfolding fetch_record_number
      record_done {later} l a =
          let front : later ≡ held (records_in store) k ++ drop (length (held (records_in store) k)) out = a ∙ ap₂ ◌++◌ e (ap (λ x. drop (length x) out) e) in
          record {
            answers = λ sheet staged.
                done (memory sheet staged store) (fetch_record k out) (simp (lt-ltb k place_count place_inside, some_held, le-ltb (length out) (length (held (records_in store) k)) (omega (arith, ap length e))))
                (ap length e) front;
          }

pub ruleset fetch_record_ways = (record_over, record_none, record_short, record_done, rules)

-- ---- fetch_row
module _ (sheet store : List ℕ) (k : ℕ) (out : List ℕ) where
  pub row_over : {e : Refusal} → e ≡ refusal.Place → place_count ≤ k → AnswersOn sheet store (fetch_row k out) (answer_of (Err e)) out
  unfolding fetch_row_number
  row_over q h =
      subst (λ (x : Refusal). AnswersOn sheet store (fetch_row k out) (answer_of (Err x)) out) (sym q)
      (record { answers = λ staged. refused (memory sheet staged store) (fetch_row k out) 8 (simp (le-ltb k place_count h)) (λ e. omega arith) })

  module _ {at : ℕ} (there : at ≡ k) (below : at < place_count) {bytes : List ℕ} (holds : bytes ≡ held (records_in store) at) where
    row_inside : k < place_count
    row_inside = omega arith

    row_held : bytes ≡ held (records_in store) k
    row_held = holds ∙ ap (held (records_in store)) there

    pub row_none : length bytes ≡ 0 → AnswersOn sheet store (fetch_row k out) (record { number = 9; length = 0 }) out
    unfolding fetch_row_number
    row_none z =
        record {
          answers = λ staged. refused (memory sheet staged store) (fetch_row k out) 9 (simp (lt-ltb k place_count row_inside, empty_true (held (records_in store) k) (ap length (sym row_held) ∙ z))) (λ e. omega arith);
        }

    pub row_yielded : {later : List ℕ} {r : Answer} → (length bytes ≡ 0 → ⊥) → Yields (operators_of sheet) bytes out later r → AnswersOn sheet store (fetch_row k out) r later
    unfolding fetch_row_number yield_number
    row_yielded n y =
        record {
          answers = λ staged.
              let due : yield_number (operators_of sheet) (held (records_in store) k) (length out) ≡ fetch_row_number (panel_in (memory sheet staged store)) k (length out) =
              simp (lt-ltb k place_count row_inside, empty_false (held (records_in store) k) (λ z. n (ap length row_held ∙ z))) in
              as_told (memory sheet staged store) (fetch_row k out) (yield_number (operators_of sheet) bytes (length out)) (row_of (tree_of (class (operators_of sheet)) bytes))
              (ap (λ b. yield_number (operators_of sheet) b (length out)) row_held ∙ due)
              (ap (λ b. row_of (tree_of (class (operators_of sheet)) b)) row_held) y.numbered y.measured y.output;
        }

pub ruleset fetch_row_ways = (row_over, row_none, row_yielded, rules)

-- ---- image
module _ (store : List ℕ) (k : ℕ) (out : List ℕ) where
  image_refused : (number : ℕ) → ((sheet staged : List ℕ) → number ≡ image_number (panel_in (memory sheet staged store)) k (length out)) → (number ≡ 0 → ⊥)
      → AnswersFrom store (image k out) (record { number = number; length = 0 }) out
  image_refused number e h = record { answers = λ sheet staged. refused (memory sheet staged store) (image k out) number (e sheet staged) h }

  pub image_over : {e : Refusal} → e ≡ refusal.Place → place_count ≤ k → AnswersFrom store (image k out) (answer_of (Err e)) out
  unfolding image_number
  image_over q h =
      subst (λ (x : Refusal). AnswersFrom store (image k out) (answer_of (Err x)) out) (sym q)
      (image_refused 8 (λ sheet staged. simp (le-ltb k place_count h)) (λ e. omega arith))

  pub image_short : {at : ℕ} → at ≡ k → at < place_count → length out < image_bytes → AnswersFrom store (image k out) (record { number = 10; length = 0 }) out
  unfolding image_number
  image_short there below l =
      let h : k < place_count = omega arith in
      image_refused 10 (λ sheet staged. simp (lt-ltb k place_count h, lt-ltb (length out) image_bytes l)) (λ e. omega arith)

  pub image_done : {at : ℕ} {later : List ℕ} → at ≡ k → at < place_count → image_bytes ≤ length out → later ≡ drawn (image_of (held (records_in store) at)) out
      → AnswersFrom store (image k out) (record { number = 0; length = image_bytes }) later
  unfolding image_number drawn
  image_done {at} {later} there below l a' =
      let h : k < place_count = omega arith in
      let a : later ≡ drawn (image_of (held (records_in store) k)) out = a' ∙ ap (λ (i : ℕ). drawn (image_of (held (records_in store) i)) out) there in
      let front : later ≡ image_of (held (records_in store) k) ++ drop (length (image_of (held (records_in store) k))) out = a ∙ rw (le-ltb (length out) image_bytes l) in
      record {
        answers = λ sheet staged.
            done (memory sheet staged store) (image k out) (simp (lt-ltb k place_count h, le-ltb (length out) image_bytes l))
            (sym (length_image (held (records_in store) k) (held_length store k))) front;
      }

pub ruleset image_ways = (image_over, image_short, image_done, rules)
