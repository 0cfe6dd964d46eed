-- What each way through the calls that store at a place gives, from what is known on it. Assumes nothing.
use mathlib.Core.Path.{◌≡◌, refl, sym, ap, subst, ◌∙◌}
use mathlib.Core.List.{List, ◌∷◌, ◌++◌}
use Prim.Native.Nat.{ℕ, ◌<◌, ◌≤◌}
use native.Mathlib.Omega.{arith}
use lib.ListN.{length, take, drop}
use lib.Seq.{take_at}
use borrow.Author.Tests.{lt-ltb, le-ltb, ne_eqb}
use borrow.Author.Rules.{rules}
use Rattle.std.specs.Prelude.{Ok, Err}
use Rattle.expression.specs.Refusal.{Check, first, accepted}
use Rattle.expression.specs.Outcome.{number_of}
use Rattle.expression.specs.declared.refusal.Refusal.{Refusal}
use Rattle.expression.specs.declared.refusal.Refusal.TheVariants as refusal
use Rattle.expression.specs.Lent.{output_after, length_after}
use Rattle.expression.specs.Limits.{most_record_bytes}
use Rattle.expression.specs.Token.{class}
use Rattle.expression.specs.Decode.{tree_of}
use Rattle.expression.specs.Operand.{row_of}
use Rattle.expression.specs.Checks.{row_checks, record_checks, row_number, record_number}
use Rattle.expression.proofs.Lengths.{few_bytes}
use Rattle.expression.proofs.Numbers.{first_passed, given_after, row_accepted, record_accepted, build_number_lem, repair_number_lem}
use Rattle.sheet.specs.Layout.{operators_of}
use Rattle.sheet.specs.Relation.{closes_in}
use Rattle.record.specs.Answers.{count_in}
use Rattle.record.specs.declared.Answer.{Answer}
use Rattle.record.specs.Outcome.{answer_of}
use Rattle.parser.specs.Build.{built}
use Rattle.parser.specs.Answers.{AnswersBuild, AnswersRepair}
use Rattle.parser.proofs.BuildLaws.{built_length, built_length_accepted}
use Rattle.expression.proofs.Outcomes.{not_accepted}
use Rattle.parser.proofs.RepairWays.{accepted_record}
use Rattle.claims.specs.Claims.{same_bytes, claim_checks, beside_checks, pair_checks_in, claim_number_in}
use Rattle.run.specs.Places.{place_count, held, stored}
use Rattle.places.specs.Store.{records_in, Enters}
use Rattle.places.specs.Memory.{memory}
use Rattle.run.specs.Call.{Call, put_row, put_record, put_claim}
use Rattle.run.specs.Panel.{panel, place_check, rebuilt}
use Rattle.run.specs.Steps.{put_row_number, places_after_row, put_record_number, places_after_record, put_claim_number, places_after_claim, after, reply}
use Rattle.monitor.specs.CallContracts.{Puts, stored_if, Stores, StoresRow, StoresRecord, StoresClaim, rebuilt_at}

-- ---- what passes fits a place
rebuilt_fits : (sheet bytes : List ℕ) → record_number (operators_of sheet) bytes ≡ 0 → length (rebuilt sheet bytes) ≤ most_record_bytes
rebuilt_fits sheet bytes e =
    let ops = operators_of sheet in
    let a = accepted_record ops bytes e in
    let (_, r) = (record_accepted ops bytes).0 e in
    omega (arith, built_length (closes_in sheet) ops (row_of (tree_of (class ops) bytes)) a.is_row, a.same_length, r.bytes_fit)

claim_fits : (sheet row bytes : List ℕ) → claim_number_in sheet row bytes ≡ 0 → length bytes ≤ most_record_bytes
unfolding claim_number_in record_number
claim_fits sheet row bytes z =
    let ops = operators_of sheet in
    let count = count_in sheet (tree_of (class ops) bytes) in
    let (_, beside) = given_after 0 (row_checks ops row) (beside_checks ops row bytes count) refl z in
    let (passed, _) = given_after 0 (record_checks ops bytes) (claim_checks (same_bytes (row_of (tree_of (class ops) bytes)) row) count) refl beside in
    let (_, r) = (record_accepted ops bytes).0 (first_passed (record_checks ops bytes) passed) in
    r.bytes_fit

-- ---- an answer at the front of the buffer
module _ {r : Answer} (answer before : List ℕ) {after : List ℕ} (measured : r.length ≡ length_after r.number answer) (output : after ≡ output_after r.number answer before) (zero : r.number ≡ 0) where
  size_is : r.length ≡ length answer
  size_is = measured ∙ rw zero

  filled : after ≡ answer ++ drop (length answer) before
  filled = output ∙ rw zero

  front_is : take r.length after ≡ answer
  front_is = ap (take r.length) filled ∙ take_at answer (drop (length answer) before) r.length (sym size_is)

-- ---- what is stored where the number is 0
module _ (number : ℕ) (bytes store : List ℕ) (k : ℕ) where
  pub unstored : {r : ℕ} → r ≡ number → (r ≡ 0 → ⊥) → Stores number bytes store k r store
  unstored e h = record { numbered = e; stands = rw (ne_eqb number 0 (λ f. h (e ∙ f))); kept = λ _. refl }

  pub stored_front : {r : ℕ} {front later : List ℕ} → r ≡ number → r ≡ 0 → length bytes ≤ most_record_bytes → front ≡ bytes → Enters store k front later
      → Stores number bytes store k 0 later
  stored_front e z few f a =
      record {
        numbered = sym z ∙ e;
        stands = a.holds (rw f few) ∙ ap (stored (records_in store) k) f ∙ rw (sym e ∙ z);
        kept = λ h. absurd (h refl);
      }

-- ---- a row
module _ (sheet store : List ℕ) (k : ℕ) {row before after : List ℕ} {r : Answer} (room : most_record_bytes ≤ length before) (a : AnswersBuild sheet row before after r) where
  abbrev record_of_row : List ℕ
  record_of_row = built (operators_of sheet) (closes_in sheet) row

  row_number_is : r.number ≡ row_number (operators_of sheet) row
  row_number_is = a.numbered ∙ build_number_lem (operators_of sheet) row (length before) room

  pub row_refused : (r.number ≡ 0 → ⊥) → StoresRow sheet store k row r.number store
  row_refused h = unstored (row_number (operators_of sheet) row) record_of_row store k row_number_is h

  module _ (zero : r.number ≡ 0) where
    row_fits : length record_of_row ≤ most_record_bytes
    row_fits =
        let e = sym row_number_is ∙ zero in
        omega (arith, built_length_accepted (closes_in sheet) (operators_of sheet) row e, few_bytes row, ((row_accepted (operators_of sheet) row).0 e).0)

    pub row_stored : {later : List ℕ} → Enters store k (take r.length after) later → StoresRow sheet store k row 0 later
    row_stored e =
        stored_front (row_number (operators_of sheet) row) record_of_row store k row_number_is zero row_fits
        (front_is record_of_row before a.measured a.output zero) e

-- ---- a record
module _ (sheet store : List ℕ) (k : ℕ) {bytes before after : List ℕ} {r : Answer} (room : most_record_bytes ≤ length before) (a : AnswersRepair sheet bytes before after r) where
  record_number_is : r.number ≡ record_number (operators_of sheet) bytes
  record_number_is = a.numbered ∙ repair_number_lem (operators_of sheet) bytes (length before) room

  pub record_refused : (r.number ≡ 0 → ⊥) → StoresRecord sheet store k bytes r.number store
  record_refused h = unstored (record_number (operators_of sheet) bytes) (rebuilt sheet bytes) store k record_number_is h

  module _ (zero : r.number ≡ 0) where
    pub record_stored : {later : List ℕ} → Enters store k (take r.length after) later → StoresRecord sheet store k bytes 0 later
    record_stored e =
        stored_front (record_number (operators_of sheet) bytes) (rebuilt sheet bytes) store k record_number_is zero
        (rebuilt_fits sheet bytes (sym record_number_is ∙ zero))
        (front_is (rebuilt sheet bytes) before a.measured a.output zero) e

  -- the bytes are what the place holds
  module _ (same : bytes ≡ held (records_in store) k) where
    rebuilt_held : stored_if (record_number (operators_of sheet) bytes) (rebuilt sheet bytes) (records_in store) k ≡ rebuilt_at sheet (records_in store) k
    rebuilt_held = ap (λ x. stored_if (record_number (operators_of sheet) x) (rebuilt sheet x) (records_in store) k) same

    pub rebuild_refused : (r.number ≡ 0 → ⊥) → records_in store ≡ rebuilt_at sheet (records_in store) k
    rebuild_refused h = (record_refused h).stands ∙ rebuilt_held

    pub rebuild_stored : {later : List ℕ} → r.number ≡ 0 → Enters store k (take r.length after) later → records_in later ≡ rebuilt_at sheet (records_in store) k
    rebuild_stored zero e = (record_stored zero e).stands ∙ rebuilt_held

module _ (sheet store : List ℕ) (k : ℕ) {bytes before after : List ℕ} (room : most_record_bytes ≤ length before) (same : bytes ≡ held (records_in store) k) where
  pub kept_tree : (e : Refusal) → AnswersRepair sheet bytes before after (answer_of (Err e)) → records_in store ≡ rebuilt_at sheet (records_in store) k
  kept_tree e a = rebuild_refused sheet store k room a same (not_accepted e)

  pub new_tree : {n : ℕ} {later : List ℕ} → AnswersRepair sheet bytes before after (answer_of (Ok n)) → Enters store k (take n after) later
      → records_in later ≡ rebuilt_at sheet (records_in store) k
  new_tree a w = rebuild_stored sheet store k room a same refl w

-- ---- a claim
module _ (sheet store : List ℕ) (k : ℕ) (row bytes : List ℕ) {number : ℕ} (is : number ≡ claim_number_in sheet row bytes) where
  pub claim_refused : (number ≡ 0 → ⊥) → StoresClaim sheet store k row bytes number store
  claim_refused h = unstored (claim_number_in sheet row bytes) bytes store k is h

  pub claim_stored : {later : List ℕ} → number ≡ 0 → Enters store k bytes later → StoresClaim sheet store k row bytes 0 later
  claim_stored zero e = stored_front (claim_number_in sheet row bytes) bytes store k is zero (claim_fits sheet row bytes (sym is ∙ zero)) refl e

-- ---- a put: 8 where the place is over 15, else the number and the places of what is stored
module _ (sheet store : List ℕ) (k : ℕ) (c : Call) (checks : List Check) (bytes : List ℕ)
    (due : (staged : List ℕ) → (reply (panel sheet staged (records_in store)) c).number ≡ first (place_check k ∷ checks))
    (left : (staged : List ℕ) → after (panel sheet staged (records_in store)) c ≡ panel sheet staged (stored_if (first (place_check k ∷ checks)) bytes (records_in store) k)) where
  put_stored : {r : ℕ} {later : List ℕ} → Stores (first (place_check k ∷ checks)) bytes store k r later → Puts sheet store c r later
  put_stored w =
      record {
        changes = λ staged.
            record {
              numbered = w.numbered ∙ sym (due staged);
              stands = ap (panel sheet staged) w.stands ∙ sym (left staged);
              kept = λ h. ap (memory sheet staged) (w.kept h);
            };
      }

  pub put_over : {e : Refusal} → e ≡ refusal.Place → place_count ≤ k → Puts sheet store c (number_of e) store
  put_over {e} q h =
      subst (λ (x : Refusal). Puts sheet store c (number_of x) store) (sym q)
      (put_stored (unstored (first (place_check k ∷ checks)) bytes store k (rw (le-ltb k place_count h)) (λ e. omega arith)))

  pub put_done : {r : ℕ} {later : List ℕ} → k < place_count → Stores (first checks) bytes store k r later → Puts sheet store c r later
  put_done {r} {later} h w = put_stored (subst (λ number. Stores number bytes store k r later) (rw (lt-ltb k place_count h)) w)

-- ---- put_row, put_record, put_claim
module _ (sheet store : List ℕ) (k : ℕ) (bytes : List ℕ) where
  pub put_row_over : {e : Refusal} → e ≡ refusal.Place → place_count ≤ k → Puts sheet store (put_row k bytes) (number_of e) store
  unfolding put_row_number places_after_row
  put_row_over =
      put_over sheet store k (put_row k bytes) (row_checks (operators_of sheet) bytes) (built (operators_of sheet) (closes_in sheet) bytes) (λ staged. refl) (λ staged. refl)

  pub put_row_done : {r : ℕ} {later : List ℕ} → k < place_count → StoresRow sheet store k bytes r later → Puts sheet store (put_row k bytes) r later
  unfolding put_row_number places_after_row row_number
  put_row_done =
      put_done sheet store k (put_row k bytes) (row_checks (operators_of sheet) bytes) (built (operators_of sheet) (closes_in sheet) bytes) (λ staged. refl) (λ staged. refl)

  pub put_record_over : {e : Refusal} → e ≡ refusal.Place → place_count ≤ k → Puts sheet store (put_record k bytes) (number_of e) store
  unfolding put_record_number places_after_record
  put_record_over = put_over sheet store k (put_record k bytes) (record_checks (operators_of sheet) bytes) (rebuilt sheet bytes) (λ staged. refl) (λ staged. refl)

  pub put_record_done : {r : ℕ} {later : List ℕ} → k < place_count → StoresRecord sheet store k bytes r later → Puts sheet store (put_record k bytes) r later
  unfolding put_record_number places_after_record record_number
  put_record_done = put_done sheet store k (put_record k bytes) (record_checks (operators_of sheet) bytes) (rebuilt sheet bytes) (λ staged. refl) (λ staged. refl)

module _ (sheet store : List ℕ) (k : ℕ) (row bytes : List ℕ) where
  pub put_claim_over : {e : Refusal} → e ≡ refusal.Place → place_count ≤ k → Puts sheet store (put_claim k row bytes) (number_of e) store
  unfolding put_claim_number places_after_claim
  put_claim_over = put_over sheet store k (put_claim k row bytes) (pair_checks_in sheet row bytes) bytes (λ staged. refl) (λ staged. refl)

  pub put_claim_done : {r : ℕ} {later : List ℕ} → k < place_count → StoresClaim sheet store k row bytes r later → Puts sheet store (put_claim k row bytes) r later
  unfolding put_claim_number places_after_claim claim_number_in
  put_claim_done = put_done sheet store k (put_claim k row bytes) (pair_checks_in sheet row bytes) bytes (λ staged. refl) (λ staged. refl)

-- the place that the number is of
module _ (sheet store : List ℕ) {k at : ℕ} (same : at ≡ k) (below : at < place_count) where
  inside : k < place_count
  inside = omega arith

  enters_there : {front later : List ℕ} → Enters store at front later → Enters store k front later
  enters_there {front} {later} w = subst (λ (i : ℕ). Enters store i front later) same w

  module _ {bytes before after : List ℕ} (room : most_record_bytes ≤ length before) where
    pub put_row_refused : (e : Refusal) → AnswersBuild sheet bytes before after (answer_of (Err e)) → Puts sheet store (put_row k bytes) (number_of e) store
    put_row_refused e a = put_row_done sheet store k bytes inside (row_refused sheet store k room a (not_accepted e))

    pub put_row_stored : {n : ℕ} {later : List ℕ} → AnswersBuild sheet bytes before after (answer_of (Ok n)) → Enters store at (take n after) later
        → Puts sheet store (put_row k bytes) 0 later
    put_row_stored {n} {later} a w = put_row_done sheet store k bytes inside (row_stored sheet store k room a refl (enters_there w))

  module _ {bytes before after : List ℕ} (room : most_record_bytes ≤ length before) where
    pub put_record_refused : (e : Refusal) → AnswersRepair sheet bytes before after (answer_of (Err e)) → Puts sheet store (put_record k bytes) (number_of e) store
    put_record_refused e a = put_record_done sheet store k bytes inside (record_refused sheet store k room a (not_accepted e))

    pub put_record_stored : {n : ℕ} {later : List ℕ} → AnswersRepair sheet bytes before after (answer_of (Ok n)) → Enters store at (take n after) later
        → Puts sheet store (put_record k bytes) 0 later
    put_record_stored {n} {later} a w = put_record_done sheet store k bytes inside (record_stored sheet store k room a refl (enters_there w))

  module _ {row bytes : List ℕ} where
    pub put_claim_refused : (e : Refusal) → number_of e ≡ claim_number_in sheet row bytes → Puts sheet store (put_claim k row bytes) (number_of e) store
    put_claim_refused e is = put_claim_done sheet store k row bytes inside (claim_refused sheet store k row bytes is (not_accepted e))

    pub put_claim_stored : {later : List ℕ} → accepted ≡ claim_number_in sheet row bytes → Enters store at bytes later → Puts sheet store (put_claim k row bytes) 0 later
    put_claim_stored is w = put_claim_done sheet store k row bytes inside (claim_stored sheet store k row bytes is refl (enters_there w))

pub ruleset put_row_ways = (put_row_over, rules)

pub ruleset put_record_ways = (put_record_over, rules)

pub ruleset put_claim_ways = (put_claim_over, rules)
