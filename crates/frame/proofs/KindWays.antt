-- What each way through the functions that run a frame's call gives, from what is known on it. Assumes nothing.
use mathlib.Core.Path.{◌≡◌, refl, sym, ap, ap₂, subst, ◌∙◌}
use mathlib.Core.Bool.{Bool, true, false, cond}
use mathlib.Core.List.{List, [], ◌∷◌}
use mathlib.Core.Option.{Option, none, some}
use Prim.Native.Nat.{ℕ, ◌-◌, ◌<◌, ◌≤◌}
use native.Mathlib.Omega.{arith}
use lib.Dec.{eqb}
use lib.ListN.{length, get_or, take, drop, set, length-replicate, drop_of_length-le}
use lib.Seq.{take_all, set_split}
use borrow.Author.Tests.{ne_eqb, eq-eqb}
use borrow.Author.Rules.{rules}
use Rattle.expression.specs.Lent.{output_after, length_after}
use Rattle.expression.specs.Checks.{repair_number}
use Rattle.record.specs.declared.Answer.{Answer}
use Rattle.record.specs.declared.Judgement.{Judgement}
use Rattle.expression.specs.Outcome.{number_of}
use Rattle.expression.proofs.Outcomes.{not_accepted}
use Rattle.expression.specs.declared.refusal.Refusal.{Refusal}
use Rattle.expression.specs.declared.refusal.Refusal.TheVariants.{Frame}
use Rattle.run.specs.Call.{Question, Call, judge, stage, switch, put_row, put_record, ask, fetch_record, fetch_row, image, repair}
use Rattle.run.specs.Call as call
use Rattle.places.specs.Store.{records_in}
use Rattle.places.specs.Memory.{Memory, memory, panel_in}
use Rattle.run.specs.Steps.{ops, fetch_record_number, fetch_row_number, image_number, asked_outcome}
use Rattle.monitor.specs.CallContracts.{Changes, Stages, Puts, Drops, AnswersOn, AnswersUnder, AnswersFrom, Judges}
use Rattle.frame.specs.Frames.{most_answer, room, call_of, frame_call, answer_bytes, frame_number, frame_answer, frame_after}
use Rattle.frame.specs.CallContracts.{Tells, TellsCount}
use Rattle.frame.specs.Frames as frames
use Rattle.frame.specs.Kinds.{byte_of}
use Rattle.frame.specs.declared.kind.Kind.{Kind}
use Rattle.frame.specs.declared.kind.Kind.TheVariants as of

-- ---- the call of a kind
pub cond_same : {A : Type 0} (b : Bool) {x : A} → cond b x x ≡ x
cond_same true = refl
cond_same false = refl

pub length_room : length room ≡ most_answer
unfolding room
length_room = length-replicate {A = ℕ} most_answer 0

-- a list that is not empty, by its first element and the part after it
pub parts : (rest : List ℕ) → 1 ≤ length rest → rest ≡ get_or rest 0 0 ∷ take (length rest - 1) (drop 1 rest)
parts [] h = absurd (omega arith)
parts (x ∷ xs) h = ap (λ l. x ∷ l) (sym (take_all (length (x ∷ xs) - 1) xs (omega arith)))

one_part : (rest : List ℕ) → 1 ≤ length rest → length rest < 2 → rest ≡ get_or rest 0 0 ∷ []
one_part [] h l = absurd (omega arith)
one_part (x ∷ []) h l = refl
one_part (x ∷ y ∷ rest) h l = absurd (omega arith)

-- ---- no call: a kind that needs a byte, and a kind that takes no more than one
module _ (rest : List ℕ) where
  without : (named : ℕ → List ℕ → Call) → length rest < 1 → frames.named named rest ≡ none
  without named h = go rest h
    where
      go : (l : List ℕ) → length l < 1 → frames.named named l ≡ none
      go [] h = refl
      go (x ∷ l) h = absurd (omega arith)

  not_alone : (call : ℕ → Call) → (1 ≤ length rest → 2 ≤ length rest) → frames.alone call rest ≡ none
  not_alone call h = go rest h
    where
      go : (l : List ℕ) → (1 ≤ length l → 2 ≤ length l) → frames.alone call l ≡ none
      go [] h = refl
      go (x ∷ []) h = absurd (let k = h (omega arith) in omega arith)
      go (x ∷ y ∷ l) h = refl

  not_bare : (call : Call) → 1 ≤ length rest → frames.bare call rest ≡ none
  not_bare call h = go rest h
    where
      go : (l : List ℕ) → 1 ≤ length l → frames.bare call l ≡ none
      go [] h = absurd (omega arith)
      go (x ∷ l) h = refl

-- ---- a call's number alone
module _ (m : Memory) (call : Option Call) {before : List ℕ} where
  alone : {c : Option Call} {number : ℕ} {later : Memory} → call ≡ c → number ≡ frame_number (panel_in m) c → frame_answer (panel_in m) c ≡ []
      → panel_in later ≡ frame_after (panel_in m) c → ((number ≡ 0 → ⊥) → later ≡ m) → Tells m call before before later (record { number = number; length = 0 })
  alone {c} q e a w k =
      rw q (record {
        numbered = e;
        measured = sym (ap (length_after (frame_number (panel_in m) c)) a ∙ cond_same (eqb (frame_number (panel_in m) c) 0));
        output = sym (ap (λ l. output_after (frame_number (panel_in m) c) l before) a ∙ cond_same (eqb (frame_number (panel_in m) c) 0));
        stands = w;
        kept = k;
      })

  -- a frame that is no call
  no_call : call ≡ none → Tells m call before before m (record { number = 12; length = 0 })
  no_call q = alone q refl refl refl (λ _. refl)

  -- an answer: the number looks at the room alone, and both outputs have the same
  with_answer : {q : Question} {r : Answer} (number : ℕ → ℕ) (answer : List ℕ) {after : List ℕ} → call ≡ some (ask q) → (asked_outcome (panel_in m) q).number ≡ number (length room)
      → answer_bytes (panel_in m) q ≡ answer → length before ≡ most_answer → r.number ≡ number (length before) → r.length ≡ length_after (number (length before)) answer
      → after ≡ output_after (number (length before)) answer before → Tells m call before after m r
  with_answer {q} number answer {after} e n a l numbered measured output =
      let same : number (length before) ≡ (asked_outcome (panel_in m) q).number = ap number (l ∙ sym length_room) ∙ sym n in
      rw e (record {
        numbered = numbered ∙ same;
        measured = measured ∙ ap₂ length_after same (sym a);
        output = output ∙ ap₂ (λ x y. output_after x y before) same (sym a);
        stands = refl;
        kept = λ _. refl;
      })

-- ---- counted
module _ (before : List ℕ) (l : length before ≡ most_answer) where
  pub counted_refused : (e : Refusal) → TellsCount (record { number = number_of e; count = 0 }) before before (record { number = number_of e; length = 0 })
  counted_refused e = let z = ne_eqb (number_of e) 0 (not_accepted e) in record { numbered = refl; measured = rw z refl; output = rw z refl }

  pub counted_done : (count : ℕ) → TellsCount (record { number = 0; count = count }) before (set before 0 count) (record { number = 0; length = 1 })
  counted_done count = record { numbered = refl; measured = refl; output = set_split before 0 count (omega arith) }

pub ruleset counted_ways = (counted_refused, counted_done, rules)

-- ---- run_kind
module _ (kind : Kind) (rest : List ℕ) where
  named_byte : {k : Kind} → kind ≡ k → 1 ≤ length rest → call_of (byte_of kind) rest ≡ call_of (byte_of k) (get_or rest 0 0 ∷ take (length rest - 1) (drop 1 rest))
  named_byte e h = ap₂ (λ k l. call_of (byte_of k) l) e (parts rest h)

  one_byte : {k : Kind} → kind ≡ k → 1 ≤ length rest → length rest < 2 → call_of (byte_of kind) rest ≡ call_of (byte_of k) (get_or rest 0 0 ∷ [])
  one_byte e h l = ap₂ (λ k l. call_of (byte_of k) l) e (one_part rest h l)

module _ (sheet staged places : List ℕ) (kind : Kind) (rest : List ℕ) {before : List ℕ} where
  pub way_judge : {r : Answer} {after : List ℕ} {j : Judgement} → kind ≡ of.Judge → Judges sheet rest j → TellsCount j before after r
      → Tells (memory sheet staged places) (call_of (byte_of kind) rest) before after (memory sheet staged places) r
  unfolding call_of
  way_judge {after = after} {j = j} e q w =
      let n = q.numbered staged (records_in places) in
      let c = q.counted staged (records_in places) in
      rw e (record {
        numbered = w.numbered ∙ n;
        measured = w.measured ∙ ap₂ (λ x y. length_after x (y ∷ [])) n c;
        output = w.output ∙ ap₂ (λ x y. output_after x (y ∷ []) before) n c;
        stands = refl;
        kept = λ _. refl;
      })

  pub way_repair : {r : Answer} {after : List ℕ} → kind ≡ of.Repair → length before ≡ most_answer → AnswersUnder sheet (repair rest before) r after
      → Tells (memory sheet staged places) (call_of (byte_of kind) rest) before after (memory sheet staged places) r
  unfolding call_of
  way_repair e l a =
      let w = a.answers staged places in
      with_answer (memory sheet staged places) (call_of (byte_of kind) rest) {q = repair rest room} (repair_number (ops (panel_in (memory sheet staged places))) rest) _ (rw e) refl refl l w.numbered w.measured w.output

  pub way_switch : {later : Memory} {n : ℕ} {r : Answer} → r ≡ record { number = n; length = 0 } → kind ≡ of.Switch → length rest < 1 → Changes (memory sheet staged places) switch n later
      → Tells (memory sheet staged places) (call_of (byte_of kind) rest) before before later r
  unfolding call_of
  way_switch {r = r} q e l w = rw q (alone (memory sheet staged places) (call_of (byte_of kind) rest) {c = some switch} (ap₂ (λ k l. call_of (byte_of k) l) e (drop_of_length-le rest {i = 0} (omega arith))) w.numbered refl w.stands w.kept)

  module _ {later : List ℕ} {n named : ℕ} (some_byte : 1 ≤ length rest) (byte : named ≡ get_or rest 0 0) where
    pub way_stage : {r : Answer} → r ≡ record { number = n; length = 0 } → kind ≡ of.Stage → Stages staged (stage named (take (length rest - 1) (drop 1 rest))) n later
        → Tells (memory sheet staged places) (call_of (byte_of kind) rest) before before (memory sheet later places) r
    unfolding call_of
    way_stage {r = r} q e w =
        let v = (subst (λ k. Stages staged (stage k (take (length rest - 1) (drop 1 rest))) n later) byte w).changes sheet places in
        rw q (alone (memory sheet staged places) (call_of (byte_of kind) rest) {c = some (stage (get_or rest 0 0) (take (length rest - 1) (drop 1 rest)))} (named_byte kind rest e some_byte) v.numbered refl v.stands v.kept)

    pub way_put_row : {r : Answer} → r ≡ record { number = n; length = 0 } → kind ≡ of.PutRow → Puts sheet places (put_row named (take (length rest - 1) (drop 1 rest))) n later
        → Tells (memory sheet staged places) (call_of (byte_of kind) rest) before before (memory sheet staged later) r
    unfolding call_of
    way_put_row {r = r} q e w =
        let v = (subst (λ k. Puts sheet places (put_row k (take (length rest - 1) (drop 1 rest))) n later) byte w).changes staged in
        rw q (alone (memory sheet staged places) (call_of (byte_of kind) rest) {c = some (put_row (get_or rest 0 0) (take (length rest - 1) (drop 1 rest)))} (named_byte kind rest e some_byte) v.numbered refl v.stands v.kept)

    pub way_put_record : {r : Answer} → r ≡ record { number = n; length = 0 } → kind ≡ of.PutRecord → Puts sheet places (put_record named (take (length rest - 1) (drop 1 rest))) n later
        → Tells (memory sheet staged places) (call_of (byte_of kind) rest) before before (memory sheet staged later) r
    unfolding call_of
    way_put_record {r = r} q e w =
        let v = (subst (λ k. Puts sheet places (put_record k (take (length rest - 1) (drop 1 rest))) n later) byte w).changes staged in
        rw q (alone (memory sheet staged places) (call_of (byte_of kind) rest) {c = some (put_record (get_or rest 0 0) (take (length rest - 1) (drop 1 rest)))} (named_byte kind rest e some_byte) v.numbered refl v.stands v.kept)

  module _ {named : ℕ} (some_byte : 1 ≤ length rest) (one : length rest < 2) (byte : named ≡ get_or rest 0 0) where
    pub way_drop : {later : List ℕ} {n : ℕ} {r : Answer} → r ≡ record { number = n; length = 0 } → kind ≡ of.Drop → Drops places named n later
        → Tells (memory sheet staged places) (call_of (byte_of kind) rest) before before (memory sheet staged later) r
    unfolding call_of
    way_drop {later} {n} {r} q e d =
        let w = (subst (λ k. Drops places k n later) byte d).changes sheet staged in
        rw q (alone (memory sheet staged places) (call_of (byte_of kind) rest) {c = some (call.drop (get_or rest 0 0))} (one_byte kind rest e some_byte one) w.numbered refl w.stands w.kept)

    module _ {r : Answer} {after : List ℕ} (l : length before ≡ most_answer) where
      pub way_fetch_record : kind ≡ of.FetchRecord → AnswersFrom places (fetch_record named before) r after → Tells (memory sheet staged places) (call_of (byte_of kind) rest) before after (memory sheet staged places) r
      unfolding call_of
      way_fetch_record e a =
          let w = (subst (λ k. AnswersFrom places (fetch_record k before) r after) byte a).answers sheet staged in
          with_answer (memory sheet staged places) (call_of (byte_of kind) rest) {q = fetch_record (get_or rest 0 0) room} (fetch_record_number (panel_in (memory sheet staged places)) (get_or rest 0 0)) _ (one_byte kind rest e some_byte one) refl refl l
          w.numbered w.measured w.output

      pub way_fetch_row : kind ≡ of.FetchRow → AnswersOn sheet places (fetch_row named before) r after → Tells (memory sheet staged places) (call_of (byte_of kind) rest) before after (memory sheet staged places) r
      unfolding call_of
      way_fetch_row e a =
          let w = (subst (λ k. AnswersOn sheet places (fetch_row k before) r after) byte a).answers staged in
          with_answer (memory sheet staged places) (call_of (byte_of kind) rest) {q = fetch_row (get_or rest 0 0) room} (fetch_row_number (panel_in (memory sheet staged places)) (get_or rest 0 0)) _ (one_byte kind rest e some_byte one) refl refl l
          w.numbered w.measured w.output

      pub way_image : kind ≡ of.Image → AnswersFrom places (image named before) r after → Tells (memory sheet staged places) (call_of (byte_of kind) rest) before after (memory sheet staged places) r
      unfolding call_of
      way_image e a =
          let w = (subst (λ k. AnswersFrom places (image k before) r after) byte a).answers sheet staged in
          with_answer (memory sheet staged places) (call_of (byte_of kind) rest) {q = image (get_or rest 0 0) room} (image_number (panel_in (memory sheet staged places)) (get_or rest 0 0)) _ (one_byte kind rest e some_byte one) refl refl l
          w.numbered w.measured w.output

  -- a kind that is no call with what follows it
  fails : {k : Kind} → kind ≡ k → call_of (byte_of k) rest ≡ none → Tells (memory sheet staged places) (call_of (byte_of kind) rest) before before (memory sheet staged places) (record { number = 12; length = 0 })
  fails {k} e q = no_call (memory sheet staged places) (call_of (byte_of kind) rest) (ap (λ k. call_of (byte_of k) rest) e ∙ q)

  module _ (l : length rest < 1) where
    pub no_stage : kind ≡ of.Stage → Tells (memory sheet staged places) (call_of (byte_of kind) rest) before before (memory sheet staged places) (record { number = 12; length = 0 })
    unfolding call_of
    no_stage e = fails e (without rest stage l)

    pub no_put_row : kind ≡ of.PutRow → Tells (memory sheet staged places) (call_of (byte_of kind) rest) before before (memory sheet staged places) (record { number = 12; length = 0 })
    unfolding call_of
    no_put_row e = fails e (without rest put_row l)

    pub no_put_record : kind ≡ of.PutRecord → Tells (memory sheet staged places) (call_of (byte_of kind) rest) before before (memory sheet staged places) (record { number = 12; length = 0 })
    unfolding call_of
    no_put_record e = fails e (without rest put_record l)

  pub no_switch : 1 ≤ length rest → kind ≡ of.Switch → Tells (memory sheet staged places) (call_of (byte_of kind) rest) before before (memory sheet staged places) (record { number = 12; length = 0 })
  unfolding call_of
  no_switch l e = fails e (not_bare rest switch l)

  -- none
  module _ (l : length rest < 1) where
    pub no_drop : kind ≡ of.Drop → Tells (memory sheet staged places) (call_of (byte_of kind) rest) before before (memory sheet staged places) (record { number = 12; length = 0 })
    unfolding call_of
    no_drop e = fails e (not_alone rest call.drop (λ k. absurd (omega arith)))

    pub no_fetch_record : kind ≡ of.FetchRecord → Tells (memory sheet staged places) (call_of (byte_of kind) rest) before before (memory sheet staged places) (record { number = 12; length = 0 })
    unfolding call_of
    no_fetch_record e = fails e (not_alone rest (λ k. ask (fetch_record k room)) (λ k. absurd (omega arith)))

    pub no_fetch_row : kind ≡ of.FetchRow → Tells (memory sheet staged places) (call_of (byte_of kind) rest) before before (memory sheet staged places) (record { number = 12; length = 0 })
    unfolding call_of
    no_fetch_row e = fails e (not_alone rest (λ k. ask (fetch_row k room)) (λ k. absurd (omega arith)))

    pub no_image : kind ≡ of.Image → Tells (memory sheet staged places) (call_of (byte_of kind) rest) before before (memory sheet staged places) (record { number = 12; length = 0 })
    unfolding call_of
    no_image e = fails e (not_alone rest (λ k. ask (image k room)) (λ k. absurd (omega arith)))

  -- more than one
  module _ (l : 2 ≤ length rest) where
    pub more_drop : kind ≡ of.Drop → Tells (memory sheet staged places) (call_of (byte_of kind) rest) before before (memory sheet staged places) (record { number = 12; length = 0 })
    unfolding call_of
    more_drop e = fails e (not_alone rest call.drop (λ _. l))

    pub more_fetch_record : kind ≡ of.FetchRecord → Tells (memory sheet staged places) (call_of (byte_of kind) rest) before before (memory sheet staged places) (record { number = 12; length = 0 })
    unfolding call_of
    more_fetch_record e = fails e (not_alone rest (λ k. ask (fetch_record k room)) (λ _. l))

    pub more_fetch_row : kind ≡ of.FetchRow → Tells (memory sheet staged places) (call_of (byte_of kind) rest) before before (memory sheet staged places) (record { number = 12; length = 0 })
    unfolding call_of
    more_fetch_row e = fails e (not_alone rest (λ k. ask (fetch_row k room)) (λ _. l))

    pub more_image : kind ≡ of.Image → Tells (memory sheet staged places) (call_of (byte_of kind) rest) before before (memory sheet staged places) (record { number = 12; length = 0 })
    unfolding call_of
    more_image e = fails e (not_alone rest (λ k. ask (image k room)) (λ _. l))

pub ruleset kind_ways = (
  way_judge,
  way_repair,
  way_switch,
  way_stage,
  way_put_row,
  way_put_record,
  way_drop,
  way_fetch_record,
  way_fetch_row,
  way_image,
  no_stage,
  no_put_row,
  no_put_record,
  no_switch,
  no_drop,
  no_fetch_record,
  no_fetch_row,
  no_image,
  more_drop,
  more_fetch_record,
  more_fetch_row,
  more_image,
  rules,
)

-- ---- run_frame
module _ (m : Memory) (frame : List ℕ) {before : List ℕ} where
  pub frame_none : length frame < 1 → Tells m (frame_call frame) before before m (record { number = 12; length = 0 })
  frame_none l = no_call m (frame_call frame) (go frame l)
    where
      go : (l : List ℕ) → length l < 1 → frame_call l ≡ none
      go [] e = refl
      go (x ∷ xs) e = absurd (omega arith)

  pub frame_other : (e : Refusal) → e ≡ Frame → 1 ≤ length frame → ((k : Kind) → get_or frame 0 0 ≡ byte_of k → ⊥) → Tells m (frame_call frame) before before m (record { number = number_of e; length = 0 })
  unfolding call_of
  frame_other e q l h = rw q (no_call m (frame_call frame) (go frame l h))
    where
      go : (l : List ℕ) → 1 ≤ length l → ((k : Kind) → get_or l 0 0 ≡ byte_of k → ⊥) → frame_call l ≡ none
      go [] z h = absurd (omega arith)
      go (x ∷ xs) z h =
          simp (
            ne_eqb x 1 (h of.Stage),
            ne_eqb x 2 (h of.PutRow),
            ne_eqb x 3 (h of.Drop),
            ne_eqb x 4 (h of.FetchRecord),
            ne_eqb x 5 (h of.FetchRow),
            ne_eqb x 6 (h of.PutRecord),
            ne_eqb x 7 (h of.Judge),
            ne_eqb x 8 (h of.Repair),
            ne_eqb x 9 (h of.Image),
            ne_eqb x 10 (h of.Switch),
          )

  pub frame_some : {after : List ℕ} {later : Memory} {r : Answer} (kind : Kind) → 1 ≤ length frame → get_or frame 0 0 ≡ byte_of kind
      → Tells m (call_of (byte_of kind) (take (length frame - 1) (drop 1 frame))) before after later r → Tells m (frame_call frame) before after later r
  frame_some {after} {later} {r} kind h e t =
      subst (λ l. Tells m (frame_call l) before after later r) (sym (parts frame h)) (subst (λ k. Tells m (call_of k (take (length frame - 1) (drop 1 frame))) before after later r) (sym e) t)

pub ruleset frame_ways = (frame_none, frame_some, rules)
