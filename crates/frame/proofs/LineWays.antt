-- What each way through the functions that answer a line gives, from what is known on it. Assumes nothing.
use mathlib.Core.Path.{◌≡◌, refl, sym, ap, ap₂, ◌∙◌}
use mathlib.Core.Bool.{Bool, true, false, cond}
use mathlib.Core.List.{List, [], ◌∷◌, ◌++◌, append-nil, append_assoc}
use mathlib.Core.Option.{Option, none, some}
use Prim.Native.Nat.{ℕ, ◌+◌, ◌*◌, ◌-◌, ◌<◌, ◌≤◌}
use native.Mathlib.Omega.{arith}
use lib.Dec.{eqb, ltb}
use lib.ListN.{length, get_or, take, drop, length-append, length-drop, drop_of_length-le}
use lib.Seq.{length-take-le, take_all, take-append_seam, drop-append_seam, drop-drop}
use borrow.Author.Rules.{rules}
use borrow.Author.Tests.{lt-ltb, le-ltb}
use Rattle.expression.specs.Refusal.{accepted}
use Rattle.record.specs.declared.Answer.{Answer}
use Rattle.run.specs.Call.{Call}
use Rattle.run.specs.Panel.{if_accepted}
use Rattle.places.specs.Memory.{Memory, panel_in}
use Rattle.hexadecimal.specs.Text.{is_text, bytes_of, text_of, with_front, bytes_within, answer_of, output_of, text_within, Decodes, Encodes}
use Rattle.hexadecimal.proofs.TextWays.{length_text_of}
use Rattle.hexadecimal.proofs.Laws.{bytes_within_room, text_within_room, encodes_room}
use Rattle.std.specs.Prelude as code
use Rattle.std.specs.Prelude.{Result, Ok, Err, Some, IsSome}
use Rattle.hexadecimal.specs.declared.DecodeError.{DecodeError}
use Rattle.frame.specs.Frames.{most_answer, frame_call, frame_reply, frame_number, frame_answer, frame_after}
use Rattle.frame.specs.Lines.{most_characters, text_call, line_call, line_bytes, line_reply, line_after}
use Rattle.frame.specs.CallContracts.{most_reply, Tells, Writes, Replies}

-- ---- write_reply
module _ (a b out : List ℕ) (h : length a ≤ length out) where
  abbrev front : List ℕ
  front = with_front a out

  -- One text at the front and one after it are both at the front.
  both : take (length a) front ++ (with_front b (take (length front - length a) (drop (length a) front)) ++ drop (length front - length a) (drop (length a) front)) ≡ with_front (a ++ b) out
  both =
      let rest = drop (length a) out in
      let long : length front ≡ length a + length rest = length-append a rest in
      let behind : drop (length a) front ≡ rest = drop-append_seam a rest in
      let size : length (drop (length a) front) ≡ length front - length a = length-drop (length a) front in
      let whole : take (length front - length a) (drop (length a) front) ≡ rest = take_all (length front - length a) (drop (length a) front) (omega arith) ∙ behind in
      let nothing : drop (length front - length a) (drop (length a) front) ≡ [] = drop_of_length-le (drop (length a) front) {i = length front - length a} (omega arith) in
      ap₂ ◌++◌ (take-append_seam a rest) (ap₂ ◌++◌ (ap (with_front b) whole) nothing ∙ append-nil (with_front b rest))
      ∙ ap (λ l. a ++ (b ++ l)) (drop-drop (length b) (length a) out ∙ ap (λ n. drop n out) (sym (length-append a b))) ∙ sym (append_assoc a b (drop (length (a ++ b)) out))

-- the whole output, with a part written from a place on
abbrev with_part : ℕ → (mid part : List ℕ) → List ℕ
with_part from mid part = take from mid ++ (part ++ drop (length mid - from) (drop from mid))

abbrev part_of : ℕ → List ℕ → List ℕ
part_of from mid = take (length mid - from) (drop from mid)

module _ (number : ℕ) (out : List ℕ) {mid : List ℕ} {head : code.Option ℕ} (e : Encodes (number ∷ []) out mid head) (f : most_reply ≤ length out) where
  head_is : head ≡ Some 2
  head_is = encodes_room e (omega arith)

  pub head_fits : IsSome head
  head_fits = rw head_is

  -- the number's text at the front, and the room behind it
  module _ {from : ℕ} (h : head ≡ Some from) where
    two : from ≡ 2
    two = let s = head_is in cc

    start : mid ≡ with_front (text_of (number ∷ [])) out
    start = e.output ∙ ap (λ t. with_front t out) (text_within_room (length out) (number ∷ []) (omega arith))

    long : length mid ≡ length out
    unfolding text_of
    long = let n = ap length start ∙ length-append (text_of (number ∷ [])) (drop 2 out) in omega (arith, length-drop 2 out)

    left : length (part_of from mid) ≡ length out - 2
    left = let t = two in let l = long in ap length (take_all (length mid - from) (drop from mid) (omega (arith, length-drop from mid))) ∙ length-drop from mid ∙ omega arith

    module _ (answer : List ℕ) {part : List ℕ} {tail : code.Option ℕ} (g : Encodes answer (part_of from mid) part tail) (l : length answer ≤ most_answer) where
      tail_is : tail ≡ Some (length answer * 2)
      tail_is = let n = left in encodes_room g (omega arith)

      pub tail_fits : IsSome tail
      tail_fits = rw tail_is

      pub written : {more : ℕ} → tail ≡ Some more → Writes number answer out (with_part from mid part) (from + more)
      unfolding text_of
      written {more} k =
          let first = text_of (number ∷ []) in
          let t : tail ≡ Some (length answer * 2) = tail_is in
          let more_is : more ≡ length answer * 2 = cc in
          let room = left in
          let two_is = two in
          let other : text_within (length (part_of from mid)) answer ≡ text_of answer = text_within_room (length (part_of from mid)) answer (omega arith) in
          let size : length (text_of answer) ≡ length answer * 2 = length_text_of answer in
          record {
            measured = omega arith;
            output =
                ap (with_part from mid) (g.output ∙ ap (λ t. with_front t (part_of from mid)) other)
                ∙ ap₂ (λ n m. with_part n m (with_front (text_of answer) (part_of n m))) two start ∙ both first (text_of answer) out (omega arith);
            inside = omega arith;
          }

-- ---- reply_by
-- a line's bytes written: what is replied, and the panel after it
module _ (m : Memory) (line out : List ℕ) {after : List ℕ} {later : Memory} {r : ℕ} where
  replied : (number : ℕ) (answer : List ℕ) → line_bytes (panel_in m) line ≡ number ∷ answer → Writes number answer out after r → panel_in later ≡ line_after (panel_in m) line
      → ((number ≡ 0 → ⊥) → later ≡ m) → Replies m line out after later r
  unfolding line_reply
  replied number answer e w q k =
      let same : line_reply (panel_in m) line ≡ text_of (number ∷ answer) = ap text_of e in
      record {
        measured = w.measured ∙ ap length (sym same);
        output = w.output ∙ ap (λ t. with_front t out) (sym same);
        stands = q;
        kept = λ n _ f h. k (λ z. h (ap (λ l. get_or l 0 0) (sym f ∙ e) ∙ z));
        inside = w.inside;
      }

  -- a line within the limit
  by_frame : (number : ℕ) (answer : List ℕ) (call : Option Call) → length line ≤ most_characters → text_call (bytes_of line) ≡ call → frame_reply (panel_in m) call ≡ number ∷ answer
      → Writes number answer out after r → panel_in later ≡ frame_after (panel_in m) call → ((number ≡ 0 → ⊥) → later ≡ m) → Replies m line out after later r
  unfolding line_bytes line_after line_call
  by_frame number answer call l e f w q k =
      let fits : ltb most_characters (length line) ≡ false = le-ltb most_characters (length line) l in
      replied number answer (rw (fits, e) f) w (rw (fits, e) q) k

-- a line that was read into a buffer with room for its bytes, or not
module _ (line room : List ℕ) {after : List ℕ} {d : Result ℕ DecodeError} (reads : Decodes line room after d) (h : length line ≤ length room * 2) where
  within : bytes_within (length room) line ≡ bytes_of line
  within = bytes_within_room (length room) line (omega arith)

  answered : d ≡ answer_of (is_text line) (bytes_of line)
  answered = reads.answer ∙ ap (answer_of (is_text line)) within

  pub unread : {e : DecodeError} → d ≡ Err e → bytes_of line ≡ none
  unread q = go (bytes_of line) answered
    where
      go : (o : Option (List ℕ)) → d ≡ answer_of (is_text line) o → o ≡ none
      go none e = refl
      go (some bytes) e = cc

  pub read : {n : ℕ} → d ≡ Ok n → bytes_of line ≡ some (take (n - 0) after)
  read {n} q = go (bytes_of line) answered (reads.output ∙ ap (λ o. output_of o room) within)
    where
      go : (o : Option (List ℕ)) → d ≡ answer_of (is_text line) o → after ≡ output_of o room → o ≡ some (take (n - 0) after)
      go none e f = cc
      go (some bytes) e f =
          let size : n ≡ length bytes = cc in
          let all : n - 0 ≡ length bytes = omega arith in
          ap some (sym (ap₂ take all f ∙ take-append_seam bytes (drop (length bytes) room)))

-- what a call wrote of its answer
module _ {m : Memory} {call : Option Call} {before after : List ℕ} {later : Memory} {t : Answer} (tells : Tells m call before after later t) where
  answer_front : take (t.length - 0) after ≡ if_accepted (frame_number (panel_in m) call) (frame_answer (panel_in m) call) []
  answer_front = go (eqb (frame_number (panel_in m) call) accepted) (frame_answer (panel_in m) call) tells.measured tells.output
    where
      go : (b : Bool) (answer : List ℕ) → t.length ≡ cond b (length answer) 0 → after ≡ cond b (with_front answer before) before → take (t.length - 0) after ≡ cond b answer []
      go true answer n e = let all : t.length - 0 ≡ length answer = omega arith in ap₂ take all e ∙ take-append_seam answer (drop (length answer) before)
      go false answer n e = let none : t.length - 0 ≡ 0 = omega arith in ap (λ k. take k after) none

  pub answer_inside : t.length ≤ length after
  answer_inside = go (eqb (frame_number (panel_in m) call) accepted) (frame_answer (panel_in m) call) tells.measured tells.output
    where
      go : (b : Bool) (answer : List ℕ) → t.length ≡ cond b (length answer) 0 → after ≡ cond b (with_front answer before) before → t.length ≤ length after
      go true answer n e = let size : length after ≡ length answer + length (drop (length answer) before) = ap length e ∙ length-append answer (drop (length answer) before) in omega arith
      go false answer n e = omega arith

  pub answer_fits : length before ≡ most_answer → length after ≡ length before → length (take (t.length - 0) after) ≤ most_answer
  answer_fits l e = let h = answer_inside in omega (arith, length-take-le (t.length - 0) after (omega arith))

module _ (m : Memory) (line room out : List ℕ) {room' : List ℕ} {d : Result ℕ DecodeError}
    (reads : Decodes line room room' d) (l : length line ≤ most_characters) (h : length line ≤ length room * 2) {written : List ℕ} {n : ℕ} where
  pub line_refused : {e : DecodeError} → Writes 12 [] out written n → d ≡ Err e → Replies m line out written m n
  line_refused w e = by_frame m line out 12 [] none l (ap text_call (unread line room reads h e)) refl w refl (λ _. refl)

  pub line_run : {to : ℕ} {before after : List ℕ} {later : Memory} {t : Answer} → Tells m (frame_call (take (to - 0) room')) before after later t
      → Writes t.number (take (t.length - 0) after) out written n → d ≡ Ok to → Replies m line out written later n
  line_run {to} {after = after} {t = t} tells w e =
      by_frame m line out t.number (take (t.length - 0) after) (frame_call (take (to - 0) room')) l (ap text_call (read line room reads h e))
      (ap₂ ◌∷◌ (sym tells.numbered) (sym (answer_front tells)))
      w
      tells.stands
      tells.kept

pub ruleset reply_by_ways = (line_refused, line_run, answer_inside, answer_fits, rules)

-- ---- reply
pub line_long : (m : Memory) (line out : List ℕ) {after : List ℕ} {r : ℕ} → Writes 1 [] out after r → most_characters < length line
    → Replies m line out after m r
unfolding line_bytes line_after line_call
line_long m line out w l =
    let long : ltb most_characters (length line) ≡ true = lt-ltb most_characters (length line) l in
    replied m line out 1 [] (rw long) w (rw long) (λ _. refl)

pub ruleset reply_ways = (line_long, rules)
