-- What each way through a read and a turn gives, from what is known on it. Assumes nothing.
use mathlib.Core.Path.{◌≡◌, refl, sym, ap, ap₂, subst, ◌∙◌}
use mathlib.Core.Bool.{Bool, true, false, true≢false}
use mathlib.Core.List.{List, [], ◌∷◌, ◌++◌, append-nil}
use Prim.Native.Nat.{ℕ, zero, suc, ◌+◌, ◌-◌, ◌<◌, ◌≤◌, min}
use native.Mathlib.Omega.{arith}
use borrow.Author.Tests.{le-leb, lt-ltb, le-ltb, ltb-true, ltb-false}
use borrow.Rule.Slice.PartMut.{put_mid, take_put}
use lib.Dec.{ltb}
use lib.ListN.{length, take, drop, length-drop}
use lib.Seq.{take-take, take-nil, take_all, take_at, drop_at, take-append-le, take-add, length-take-le}
use Rattle.std.specs.Prelude.{Result, Ok, Err}
use Rattle.std.proofs.lemmas.List.{nil_from_length}
use Rattle.std.specs.declared.ops.ControlFlow.TheVariants.{Continue, Break}
use Rattle.run.specs.Panel.{Panel}
use Rattle.line_io.specs.Moves.{moved_to_front}
use Rattle.panel.specs.Lines.{panel_at_end, last_reply}
use Rattle.panel.specs.CallContracts.{AnswersRead, block, most_kept, most_filled, Answers, Fetches, Finishes, Hands}
use Rattle.panel.specs.Runs.{more, failed, ended, gave, Takes, Steps, Turns}

-- ---- read
-- a part within the front of a list is a part of the list
part_of_front : (l : List ℕ) (from k n : ℕ) → from + k ≤ n → take k (drop from (take n l)) ≡ take k (drop from l)
part_of_front l zero k n h = take-take k n l (omega arith)
part_of_front [] (suc from) k n h = ap (λ s. take k (drop (suc from) s)) (take-nil n)
part_of_front (c ∷ l) (suc from) k zero h = absurd (omega arith)
part_of_front (c ∷ l) (suc from) k (suc n) h = part_of_front l from k n (omega arith)

-- what is moved stands at the front
moved_front : (s : List ℕ) (from to k : ℕ) → to ≤ length s → k ≡ to - from → take k (moved_to_front from to s) ≡ take k (drop from s)
unfolding moved_to_front
moved_front s from to k h e =
    let l : length (take (to - from) (drop from s)) ≡ to - from = length-take-le (to - from) (drop from s) (rw length-drop (omega arith)) in
    rw (le-leb to (length s) h) (take_at (take (to - from) (drop from s)) (drop (to - from) s) k (l ∙ sym e) ∙ ap (λ n. take n (drop from s)) (sym e))

-- what stands before a part that was written, and the part's first elements
take-put_more : (a n : ℕ) (l part : List ℕ) (count : ℕ) → a ≤ length l → count ≤ length part
    → take (a + count) (put_mid a n l part) ≡ take a l ++ take count part
take-put_more a n l part count i h =
    take-add a count (put_mid a n l part)
    ∙ ap₂ (λ x y. x ++ take count y) (take_put a n l part i) (drop_at (take a l) (part ++ drop n (drop a l)) a (length-take-le a l i))
    ∙ ap (λ y. take a l ++ y) (take-append-le count part (drop n (drop a l)) h)

module _ (bytes : List ℕ) (rest to : ℕ) {left mid : List ℕ} {to' : ℕ} (v : left ≡ drop rest (take to bytes)) (h : rest ≤ to) (l : to ≤ length bytes)
    (m : to' ≡ min to (rest + most_kept)) (e : mid ≡ moved_to_front rest to' bytes) where
  -- as many of what is left as are kept of an unfinished line
  kept_front : take (to' - rest) mid ≡ take most_kept left
  kept_front =
      ap (take (to' - rest)) e ∙ moved_front bytes rest to' (to' - rest) (omega arith) refl ∙ sym (part_of_front bytes rest (to' - rest) to (omega arith))
      ∙ ap (take (to' - rest)) (sym v) ∙ by_test (ltb most_kept (to - rest)) refl
    where
      by_test : (b : Bool) → ltb most_kept (to - rest) ≡ b → take (to' - rest) left ≡ take most_kept left
      by_test true t = let n : to' - rest ≡ most_kept = omega (arith, ltb-true most_kept (to - rest) t) in ap (λ n. take n left) n
      by_test false t =
          let s = ltb-false most_kept (to - rest) t in
          let n : length left ≡ to - rest = ap length v ∙ length-drop rest (take to bytes) ∙ ap (λ k. k - rest) (length-take-le to bytes l) in
          take_all (to' - rest) left (omega arith) ∙ sym (take_all most_kept left (omega arith))

  module _ (part : List ℕ) (n : ℕ) (i : to' - rest ≤ length mid) where
    pub fetched_none : {E : Type 0} (error : E) → Fetches left (take (to' - rest) (put_mid (to' - rest) n mid part)) (Err error)
    fetched_none error = record { bytes = []; front = take_put (to' - rest) n mid part i ∙ kept_front ∙ sym (append-nil (take most_kept left)); gave = refl }

    pub fetched : {E : Type 0} (count : ℕ) → count ≤ length part → count ≤ block
        → Fetches {E = E} left (take (to' - rest + count) (put_mid (to' - rest) n mid part)) (Ok count)
    fetched count h b = record {
      bytes = take count part;
      front = take-put_more (to' - rest) n mid part count i h ∙ ap (λ l. l ++ take count part) kept_front;
      gave = (length-take-le count part h, b);
    }

-- ---- take_read
pub read_failed : {p : Panel} {left mid out left' : List ℕ} {E : Type 0} {error : E} → Fetches left mid (Err error) → out ≡ []
    → Steps p left false left' out false p
unfolding Takes
read_failed f e = record { event = failed; kind = refl; takes = (e, refl); goes = refl }

module _ {p : Panel} {left mid out left' : List ℕ} {later : Panel} {E : Type 0} {count : ℕ} (f : Fetches {E = E} left mid (Ok count)) where
  pub read_ended : {line : List ℕ} → count ≡ 0 → line ≡ mid → Finishes p line out later → Steps p left false left' out false later
  unfolding Takes
  read_ended z l w =
      let none : f.bytes ≡ [] = nil_from_length f.bytes (f.gave.0 ∙ z) in
      let front = l ∙ f.front ∙ ap (λ l. take most_kept left ++ l) none ∙ append-nil (take most_kept left) in
      record { event = ended; kind = refl; takes = (w.written ∙ ap (last_reply p) front, w.stands ∙ ap (panel_at_end p) front); goes = refl }

  pub read_gave : Answers p mid out left' later → Steps p left false left' out true later
  unfolding Takes
  read_gave w = record { event = gave f.bytes; kind = refl; takes = rw f.front at w; goes = refl }

-- what a read gave, answered
module _ {p : Panel} {mid out left' : List ℕ} {E : Type 0} {r : Result ℕ E} where
  pub answered_cut : (e : E) → r ≡ Err e → out ≡ [] → AnswersRead p mid r out left' false p
  answered_cut e q o = record { cut = λ _ _. (o, refl, refl); ended = λ z. absurd (let k : Err e ≡ Ok 0 = sym q ∙ z in cc); went_on = λ count z h. absurd (let k : Err e ≡ Ok count = sym q ∙ z in cc) }

  module _ {later : Panel} (count : ℕ) (q : r ≡ Ok count) where
    pub answered_end : {line : List ℕ} → count ≡ 0 → line ≡ mid → Finishes p line out later → AnswersRead p mid r out left' false later
    answered_end z l w =
        record {
          cut = λ e y. absurd (let k : Ok count ≡ Err e = sym q ∙ y in cc);
          ended = λ _. (subst (λ s. Finishes p s out later) l w, refl);
          went_on = λ n y h. absurd (h cc);
        }

    pub answered_more : (count ≡ 0 → ⊥) → Answers p mid out left' later → AnswersRead p mid r out left' true later
    answered_more n w = record { cut = λ e y. absurd (let k : Ok count ≡ Err e = sym q ∙ y in cc); ended = λ y. absurd (n cc); went_on = λ _ _ _. (w, refl) }

pub read_answered : {p : Panel} {left mid out left' : List ℕ} {later : Panel} {E : Type 0} {go : Bool} (r : Result ℕ E) → Fetches left mid r
    → AnswersRead p mid r out left' go later → Steps p left false left' out go later
read_answered {p} {left} {mid} {out} {left'} {later} {E} {go} (Err e) f a =
    let (o, s, g) = a.cut e refl in
    subst (λ b. Steps p left false left' out b later) (sym g) (subst (λ l. Steps p left false left' out false l) (sym s) (read_failed f o))
read_answered {p} {left} {mid} {out} {left'} {later} (Ok zero) f a = let (w, g) = a.ended refl in subst (λ b. Steps p left false left' out b later) (sym g) (read_ended f refl refl w)
read_answered {p} {left} {mid} {out} {left'} {later} (Ok (suc n)) f a =
    let (w, g) = a.went_on (suc n) refl (λ z. omega arith) in subst (λ b. Steps p left false left' out b later) (sym g) (read_gave f w)

-- ---- step
module _ {p : Panel} {left out left' : List ℕ} {later : Panel} (handed : ℕ) where
  pub stepped_more : Answers p left out left' later → most_filled < handed → Steps p left (ltb most_filled handed) left' out true later
  unfolding Takes
  stepped_more w h = record { event = more; kind = sym (lt-ltb most_filled handed h); takes = w; goes = refl }

  pub stepped_read : {go : Bool} → Steps p left false left' out go later → handed ≤ most_filled → Steps p left (ltb most_filled handed) left' out go later
  stepped_read t h = rw (le-ltb most_filled handed h) t

-- ---- turn
module _ {p : Panel} {left left' out : List ℕ} {full go : Bool} {later : Panel} (t : Steps p left full left' out go later)
    {count : ℕ} (h : Hands out count) where
  pub turned_on : go ≡ true → Turns p left full left' out (Continue count) later
  turned_on e = record { goes_on = go; steps = t; handed = h.all; goes = λ _. e }

  pub turned_last : Turns p left full left' out (Break count) later
  turned_last = record { goes_on = go; steps = t; handed = h.all; goes = λ e. absurd (true≢false (sym e)) }
