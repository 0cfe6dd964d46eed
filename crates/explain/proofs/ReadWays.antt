-- What taking the bytes of a read, and a turn, gives, from what is known on it. Assumes nothing.
use mathlib.Core.Path.{◌≡◌, refl, sym, ap, ap₂, ◌∙◌}
use mathlib.Core.Bool.{Bool, true, false, ◌&&◌, true≢false}
use mathlib.Core.List.{List, [], ◌∷◌, ◌++◌}
use Prim.Native.Nat.{ℕ, ◌+◌, ◌<◌, ◌≤◌}
use native.Mathlib.Numerals.{add-one}
use native.Mathlib.Omega.{arith}
use borrow.Author.Rules.{rules}
use lib.ListN.{length, get_or, take}
use lib.Seq.{take-suc, take_all}
use Rattle.explain.specs.Lines.{said, last_said, Progress, progress, with_byte, with_bytes, after_read, after_reads, GoOn}
use Rattle.explain.specs.CallContracts.{Steps, block, out_bytes, most_said, Puts, Takes, Ends, Turns, Runs}
use Rattle.explain.proofs.Laws.{bytes_append}

-- ---- take_bytes
-- The first i bytes are taken.
pub record Taking (bytes before line out : List ℕ) (i : ℕ) : Type 0 where
  pub holds : Takes (with_bytes (progress [] before) (take i bytes)) line out 0 i
  pub place : i ≤ length bytes
  pub few : length bytes ≤ block

pub taking_starts : (bytes line out : List ℕ) → length bytes ≤ block → out ≡ [] → Taking bytes line line out 0
unfolding with_bytes
taking_starts bytes line out f o = record { holds = record { keeps = refl; writes = o; inside = rw o (omega arith) }; place = omega arith; few = f }

module _ {bytes before line out : List ℕ} {i : ℕ} (t : Taking bytes before line out i) where
  byte_more : i < length bytes → with_bytes (progress [] before) (take (i + 1) bytes) ≡ with_byte (progress out line) (get_or bytes i 0)
  unfolding with_bytes
  byte_more h =
      ap (with_bytes (progress [] before)) (ap (λ k. take k bytes) (add-one i) ∙ take-suc bytes i 0 h)
      ∙ bytes_append (progress [] before) (take i bytes) (get_or bytes i 0 ∷ [])
      ∙ ap₂ (λ w k. with_byte (progress w k) (get_or bytes i 0)) (sym t.holds.writes) (sym t.holds.keeps)

  pub taking_more : {line' out' : List ℕ} → Takes (with_byte (progress out line) (get_or bytes i 0)) line' out' (length out) 1
      → i < length bytes → Taking bytes before line' out' (i + 1)
  taking_more w h =
      let e = byte_more h in
      record {
        holds = record { keeps = w.keeps ∙ ap (λ (p : Progress). p.kept) (sym e); writes = w.writes ∙ ap (λ (p : Progress). p.written) (sym e); inside = omega (arith, w.inside, t.holds.inside) };
        place = omega arith;
        few = t.few;
      }

  pub reply_room : i < length bytes → length out + most_said ≤ out_bytes
  reply_room h = omega (arith, t.holds.inside, t.few)

  pub taking_done : length bytes ≤ i → Takes (with_bytes (progress [] before) bytes) line out 0 (length bytes)
  taking_done h =
      let n : i ≡ length bytes = omega (arith, t.place) in
      let e : take i bytes ≡ bytes = take_all i bytes h in
      record {
        keeps = t.holds.keeps ∙ ap (λ s. (with_bytes (progress [] before) s).kept) e;
        writes = t.holds.writes ∙ ap (λ s. (with_bytes (progress [] before) s).written) e;
        inside = omega (arith, t.holds.inside);
      }

pub ruleset bytes_ways = (taking_starts, taking_more, reply_room, taking_done, rules)

-- ---- finish
pub ends_none : (line : List ℕ) {after out : List ℕ} → length line ≡ 0 → after ≡ [] → out ≡ [] → Ends line after out
unfolding last_said
ends_none [] h k o = record { keeps = k; writes = o; inside = rw o (omega arith) }
ends_none (c ∷ line) h k o = absurd (omega arith)

pub ends_line : (line : List ℕ) {after before out : List ℕ} → Puts line before out → before ≡ [] → (length line ≡ 0 → ⊥) → after ≡ [] → Ends line after out
unfolding last_said
ends_line [] w b h k = absurd (h refl)
ends_line (c ∷ line) {before = before} {out} w b h k =
    let e = ap (λ l. l ++ said (c ∷ line)) b in
    record { keeps = k; writes = w.written ∙ e; inside = omega (arith, w.inside, ap length b) }

pub ruleset finish_ways = (ends_none, ends_line, rules)

-- ---- turn
and_left : (a b : Bool) → (a && b) ≡ true → a ≡ true
and_left true b e = refl
and_left false b e = absurd (true≢false (sym e))

pub step_failed : (before bytes : List ℕ) {line out : List ℕ} → line ≡ [] → out ≡ [] → Steps (after_read true before bytes) line out false
unfolding after_read
step_failed before bytes k o = record { keeps = k; writes = o; goes = refl }

pub step_ended : {before line out : List ℕ} → Ends before line out → Steps (after_read false before []) line out false
unfolding after_read
step_ended w = record { keeps = w.keeps; writes = w.writes; goes = refl }

pub step_gave : (before bytes : List ℕ) {line out : List ℕ} {count : ℕ} → Takes (with_bytes (progress [] before) bytes) line out 0 count → (length bytes ≡ 0 → ⊥)
    → Steps (after_read false before bytes) line out true
unfolding after_read
step_gave before [] w h = absurd (h refl)
step_gave before (c ∷ bytes) w h = record { keeps = w.keeps; writes = w.writes; goes = refl }

-- the program goes on only if the write succeeds too
pub turn_made : (failed : Bool) (before bytes : List ℕ) {line out : List ℕ} {go : Bool} (ok : Bool) → Steps (after_read failed before bytes) line out go → Turns before line out (go && ok)
turn_made failed before bytes {go = go} ok s = record { failed = failed; bytes = bytes; keeps = s.keeps; writes = s.writes; goes = λ h. sym s.goes ∙ and_left go ok h }

-- ---- run
pub runs_none : {line out : List ℕ} → line ≡ [] → out ≡ [] → Runs line out true
unfolding after_reads GoOn
runs_none k o = record { reads = []; keeps = k; writes = o; in_turn = tt; goes = λ _. refl }

pub runs_more : {line out line' out' : List ℕ} {go : Bool} → Runs line out true → Turns line line' out' go → Runs line' out' go
unfolding after_reads GoOn
runs_more {line} a t =
    let same : line ≡ (after_reads a.reads).made.kept = a.keeps in
    record {
      reads = (t.failed, t.bytes) ∷ a.reads;
      keeps = t.keeps ∙ ap (λ k. (after_read t.failed k t.bytes).made.kept) same;
      writes = t.writes ∙ ap (λ k. (after_read t.failed k t.bytes).made.written) same;
      in_turn = (a.goes refl, a.in_turn);
      goes = λ g. ap (λ k. (after_read t.failed k t.bytes).goes) (sym same) ∙ t.goes g;
    }
