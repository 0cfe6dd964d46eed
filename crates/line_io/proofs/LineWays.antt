-- What each way through the search for a line end gives, from what is known on it. Assumes nothing.
use mathlib.Core.Path.{◌≡◌, refl, sym, ap, ◌∙◌}
use mathlib.Core.Bool.{Bool, true, false, ◌||◌, not, cond, true≢false, or_assoc, or-false}
use mathlib.Core.List.{List, [], ◌∷◌, ◌++◌}
use Prim.Native.Nat.{ℕ, zero, suc, ◌+◌, ◌*◌, ◌-◌, ◌/◌, ◌<◌, ◌≤◌}
use native.Mathlib.Omega.{arith}
use borrow.Author.Tests.{lt-ltb, ltb-false, ltb-true}
use lib.Dec.{eqb, ltb}
use lib.ListN.{length, take, drop, length-drop, drop_of_length-le}
use lib.Seq.{drop-drop, take_all}
use Rattle.std.proofs.lemmas.Bool.Decides.{nat_tests}
use Rattle.std.specs.Prelude.{Option, Some, None, ◌==◌, nat_lt, position, unwrap_or}
use Rattle.std.specs.List.{position_or_len, slice_range}
use Rattle.std.specs.Simd.{first_chunks}
use Rattle.std.proofs.lemmas.List.Sums.{prefix_len-le-length}
use Rattle.line_io.specs.Lines.{before_end, line_end, has_end, Ends}

-- One byte more is tested.
pub has_end_more : (s : List ℕ) (c : ℕ) → has_end (s ++ (c ∷ [])) ≡ (has_end s || eqb c 10)
unfolding has_end
has_end_more [] c = or-false (eqb c 10)
has_end_more (d ∷ s) c = ap (λ b. eqb d 10 || b) (has_end_more s c) ∙ sym (or_assoc (eqb d 10) (has_end s) (eqb c 10))

-- ---- line_end
-- No line end stands among the first r characters.
pub record Skips (s : List ℕ) (r : ℕ) : Type 0 where
  pub place : before_end s ≡ r + before_end (drop r s)
  pub ends : has_end s ≡ has_end (drop r s)
  pub inside : r ≤ length s

skips_none : (s : List ℕ) → Skips s 0
skips_none s = record { place = omega arith; ends = refl; inside = omega arith }

skips_front : (i : ℕ) (s : List ℕ) → i ≤ length s → has_end (take i s) ≡ false → Skips s i
unfolding before_end has_end
skips_front zero s h e = skips_none s
skips_front (suc i) [] h e = absurd (omega arith)
skips_front (suc i) (c ∷ s) h e = by_test (λ f. skips_front i s (omega arith) f) (eqb c 10) refl e
  where
    by_test : (has_end (take i s) ≡ false → Skips s i) → (b : Bool) → eqb c 10 ≡ b → (b || has_end (take i s)) ≡ false → Skips (c ∷ s) (suc i)
    by_test f true q e = absurd (true≢false e)
    by_test f false q e = let k = f e in record { place = rw q (omega (arith, k.place)); ends = rw q k.ends; inside = omega (arith, k.inside) }

skips_more : (s : List ℕ) (i j : ℕ) → Skips s i → Skips (drop i s) j → Skips s (i + j)
skips_more s i j k l =
    let e = drop-drop j i s in
    record { place = rw (← e) (omega (arith, k.place, l.place)); ends = k.ends ∙ l.ends ∙ ap has_end e; inside = omega (arith, k.inside, l.inside, length-drop i s) }

-- the steps before the first one that has a line end
skips_steps : (n : ℕ) (s : List ℕ) → n * 32 ≤ length s → Skips s (position_or_len has_end (first_chunks 32 n s) * 32)
skips_steps zero s h = skips_none s
skips_steps (suc n) s h = by_test _ (skips_steps n (drop 32 s) (omega (arith, length-drop 32 s))) (has_end (take 32 s)) refl
  where
    by_test : (k : ℕ) → Skips (drop 32 s) (k * 32) → (b : Bool) → has_end (take 32 s) ≡ b → Skips s (cond (not b) (1 + k) 0 * 32)
    by_test k l true e = skips_none s
    by_test k l false e = let more : (1 + k) * 32 ≡ 32 + k * 32 = omega arith in rw more (skips_more s 32 (k * 32) (skips_front 32 s (omega arith) e) l)

position_is : {A : Type 0} (p : A → Bool) (xs : List A) → unwrap_or (position p xs) (length xs) ≡ position_or_len p xs
position_is p xs = by_test (nat_lt (position_or_len p xs) (length xs)) refl
  where
    by_test : (b : Bool) → nat_lt (position_or_len p xs) (length xs) ≡ b → unwrap_or (cond b (Some (position_or_len p xs)) None) (length xs) ≡ position_or_len p xs
    by_test true e = refl
    by_test false e = let h = prefix_len-le-length (λ x. not (p x)) xs in omega (arith, ltb-false (position_or_len p xs) (length xs) e)

-- the first line end
before_end_is : (s : List ℕ) → position_or_len (λ c. c == 10) s ≡ before_end s
unfolding before_end
before_end_is [] = refl
before_end_is (c ∷ s) = by_test (before_end_is s) (eqb c 10)
  where
    by_test : position_or_len (λ c. c == 10) s ≡ before_end s → (b : Bool) → cond (not b) (1 + position_or_len (λ c. c == 10) s) 0 ≡ cond b 0 (suc (before_end s))
    by_test e true = refl
    by_test e false = omega arith

ltb_more : (a b : ℕ) → ltb a b ≡ ltb (suc a) (suc b)
ltb_more a b = grind (arith, nat_tests)

pub has_end_inside : (s : List ℕ) → has_end s ≡ ltb (before_end s) (length s)
unfolding before_end has_end
has_end_inside [] = refl
has_end_inside (c ∷ s) = by_test (has_end_inside s) (eqb c 10)
  where
    by_test : has_end s ≡ ltb (before_end s) (length s) → (b : Bool) → (b || has_end s) ≡ ltb (cond b 0 (suc (before_end s))) (suc (length s))
    by_test e true = sym (lt-ltb 0 (suc (length s)) (omega arith))
    by_test e false = e ∙ ltb_more (before_end s) (length s)

first_end_is : (s : List ℕ) → position (λ c. c == 10) s ≡ cond (has_end s) (Some (before_end s)) None
first_end_is s = let e = before_end_is s in rw (e, has_end_inside s)

-- the steps that are skipped, by what was answered of them
skips_found : {s : List ℕ} {steps : List (List ℕ)} {o : Option ℕ} {k : ℕ} → steps ≡ first_chunks 32 (length s / 32) s → o ≡ position has_end steps
    → k ≡ unwrap_or o (length steps) → Skips s (k * 32)
skips_found {s} {steps} {k = k} e p q =
    let r : k ≡ position_or_len has_end (first_chunks 32 (length s / 32) s) = q ∙ ap (λ o. unwrap_or o (length steps)) p ∙ position_is has_end steps ∙ ap (position_or_len has_end) e in
    rw r (skips_steps (length s / 32) s (omega arith))

pub outside : (s : List ℕ) (from : ℕ) → length s < from → Ends s from None
unfolding has_end
outside s from h = let n = drop_of_length-le s {i = from} (omega arith) in record { place = rw n; inside = tt }

-- What was looked through, from a place on: whole steps, and the bytes after those.
module _ (s rest : List ℕ) (from : ℕ) {steps : List (List ℕ)} {o : Option ℕ} {k : ℕ} (h : from ≤ length s) (e : rest ≡ slice_range s from (length s))
    (f : steps ≡ first_chunks 32 (length rest / 32) rest) (p : o ≡ position has_end steps) (q : k ≡ unwrap_or o (length steps)) where
  skips : Skips rest (k * 32)
  skips = skips_found f p q

  rest_is : rest ≡ drop from s
  rest_is = e ∙ take_all (length s - from) (drop from s) (omega (arith, length-drop from s))

  ends_is : has_end (drop from s) ≡ has_end (drop (k * 32) rest)
  ends_is = ap has_end (sym rest_is) ∙ skips.ends

  pub steps_inside : k * 32 ≤ length rest
  steps_inside = skips.inside

  module _ {r : Option ℕ} (g : r ≡ position (λ c. c == 10) (take (length rest - k * 32) (drop (k * 32) rest))) where
    first_is : r ≡ cond (has_end (drop from s)) (Some (before_end (drop (k * 32) rest))) None
    first_is =
        g ∙ ap (position (λ c. c == 10)) (take_all (length rest - k * 32) (drop (k * 32) rest) (omega (arith, length-drop (k * 32) rest)))
        ∙ first_end_is (drop (k * 32) rest) ∙ ap (λ b. cond b (Some (before_end (drop (k * 32) rest))) None) (sym ends_is)

    pub not_found : r ≡ None → Ends s from None
    not_found n = by_test (has_end (drop from s)) refl first_is
      where
        by_test : (b : Bool) → has_end (drop from s) ≡ b → r ≡ cond b (Some (before_end (drop (k * 32) rest))) None → Ends s from None
        by_test true t g = cc
        by_test false t g = record { place = rw t; inside = tt }

    pub found : {more : ℕ} → r ≡ Some more → Ends s from (Some (from + k * 32 + more))
    unfolding line_end
    found {more} n = by_test (has_end (drop from s)) refl first_is
      where
        by_test : (b : Bool) → has_end (drop from s) ≡ b → r ≡ cond b (Some (before_end (drop (k * 32) rest))) None → Ends s from (Some (from + k * 32 + more))
        by_test true t g =
            let m : more ≡ before_end (drop (k * 32) rest) = cc in
            let b = ap before_end rest_is in
            let i : ltb (before_end (drop from s)) (length (drop from s)) ≡ true = sym (has_end_inside (drop from s)) ∙ t in
            let l = ltb-true (before_end (drop from s)) (length (drop from s)) i in
            let place : from + k * 32 + more ≡ from + before_end (drop from s) = omega (arith, skips.place) in
            record { place = rw t (ap Some place); inside = (omega arith, omega (arith, length-drop from s)) }
        by_test false t g = cc
