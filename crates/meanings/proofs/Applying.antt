-- What each entry of the array of `apply` is. A signed local holds bits, so a result speaks of what is read back from them. Assumes nothing.
use Prim.Native.Nat.{suc, ◌-◌, ◌+◌, ◌<◌}
use native.Mathlib.Omega.{arith}
use native.Mathlib.Decide.{ℕ_discrete, dec_lt}
use mathlib.Core.Path.{◌≡◌, refl, ap, ap₂, sym, ◌∙◌}
use mathlib.Core.Bool.{Bool, true, false, ◌||◌, ◌&&◌}
use mathlib.Core.List.{[], ◌∷◌}
use lib.Dec.{eqb}
use lib.IntN.{ℤ, pos, negsuc, ◌+ℤ◌, ◌-ℤ◌}
use lib.Signed.{lt_z, le_z}
use lib.ListN.{get_or}
use borrow.Author.Rules.{rules}
use borrow.Author.Tests.{lt-ltb, le-ltb, eq-eqb, ne_eqb}
use mir.Syntax.{w32}
use mir.Val.{SFits, of_z, to_z, bool_byte}
use mir.Facts.{to_z-of_z}
use Rattle.std.specs.Int.{saturate_signed, int_min, int_max}
use Rattle.std.proofs.lemmas.Int.{ints}
use Rattle.std.proofs.Math.Nat.{min-eq_left, min-eq_right}
use denote.Enum.Declared.{tag_of}
use Rattle.meanings.specs.contracts.Meaning.{the_type}
use Rattle.meanings.specs.Meanings.{Or, And, Less, AtMost, Equal, Sum, Difference, Smaller, Larger, is_true, truth, same, at_ends, applied}
use Rattle.meanings.specs.Enums.{said}
use Rattle.meanings.specs.declared.Meaning.{Meaning}
use Rattle.meanings.specs.declared.Meaning.TheVariants as code

abbrev read : ℤ → ℤ
read z = to_z w32 (of_z w32 z)

pub as_truth : (t : Bool) → pos (bool_byte t) ≡ truth t
as_truth true = refl
as_truth false = refl

pub ruleset truth_ways = (as_truth, rules)

-- arithmetic that stops at the ends
pub saturated : (z : ℤ) → saturate_signed w32 z ≡ at_ends z
saturated (pos n) = go (dec_lt 2147483647 n)
  where
    go : Dec (2147483647 < n) → saturate_signed w32 (pos n) ≡ at_ends (pos n)
    go (yes h) = rw (lt-ltb 2147483647 n h) (ap pos (min-eq_right (omega arith)))
    go (no h) = rw (le-ltb 2147483647 n (omega arith)) (ap pos (min-eq_left (omega arith)))
saturated (negsuc n) = go (dec_lt 2147483647 n)
  where
    go : Dec (2147483647 < n) → saturate_signed w32 (negsuc n) ≡ at_ends (negsuc n)
    go (yes h) = rw (lt-ltb 2147483647 n h) (ap negsuc (min-eq_right (omega arith)))
    go (no h) = rw (le-ltb 2147483647 n (omega arith)) (ap negsuc (min-eq_left (omega arith)))

same_bits : (a b : ℤ) → SFits w32 a → SFits w32 b → eqb (of_z w32 a) (of_z w32 b) ≡ same a b
same_bits (pos a) (pos b) f g = refl
same_bits (pos a) (negsuc b) f g = ne_eqb a (4294967296 - suc b) (λ e. omega (arith, f.sfits, g.sfits))
same_bits (negsuc a) (pos b) f g = ne_eqb (4294967296 - suc a) b (λ e. omega (arith, f.sfits, g.sfits))
same_bits (negsuc a) (negsuc b) f g = go (ℕ_discrete a b)
  where
    go : Dec (a ≡ b) → eqb (4294967296 - suc a) (4294967296 - suc b) ≡ eqb a b
    go (yes e) = eq-eqb (4294967296 - suc a) (4294967296 - suc b) (omega arith) ∙ sym (eq-eqb a b e)
    go (no h) = ne_eqb (4294967296 - suc a) (4294967296 - suc b) (λ e. h (omega (arith, f.sfits, g.sfits))) ∙ sym (ne_eqb a b h)

larger_is : (a b : ℤ) → int_max a b ≡ applied Larger a b
larger_is a b = grind (arith, ints)

module _ (a b : ℤ) (fa : SFits w32 a) (fb : SFits w32 b) where
  -- the two operands, as they are read
  both_read : {A : Type 0} (f : ℤ → ℤ → A) → f (read a) (read b) ≡ f a b
  both_read f = ap₂ f (to_z-of_z fa) (to_z-of_z fb)

  pub one_of_two : {p q : Bool} → p ≡ is_true (read a) → q ≡ is_true (read b) → {r : ℤ} → r ≡ truth (p || q) → r ≡ applied Or a b
  one_of_two {p} {q} e g h = h ∙ ap truth (ap₂ ◌||◌ e g) ∙ both_read (applied Or)

  pub two_of_two : {p q : Bool} → p ≡ is_true (read a) → q ≡ is_true (read b) → {r : ℤ} → r ≡ truth (p && q) → r ≡ applied And a b
  two_of_two {p} {q} e g h = h ∙ ap truth (ap₂ ◌&&◌ e g) ∙ both_read (applied And)

  module _ {r : ℤ} where
    pub less_read : r ≡ truth (lt_z (read a) (read b)) → r ≡ applied Less a b
    less_read h = h ∙ both_read (applied Less)

    pub at_most_read : r ≡ truth (le_z (read a) (read b)) → r ≡ applied AtMost a b
    at_most_read h = h ∙ both_read (applied AtMost)

    pub equal_read : r ≡ truth (eqb (of_z w32 a) (of_z w32 b)) → r ≡ applied Equal a b
    equal_read h = h ∙ ap truth (same_bits a b fa fb)

    pub sum_read : r ≡ saturate_signed w32 (read a +ℤ read b) → r ≡ applied Sum a b
    sum_read h = h ∙ saturated (read a +ℤ read b) ∙ both_read (applied Sum)

    pub difference_read : r ≡ saturate_signed w32 (read a -ℤ read b) → r ≡ applied Difference a b
    difference_read h = h ∙ saturated (read a -ℤ read b) ∙ both_read (applied Difference)

    pub smaller_read : r ≡ int_min (read a) (read b) → r ≡ applied Smaller a b
    smaller_read h = h ∙ both_read int_min

    pub larger_read : r ≡ int_max (read a) (read b) → r ≡ applied Larger a b
    larger_read h = h ∙ both_read int_max ∙ larger_is a b

-- a result as it is laid into the array, and read from it
made : {r : ℤ} → SFits w32 r → {v : ℤ} → r ≡ v → read (read r) ≡ v
made f e = ap read (to_z-of_z f) ∙ to_z-of_z f ∙ e

module _ (a b : ℤ) {r1 r2 r3 r4 r5 r6 r7 r8 r9 : ℤ}
    (f1 : SFits w32 r1) (f2 : SFits w32 r2) (f3 : SFits w32 r3) (f4 : SFits w32 r4) (f5 : SFits w32 r5)
    (f6 : SFits w32 r6) (f7 : SFits w32 r7) (f8 : SFits w32 r8) (f9 : SFits w32 r9)
    (e1 : r1 ≡ applied Or a b) (e2 : r2 ≡ applied And a b) (e3 : r3 ≡ applied Less a b) (e4 : r4 ≡ applied AtMost a b) (e5 : r5 ≡ applied Equal a b)
    (e6 : r6 ≡ applied Sum a b) (e7 : r7 ≡ applied Difference a b) (e8 : r8 ≡ applied Smaller a b) (e9 : r9 ≡ applied Larger a b) where
  pub picked : (m : Meaning)
      → read (get_or (read r1 ∷ read r2 ∷ read r3 ∷ read r4 ∷ read r5 ∷ read r6 ∷ read r7 ∷ read r8 ∷ read r9 ∷ []) (tag_of the_type m + 1 - 1) (pos 0)) ≡ applied (said m) a b
  picked code.Or = made f1 e1
  picked code.And = made f2 e2
  picked code.Less = made f3 e3
  picked code.AtMost = made f4 e4
  picked code.Equal = made f5 e5
  picked code.Sum = made f6 e6
  picked code.Difference = made f7 e7
  picked code.Smaller = made f8 e8
  picked code.Larger = made f9 e9

pub ruleset apply_ways = (one_of_two, two_of_two, less_read, at_most_read, equal_read, sum_read, difference_read, smaller_read, larger_read, picked, rules)
