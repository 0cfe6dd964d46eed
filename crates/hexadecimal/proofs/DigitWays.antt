-- What each way through the functions of one digit gives, from what is known on it. Assumes nothing.
use mathlib.Core.Path.{◌≡◌, refl}
use mathlib.Core.Bool.{Bool, true, false, ◌&&◌, ◌||◌, false≢true}
use Prim.Native.Nat.{ℕ, ◌+◌, ◌*◌, ◌-◌, ◌/◌, ◌%◌, ◌<◌, ◌≤◌}
use native.Mathlib.Omega.{arith}
use borrow.Author.Tests.{lt-ltb, le-ltb, leb-true}
use borrow.Author.Rules.{rules}
use lib.Dec.{leb}
use Rattle.hexadecimal.specs.Digits.{between, digit_of, is_digit, Valued, byte_of, character_of}

-- ---- value
pub both_true : (a b : Bool) → (a && b) ≡ true → (a ≡ true) × (b ≡ true)
both_true true b e = (refl, e)
both_true false b e = absurd (false≢true e)

-- a character between two others
pub is_between : (low high c : ℕ) → between low high c ≡ true → (low ≤ c) × (c ≤ high)
is_between low high c e = let (l, h) = both_true (leb low c) (leb c high) e in (leb-true low c l, leb-true c high h)

pub valued : (c : ℕ) → is_digit c ≡ true → Valued c (c % 16 + c / 64 * 9)
unfolding is_digit digit_of
valued c = by_class (between 48 57 c) (between 65 70 c) (between 97 102 c) refl refl refl
  where
    by_class : (p q r : Bool) → between 48 57 c ≡ p → between 65 70 c ≡ q → between 97 102 c ≡ r → (p || q || r) ≡ true → Valued c (c % 16 + c / 64 * 9)
    by_class true q r d u l h = let (low, high) = is_between 48 57 c d in record { value = rw d (omega arith); small = omega arith }
    by_class false true r d u l h = let (low, high) = is_between 65 70 c u in record { value = rw (d, u) (omega arith); small = omega arith }
    by_class false false true d u l h = let (low, high) = is_between 97 102 c l in record { value = rw (d, u, l) (omega arith); small = omega arith }
    by_class false false false d u l h = absurd (false≢true h)

pub ruleset value_ways = (valued, rules)

-- ---- byte_of
pub pair_byte : (c d h l : ℕ) → h ≡ digit_of c → l ≡ digit_of d → h * 16 + l ≡ byte_of c d
unfolding byte_of
pair_byte c d h l p q = omega arith

pub ruleset byte_ways = (pair_byte, rules)

-- ---- character
pub decimal : (v : ℕ) → v < 10 → v + 48 ≡ character_of v
unfolding character_of
decimal v h = simp (lt-ltb v 10 h)

pub letter : (v : ℕ) → 10 ≤ v → v - 10 + 97 ≡ character_of v
unfolding character_of
letter v h = simp (le-ltb v 10 h)

pub ruleset character_ways = (decimal, letter, rules)
