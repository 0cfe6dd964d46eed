-- The bits of a word under and, or, complement, shift and mask. Assumes nothing.
use mathlib.Core.Path.{◌≡◌, refl, sym, ap, ◌∙◌}
use mathlib.Core.Bool.{Bool, true, false, not, ◌&&◌, ◌||◌, and-true, and-false}
use Prim.Native.Nat.{ℕ, zero, suc, ◌+◌, ◌-◌, ◌*◌, ◌/◌, ◌%◌, ◌^◌, ◌<◌}
use native.Mathlib.Nat.{mod-lt, zero-lt-suc, mod-eq_of_lt, one-mul, zero-mul, zero-add, div_self, div-eq_of_lt, zero-div, mul-mod_left, pow-suc, not-suc-le-zero, le_of_suc-le-suc, div-one, mod-one, div-add-mod'}
use native.Mathlib.Omega.{arith}
use native.Mathlib.Decide.{dec_lt, ℕ_discrete}
use native.Mathlib.Numerals.{add-one, one-add}
use borrow.Author.Tests.{eq-eqb, ne_eqb}
use lib.Dec.{eqb}
use lib.Arith.{digits_div, digits_mod}
use lib.Pow.{pow_pos, pow-lt, pow-add, shl-shr, shr-shr, shr_lt, mod-pow-add}
use lib.Bits.{bit_and, bit_or, and_shr, and_mod, or_shr, or_mod, and_mask}
use Rattle.disambiguation.specs.Below.{all_below}
use Rattle.relation.specs.Relation.{bit_of}

-- An operation on single bits that is the one on truth values.
module _ (op : ℕ → ℕ → ℕ) (truth : Bool → Bool → Bool) (none : eqb (op 0 0) 1 ≡ truth false false) (right : eqb (op 0 1) 1 ≡ truth false true)
    (left : eqb (op 1 0) 1 ≡ truth true false) (both : eqb (op 1 1) 1 ≡ truth true true) where
  on_bits : (x y : ℕ) → x < 2 → y < 2 → eqb (op x y) 1 ≡ truth (eqb x 1) (eqb y 1)
  on_bits zero zero h k = none
  on_bits zero (suc zero) h k = right
  on_bits (suc zero) zero h k = left
  on_bits (suc zero) (suc zero) h k = both
  on_bits zero (suc (suc y)) h k = absurd (omega arith)
  on_bits (suc zero) (suc (suc y)) h k = absurd (omega arith)
  on_bits (suc (suc x)) y h k = absurd (omega arith)

low : (x : ℕ) → x % 2 < 2
low x = mod-lt x (zero-lt-suc 1)

pub bit_and_lem : (x y c : ℕ) → bit_of (bit_and x y) c ≡ (bit_of x c && bit_of y c)
unfolding bit_of
bit_and_lem x y c =
    ap (λ (d : ℕ). eqb (d % 2) 1) (and_shr x y c) ∙ ap (λ (d : ℕ). eqb d 1) (and_mod (x / 2 ^ c) (y / 2 ^ c) 1)
    ∙ on_bits bit_and ◌&&◌ refl refl refl refl (x / 2 ^ c % 2) (y / 2 ^ c % 2) (low (x / 2 ^ c)) (low (y / 2 ^ c))

pub bit_or_lem : (x y c : ℕ) → bit_of (bit_or x y) c ≡ (bit_of x c || bit_of y c)
unfolding bit_of
bit_or_lem x y c =
    ap (λ (d : ℕ). eqb (d % 2) 1) (or_shr x y c) ∙ ap (λ (d : ℕ). eqb d 1) (or_mod (x / 2 ^ c) (y / 2 ^ c) 1)
    ∙ on_bits bit_or ◌||◌ refl refl refl refl (x / 2 ^ c % 2) (y / 2 ^ c % 2) (low (x / 2 ^ c)) (low (y / 2 ^ c))

pub bit_zero : (c : ℕ) → bit_of 0 c ≡ false
unfolding bit_of
bit_zero c = rw zero-div

-- 2 ^ b has bit b and no other
pub bit_pow : (b c : ℕ) → bit_of (2 ^ b) c ≡ eqb b c
unfolding bit_of
bit_pow b c =
    elim (ℕ_discrete b c) [
      | yes e ↦ rw (sym e, div_self (pow_pos b)) (sym (eq-eqb b b refl))
      | no ne ↦ elim (dec_lt b c) [ yes l ↦ rw (div-eq_of_lt (pow-lt l)) (sym (ne_eqb b c ne)) | no l ↦ above (b - suc c) (omega (arith, ne)) ne ]
    ]
  where
    above : (d : ℕ) → b ≡ suc d + c → (b ≡ c → ⊥) → eqb (2 ^ b / 2 ^ c % 2) 1 ≡ eqb b c
    above d e ne =
        let s : 2 ^ b / 2 ^ c ≡ 2 ^ d * 2 = rw (e, pow-add, shl-shr (2 ^ suc d) c) (pow-suc 2 d) in
        rw (s, mul-mod_left (2 ^ d) 2) (sym (ne_eqb b c ne))

-- `1 << b` in a word of w bits
pub one_shifted : (b w : ℕ) → b < w → (1 * 2 ^ b) % 2 ^ w ≡ 2 ^ b
one_shifted b w h = ap (λ (x : ℕ). x % 2 ^ w) (one-mul (2 ^ b)) ∙ mod-eq_of_lt (pow-lt h)

-- the lowest bit, and the bits above it
pub bit_lowest : (x : ℕ) → bit_of x 0 ≡ eqb (x % 2) 1
unfolding bit_of
bit_lowest x = rw div-one

pub bit_above : (x c : ℕ) → bit_of x (suc c) ≡ bit_of (x / 2) c
unfolding bit_of
bit_above x c = rw (← one-add c, ← shr-shr x 1 c)

half : {x : ℕ} (w : ℕ) → x < 2 ^ suc w → x / 2 < 2 ^ w
half {x} w h = shr_lt w 1 (rw (add-one w) h)

not_halves : (w y : ℕ) → y < 2 ^ suc w → (2 ^ suc w - 1) - y ≡ ((2 ^ w - 1) - y / 2) * 2 + (1 - y % 2)
not_halves w y h = omega (arith, div-add-mod' y 2, low y, pow_pos w, half w h)

flip : (d : ℕ) → d < 2 → eqb (1 - d) 1 ≡ not (eqb d 1)
flip zero h = refl
flip (suc zero) h = refl
flip (suc (suc d)) h = absurd (omega arith)

flip_low : (d : ℕ) → 1 - d < 2
flip_low d = omega arith

-- the complement in a word of w bits
pub bit_not : (w y c : ℕ) → y < 2 ^ w → c < w → bit_of ((2 ^ w - 1) - y) c ≡ not (bit_of y c)
bit_not zero y c h l = absurd (not-suc-le-zero l)
bit_not (suc w) y zero h l =
    bit_lowest ((2 ^ suc w - 1) - y) ∙ ap (λ (x : ℕ). eqb (x % 2) 1) (not_halves w y h)
    ∙ ap (λ (d : ℕ). eqb d 1) (digits_mod ((2 ^ w - 1) - y / 2) (flip_low (y % 2))) ∙ flip (y % 2) (low y)
    ∙ ap not (sym (bit_lowest y))
bit_not (suc w) y (suc c) h l =
    bit_above ((2 ^ suc w - 1) - y) c ∙ ap (λ (x : ℕ). bit_of (x / 2) c) (not_halves w y h)
    ∙ ap (λ (x : ℕ). bit_of x c) (digits_div ((2 ^ w - 1) - y / 2) (flip_low (y % 2)))
    ∙ bit_not w (y / 2) c (half w h) (le_of_suc-le-suc l) ∙ ap not (sym (bit_above y c))

-- a highest digit d above the rest
top_digit : (d p r : ℕ) → d < 2 → 0 < p → eqb (d * p + r) 0 ≡ (eqb r 0 && not (eqb d 1))
top_digit zero p r h k = rw (zero-mul, zero-add) (sym (and-true (eqb r 0)))
top_digit (suc zero) p r h k = ne_eqb (1 * p + r) 0 (λ e. omega arith) ∙ sym (and-false (eqb r 0))
top_digit (suc (suc d)) p r h k = absurd (omega arith)

low_clear : (x n : ℕ) → eqb (x % 2 ^ n) 0 ≡ all_below n (λ c. not (bit_of x c))
unfolding all_below bit_of
low_clear x zero = rw mod-one
low_clear x (suc n) =
    ap (λ (z : ℕ). eqb z 0) (ap (λ (k : ℕ). x % 2 ^ k) (sym (one-add n)) ∙ mod-pow-add x 1 n)
    ∙ top_digit (x / 2 ^ n % 2) (2 ^ n) (x % 2 ^ n) (low (x / 2 ^ n)) (pow_pos n)
    ∙ ap (λ (t : Bool). t && not (eqb (x / 2 ^ n % 2) 1)) (low_clear x n)

-- under the mask of the bits below n a word is 0 exactly if these bits are clear
pub masked_clear : (n x : ℕ) → eqb (bit_and x (2 ^ n - 1)) 0 ≡ all_below n (λ c. not (bit_of x c))
masked_clear n x = ap (λ (z : ℕ). eqb z 0) (and_mask x n) ∙ low_clear x n

-- the test `(x >> b) & 1 == 1`
pub bit_test : (x b : ℕ) → eqb (bit_and (x / 2 ^ b) 1) 1 ≡ bit_of x b
unfolding bit_of
bit_test x b = ap (λ (d : ℕ). eqb d 1) (and_mask (x / 2 ^ b) 1)
