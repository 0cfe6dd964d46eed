-- The sets of bits behind the binding powers, and their ones. Assumes nothing.
use mathlib.Core.Path.{◌≡◌, refl, sym, ap, ap₂, ◌∙◌}
use mathlib.Core.Bool.{Bool, true, false, not, ◌&&◌, cond, and-true}
use mathlib.Core.List.{List}
use Prim.Native.Nat.{ℕ, zero, suc, ◌+◌, ◌-◌, ◌*◌, ◌/◌, ◌%◌, ◌^◌, ◌<◌}
use native.Mathlib.Decide.{dec_lt}
use native.Mathlib.Nat.{add_comm, mod-lt}
use native.Mathlib.Numerals.{one-add}
use native.Mathlib.Omega.{arith}
use borrow.Author.Tests.{lt-ltb, le-ltb}
use mir.Val.{Fits}
use mir.Syntax.{w32}
use lib.Bits.{bit_and, and_mask}
use lib.Count.{ones, ones_cat, ones-ones}
use lib.Dec.{eqb, ltb}
use lib.ListN.{get_or}
use lib.Pow.{pow_pos, split, shr_lt}
use Rattle.expression.specs.Limits.{most_operators}
use Rattle.expression.specs.Lists.{one_if}
use Rattle.expression.specs.Token.{Infix, Prefix, Operators, class}
use Rattle.expression.proofs.Classes.{infix_byte}
use Rattle.disambiguation.specs.Below.{count_below}
use Rattle.disambiguation.specs.Powers.{is_infix, below, left_power}
use Rattle.disambiguation.proofs.Counts.{count_same}
use Rattle.disambiguation.proofs.Standing.{not_infix_lem}
use Rattle.relation.specs.Relation.{bit_of, closes_in}
use Rattle.relation.specs.Words.{without, SetOf, outside_of}
use Rattle.relation.proofs.Bits.{bit_and_lem}
use Rattle.relation.proofs.WordSets.{where_bit, bit_without, mask_bit}
use Rattle.relation.proofs.WordTests.{closes_bit}
use Rattle.sheet.specs.Layout.{prefix_word_at, operators_of, prefix_in}
use Rattle.sheet.specs.BindingPowers.{infix_in, capped, closers_of, left_by}
use Rattle.sheet.proofs.PrefixWord.{class_in}
use Rattle.sheet.proofs.LayoutWays.{prefix_bit}

-- ---- the lowest bits of a word
low_bit : (x w c : ℕ) → c < w → bit_of (x % 2 ^ w) c ≡ bit_of x c
low_bit x w c h =
    ap (λ (z : ℕ). bit_of z c) (sym (and_mask x w)) ∙ bit_and_lem x (2 ^ w - 1) c ∙ ap (λ b. bit_of x c && b) (mask_bit w c ∙ lt-ltb c w h) ∙ and-true (bit_of x c)

-- ---- the ones of a word are the numbers whose bits are set
one_digit : (d : ℕ) → d < 2 → ones d ≡ one_if (eqb (d % 2) 1)
one_digit zero h = ones-ones 0
one_digit (suc zero) h = ones-ones 1
one_digit (suc (suc d)) h = absurd (omega arith)

ones_count : (w x : ℕ) → x < 2 ^ w → ones x ≡ count_below w (bit_of x)
unfolding count_below bit_of
ones_count zero x h = ap ones (omega arith) ∙ ones-ones 0
ones_count (suc w) x h =
    ap ones (sym (split x w)) ∙ ones_cat w (x / 2 ^ w) (x % 2 ^ w) (mod-lt x (pow_pos w)) ∙ add_comm (ones (x / 2 ^ w)) (ones (x % 2 ^ w))
    ∙ ap₂ (λ (p q : ℕ). p + q)
    (ones_count w (x % 2 ^ w) (mod-lt x (pow_pos w)) ∙ count_same w (bit_of (x % 2 ^ w)) (bit_of x) (λ c l. low_bit x w c l)) highest
  where
    highest : ones (x / 2 ^ w) ≡ one_if (bit_of x w)
    highest = one_digit (x / 2 ^ w) (shr_lt 1 w (rw (one-add w) h))

pub set_ones : (test : ℕ → Bool) (x : ℕ) → x < 2 ^ most_operators → SetOf test x → ones x ≡ count_below most_operators test
set_ones test x h s = ones_count most_operators x h ∙ count_same most_operators (bit_of x) test s.bit

-- ---- the set of the infix operators
capped_below : (n c : ℕ) → c < most_operators → ltb c (capped n) ≡ ltb c n
capped_below n c h = go (dec_lt most_operators n)
  where
    go : Dec (most_operators < n) → ltb c (capped n) ≡ ltb c n
    go (yes l) = ap (λ b. ltb c (cond b most_operators n)) (lt-ltb most_operators n l) ∙ lt-ltb c most_operators h ∙ sym (lt-ltb c n (omega arith))
    go (no l) = ap (λ b. ltb c (cond b most_operators n)) (le-ltb most_operators n (omega (arith, l)))

-- none is infix that is not below the count
pub none_beyond : (ops : Operators) (c : ℕ) → ((c < most_operators) × (c < ops.count) → ⊥) → is_infix (class ops c) ≡ false
none_beyond ops c h = not_infix_lem (class ops c) (λ e. h (infix_byte ops c e))

infix_told : (sheet : List ℕ) (c : ℕ) → c < most_operators → (ltb c (operators_of sheet).count && not (bit_of (get_or sheet prefix_word_at 0) c)) ≡ is_infix (class (operators_of sheet) c)
infix_told sheet c h = go (dec_lt c (operators_of sheet).count)
  where
    of_kind : (b : Bool) → not b ≡ is_infix (cond b Prefix Infix)
    of_kind true = refl
    of_kind false = refl

    go : Dec (c < (operators_of sheet).count) → (ltb c (operators_of sheet).count && not (bit_of (get_or sheet prefix_word_at 0) c)) ≡ is_infix (class (operators_of sheet) c)
    go (yes l) =
        ap (λ b. b && not (bit_of (get_or sheet prefix_word_at 0) c)) (lt-ltb c (operators_of sheet).count l) ∙ ap not (prefix_bit sheet c refl h refl) ∙ of_kind (prefix_in sheet c)
        ∙ ap is_infix (sym (class_in sheet c h l))
    go (no l) =
        ap (λ b. b && not (bit_of (get_or sheet prefix_word_at 0) c)) (le-ltb c (operators_of sheet).count (omega (arith, l)))
        ∙ sym (none_beyond (operators_of sheet) c (λ p. l p.1))

pub infix_set : {words : List ℕ} (sheet : List ℕ) {m x : ℕ} → words ≡ sheet → m ≡ capped (operators_of sheet).count → SetOf (outside_of m (get_or words prefix_word_at 0)) x
    → SetOf (infix_in sheet) x
unfolding infix_in outside_of
infix_set sheet {m} v e s =
    record {
      bit = λ c h.
          s.bit c h ∙ ap (λ (w : List ℕ). ltb c m && not (bit_of (get_or w prefix_word_at 0) c)) v ∙ ap (λ b. b && not (bit_of (get_or sheet prefix_word_at 0) c)) (ap (ltb c) e ∙ capped_below (operators_of sheet).count c h) ∙ infix_told sheet c h;
    }

-- ---- the set of those that an operator lies above
pub below_set : {words : List ℕ} (sheet : List ℕ) (a : ℕ) {x y z : ℕ} → words ≡ sheet → a < most_operators → Fits w32 y → SetOf (infix_in sheet) x → y ≡ closers_of sheet a
    → z ≡ without (get_or words a 0) y → SetOf (below (operators_of sheet) (closes_in sheet) a) (bit_and x z)
unfolding below infix_in
below_set sheet a {x} {y} {z} v ha small among e f' =
    let f : z ≡ without (get_or sheet a 0) y = f' ∙ ap (λ (w : List ℕ). without (get_or w a 0) y) v in
    record {
      bit = λ c h.
          bit_and_lem x z c
          ∙ ap₂ ◌&&◌ (among.bit c h)
          (ap (λ (w : ℕ). bit_of w c) f ∙ bit_without (get_or sheet a 0) y c small.fits h
          ∙ ap₂ (λ p q. p && not q) (sym (closes_bit sheet a c ha h)) (ap (λ (w : ℕ). bit_of w c) e ∙ where_bit (λ b. closes_in sheet b a) most_operators c h));
    }

pub left_by_set : (ops : Operators) (closes : ℕ → ℕ → Bool) (a x : ℕ) → Fits w32 x → SetOf (below ops closes a) x → left_by x ≡ left_power ops closes a
unfolding left_power
left_by_set ops closes a x small s = ap (λ (m : ℕ). 2 + 2 * m) (set_ones (below ops closes a) x small.fits s)
