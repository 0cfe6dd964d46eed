-- The bits of sets of operators, and the kinds that a word tells. Assumes nothing.
use mathlib.Core.Path.{◌≡◌, refl, sym, ap, ◌∙◌}
use mathlib.Core.Bool.{Bool, true, false, not, ◌&&◌, ◌||◌, and-true, and-false, or-false}
use mathlib.Core.List.{List, ◌∷◌, [], ◌++◌}
use Prim.Native.Nat.{ℕ, zero, suc, ◌-◌, ◌%◌, ◌^◌, ◌<◌, ◌≤◌}
use native.Mathlib.Decide.{dec_lt, ℕ_discrete}
use native.Mathlib.Nat.{div-eq_of_lt, lt_of_lt_of_le}
use native.Mathlib.Omega.{arith}
use borrow.Author.Tests.{lt-ltb, le-ltb, eq-eqb, ne_eqb}
use mir.Val.{Fits}
use mir.Syntax.{w32}
use lib.Bits.{bit_and}
use lib.Dec.{eqb, ltb}
use lib.ListN.{length, get_or, length-append, get_or-append}
use lib.Pow.{pow_pos, pow_mono, ones_lt}
use lib.Seq.{get_or-append_seam}
use Rattle.expression.specs.Lists.{one_if}
use Rattle.expression.specs.Token.{infix_kind, prefix_kind}
use Rattle.disambiguation.specs.Verdict.{comes}
use Rattle.relation.specs.Relation.{bit_of}
use Rattle.relation.specs.Words.{SetOf, with_bit, word_where, without, outside_of, kinds_below, operators_by}
use Rattle.relation.proofs.Bits.{bit_and_lem, bit_or_lem, bit_not, bit_pow, bit_zero}

-- ---- the bits of a word
bit_with : (x c : ℕ) (told : Bool) (b : ℕ) → bit_of (with_bit x c told) b ≡ (bit_of x b || (told && eqb c b))
unfolding with_bit
bit_with x c true b = bit_or_lem x (2 ^ c) b ∙ ap (λ (q : Bool). bit_of x b || q) (bit_pow c b)
bit_with x c false b = sym (or-false (bit_of x b))

module _ (test : ℕ → Bool) where
  none_beyond : (k b : ℕ) → k ≤ b → bit_of (word_where test k) b ≡ false
  unfolding word_where
  none_beyond zero b h = bit_zero b
  none_beyond (suc k) b h = bit_with (word_where test k) k (test k) b ∙ rw (none_beyond k b (omega arith), ne_eqb k b (λ e. omega arith)) (and-false (test k))

  pub where_bit : (k b : ℕ) → b < k → bit_of (word_where test k) b ≡ test b
  unfolding word_where
  where_bit zero b h = absurd (omega arith)
  where_bit (suc k) b h = bit_with (word_where test k) k (test k) b ∙ go (ℕ_discrete k b) (where_bit k b)
    where
      go : Dec (k ≡ b) → (b < k → bit_of (word_where test k) b ≡ test b) → (bit_of (word_where test k) b || (test k && eqb k b)) ≡ test b
      go (yes e) f = rw (none_beyond k b (omega arith), eq-eqb k b e) (and-true (test k) ∙ ap test e)
      go (no ne) f = rw (f (omega (arith, ne)), ne_eqb k b ne) (ap (λ q. test b || q) (and-false (test k)) ∙ or-false (test b))

-- ---- a word without the bits of another
pub bit_without : (x y c : ℕ) → y < 2 ^ 32 → c < 32 → bit_of (without x y) c ≡ (bit_of x c && not (bit_of y c))
unfolding without
bit_without x y c h l = bit_and_lem x ((2 ^ 32 - 1) - y) c ∙ ap (λ (b : Bool). bit_of x c && b) (bit_not 32 y c h l)

-- ---- the mask of all below n, and those of them that are not in a word
pub mask_bit : (n c : ℕ) → bit_of (2 ^ n - 1) c ≡ ltb c n
unfolding bit_of
mask_bit n c = go (dec_lt c n)
  where
    go : Dec (c < n) → bit_of (2 ^ n - 1) c ≡ ltb c n
    go (yes h) = ap (λ (x : ℕ). bit_of x c) (omega arith) ∙ bit_not n 0 c (pow_pos n) h ∙ ap not (bit_zero c) ∙ sym (lt-ltb c n h)
    go (no h) = ap (λ (d : ℕ). eqb (d % 2) 1) (div-eq_of_lt (lt_of_lt_of_le (ones_lt n) (pow_mono (omega (arith, h))))) ∙ sym (le-ltb c n (omega (arith, h)))

pub outside_set : (n x m : ℕ) → Fits w32 x → m ≡ 2 ^ n - 1 → SetOf (outside_of n x) (bit_and m ((2 ^ 32 - 1) - x))
unfolding without outside_of
outside_set n x m small e =
    record { bit = λ c h. bit_without m x c small.fits h ∙ ap (λ b. b && not (bit_of x c)) (ap (λ (z : ℕ). bit_of z c) e ∙ mask_bit n c) }

-- ---- the kinds that a word tells
pub length_kinds : (n w : ℕ) → length (kinds_below n w) ≡ n
length_kinds zero w = refl
length_kinds (suc n) w = omega (arith, length-append (kinds_below n w) (one_if (bit_of w n) ∷ []), length_kinds n w)

pub kind_below : (n w c : ℕ) → c < n → get_or (kinds_below n w) c infix_kind ≡ one_if (bit_of w c)
kind_below zero w c h = absurd (omega arith)
kind_below (suc n) w c h = go (ℕ_discrete c n) (kind_below n w c)
  where
    go : Dec (c ≡ n) → (c < n → get_or (kinds_below n w) c infix_kind ≡ one_if (bit_of w c)) → get_or (kinds_below n w ++ (one_if (bit_of w n) ∷ [])) c infix_kind ≡ one_if (bit_of w c)
    go (yes e) f =
        ap (λ i. get_or (kinds_below n w ++ (one_if (bit_of w n) ∷ [])) i infix_kind) (e ∙ sym (length_kinds n w))
        ∙ get_or-append_seam (kinds_below n w) (one_if (bit_of w n)) [] infix_kind ∙ ap (λ i. one_if (bit_of w i)) (sym e)
    go (no ne) f = get_or-append (kinds_below n w) (one_if (bit_of w n) ∷ []) infix_kind c (omega (arith, length_kinds n w, ne)) ∙ f (omega (arith, ne))

pub is_one : (b : Bool) → eqb (one_if b) prefix_kind ≡ b
is_one true = refl
is_one false = refl

-- past the last of them stands that of infix operators
pub past_end : (xs : List ℕ) (c : ℕ) → length xs ≤ c → get_or xs c infix_kind ≡ infix_kind
past_end [] c h = refl
past_end (x ∷ xs) zero h = absurd (omega arith)
past_end (x ∷ xs) (suc c) h = past_end xs c (omega arith)

-- an operator comes unless it is in the word
pub comes_by : (n w c : ℕ) → c < n → comes (operators_by n w) c ≡ not (bit_of w c)
comes_by n w c h = ap not (ap (λ k. eqb k prefix_kind) (kind_below n w c h) ∙ is_one (bit_of w c))
