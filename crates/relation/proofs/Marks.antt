-- What marking rules in order in a table makes of it: the pairs that the rules of each kind name. Assumes nothing.
use mathlib.Core.Path.{◌≡◌, sym, ap, ◌∙◌}
use mathlib.Core.Bool.{Bool, false, ◌&&◌, ◌||◌, or-false, or_assoc, and_assoc, and_comm}
use mathlib.Core.List.{List, [], ◌∷◌}
use Prim.Native.Nat.{ℕ, suc, ◌*◌, ◌^◌, ◌<◌, ◌≤◌}
use native.Mathlib.Decide.{ℕ_discrete}
use native.Mathlib.Nat.{lt_of_lt_of_le}
use native.Mathlib.Omega.{arith}
use borrow.Author.Tests.{eq-eqb, ne_eqb}
use lib.Bits.{bit_or}
use lib.Dec.{eqb}
use lib.ListN.{get_or, set, length, length-set, length-replicate, get_or-replicate}
use lib.Seq.{get_or-set_same, get_or-set_other}
use Rattle.expression.specs.Lists.{any_holds}
use Rattle.expression.specs.Limits.{most_operators}
use Rattle.expression.proofs.Tests.{both_false}
use Rattle.disambiguation.specs.Rules.{Rule, right, says, written}
use Rattle.disambiguation.specs.SheetChecks.{strange_rule}
use Rattle.relation.specs.Relation.{bit_of}
use Rattle.relation.specs.Marking.{word_of, unmarked, marked, marks, marks_turned, marks_all}
use Rattle.relation.proofs.Bits.{bit_or_lem, bit_pow, bit_zero}
use Rattle.relation.proofs.Orderly.{first_operator, second_operator}

-- as long as a table of marks
abbrev Long : List ℕ → Type 0
Long t = length t ≡ suc right * most_operators

-- the bits of a word after a mark
bit_marked : (t : List ℕ) (a b x y : ℕ) → x < length t → bit_of (get_or (set t a (bit_or (get_or t a 0) (2 ^ b))) x 0) y ≡ (bit_of (get_or t x 0) y || (eqb a x && eqb b y))
bit_marked t a b x y h =
    elim (ℕ_discrete a x) [
      | yes e ↦
          ap (λ (w : ℕ). bit_of w y)
          (ap (λ (k : ℕ). get_or (set t a (bit_or (get_or t a 0) (2 ^ b))) k 0) (sym e) ∙ get_or-set_same t a (bit_or (get_or t a 0) (2 ^ b)) 0 (omega arith)
          ∙ ap (λ (k : ℕ). bit_or (get_or t k 0) (2 ^ b)) e)
          ∙ bit_or_lem (get_or t x 0) (2 ^ b) y ∙ ap (λ (p : Bool). bit_of (get_or t x 0) y || p) (bit_pow b y)
          ∙ ap (λ (p : Bool). bit_of (get_or t x 0) y || (p && eqb b y)) (sym (eq-eqb a x e))
      | no ne ↦
          ap (λ (w : ℕ). bit_of w y) (get_or-set_other t a x (bit_or (get_or t a 0) (2 ^ b)) 0 (λ q. ne (sym q)))
          ∙ sym (or-false (bit_of (get_or t x 0) y)) ∙ ap (λ (p : Bool). bit_of (get_or t x 0) y || (p && eqb b y)) (sym (ne_eqb a x ne))
    ]

-- words of two kinds or of two operators stand apart
same_word : (k a l x : ℕ) → a < most_operators → x < most_operators → eqb (word_of k a) (word_of l x) ≡ (eqb k l && eqb a x)
same_word k a l x ha hx = go (ℕ_discrete k l) (ℕ_discrete a x)
  where
    go : Dec (k ≡ l) → Dec (a ≡ x) → eqb (word_of k a) (word_of l x) ≡ (eqb k l && eqb a x)
    go (yes e) (yes f) = eq-eqb (word_of k a) (word_of l x) (omega arith) ∙ sym (simp (eq-eqb k l e, eq-eqb a x f))
    go (yes e) (no f) = ne_eqb (word_of k a) (word_of l x) (λ z. f (omega arith)) ∙ sym (simp (eq-eqb k l e, ne_eqb a x f))
    go (no e) f = ne_eqb (word_of k a) (word_of l x) (λ z. e (omega arith)) ∙ sym (simp (ne_eqb k l e))

-- One mark.
module _ (t : List ℕ) (k a b : ℕ) where
  length_marked : length (marked t k a b) ≡ length t
  unfolding marked
  length_marked = length-set t (word_of k a) (bit_or (get_or t (word_of k a) 0) (2 ^ b))

  marked_pair : Long t → a < most_operators → (l x y : ℕ) → l ≤ right → x < most_operators
      → bit_of (get_or (marked t k a b) (word_of l x) 0) y ≡ (bit_of (get_or t (word_of l x) 0) y || (eqb k l && (eqb a x && eqb b y)))
  unfolding marked
  marked_pair long ha l x y hl hx =
      bit_marked t (word_of k a) b (word_of l x) y (omega arith)
      ∙ ap (λ (p : Bool). bit_of (get_or t (word_of l x) 0) y || p) (ap (λ (p : Bool). p && eqb b y) (same_word k a l x ha hx) ∙ and_assoc (eqb k l) (eqb a x) (eqb b y))

-- All rules, none of them strange, where a mark of one adds the pairs that the rule names.
module _ (n : ℕ) (few : n ≤ most_operators) (mark : Rule → List ℕ → List ℕ) (names : ℕ → ℕ → ℕ → Rule → Bool) (kept : (r : Rule) (t : List ℕ) → length (mark r t) ≡ length t)
    (adds : (r : Rule) (t : List ℕ) (l x y : ℕ) → Long t → strange_rule n r ≡ false → l ≤ right → x < most_operators
    → bit_of (get_or (mark r t) (word_of l x) 0) y ≡ (bit_of (get_or t (word_of l x) 0) y || names l x y r)) where
  pairs_all : (rs : List Rule) (t : List ℕ) (l x y : ℕ) → Long t → any_holds (strange_rule n) rs ≡ false → l ≤ right → x < most_operators
      → bit_of (get_or (marks_all mark rs t) (word_of l x) 0) y ≡ (bit_of (get_or t (word_of l x) 0) y || any_holds (names l x y) rs)
  unfolding marks_all
  pairs_all [] t l x y long plain hl hx = sym (or-false (bit_of (get_or t (word_of l x) 0) y))
  pairs_all (r ∷ rs) t l x y long plain hl hx =
      let (here, later) = both_false (strange_rule n r) (any_holds (strange_rule n) rs) plain in
      pairs_all rs (mark r t) l x y (kept r t ∙ long) later hl hx ∙ ap (λ (p : Bool). p || any_holds (names l x y) rs) (adds r t l x y long here hl hx)
      ∙ or_assoc (bit_of (get_or t (word_of l x) 0) y) (names l x y r) (any_holds (names l x y) rs)

  -- from a table with no mark
  pairs_named : (rs : List Rule) (l x y : ℕ) → any_holds (strange_rule n) rs ≡ false → l ≤ right → x < most_operators
      → bit_of (get_or (marks_all mark rs unmarked) (word_of l x) 0) y ≡ any_holds (names l x y) rs
  pairs_named rs l x y plain hl hx =
      pairs_all rs unmarked l x y (length-replicate {A = ℕ} (suc right * most_operators) 0) plain hl hx
      ∙ ap (λ (p : Bool). p || any_holds (names l x y) rs) (ap (λ (w : ℕ). bit_of w y) (get_or-replicate {A = ℕ} (suc right * most_operators) (word_of l x) 0 0 (omega arith)) ∙ bit_zero y)

module _ (n : ℕ) (few : n ≤ most_operators) (rules : List Rule) (plain : any_holds (strange_rule n) rules ≡ false) (kind x y : ℕ) (known : kind ≤ right) (hx : x < most_operators) where
  pub pairs_written : bit_of (get_or (marks_all marks rules unmarked) (word_of kind x) 0) y ≡ written kind rules x y
  unfolding marks
  pairs_written =
      pairs_named n few marks says (λ r t. length_marked t r.kind r.first r.second)
      (λ r t l a b long s hl ha. marked_pair t r.kind r.first r.second long (lt_of_lt_of_le (first_operator n r s) few) l a b hl ha) rules kind x y plain known hx

  pub pairs_turned : bit_of (get_or (marks_all marks_turned rules unmarked) (word_of kind x) 0) y ≡ written kind rules y x
  unfolding marks_turned
  pairs_turned =
      pairs_named n few marks_turned (λ l a b. says l b a) (λ r t. length_marked t r.kind r.second r.first)
      (λ r t l a b long s hl ha. marked_pair t r.kind r.second r.first long (lt_of_lt_of_le (second_operator n r s) few) l a b hl ha
      ∙ ap (λ (p : Bool). bit_of (get_or t (word_of l a) 0) b || (eqb r.kind l && p)) (and_comm (eqb r.second a) (eqb r.first b))) rules kind x y plain known hx
