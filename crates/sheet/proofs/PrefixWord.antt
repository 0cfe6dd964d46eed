-- The word of the prefix operators: the kinds that are read back from it. Assumes nothing.
use mathlib.Core.Path.{◌≡◌, refl, sym, ap, ap₂, ◌∙◌}
use mathlib.Core.Bool.{Bool, true, false, ◌&&◌, cond, and-false}
use mathlib.Core.List.{List, ◌∷◌, [], ◌++◌}
use Prim.Native.Nat.{ℕ, zero, suc, ◌<◌, ◌≤◌}
use native.Mathlib.Decide.{dec_lt}
use native.Mathlib.Omega.{arith}
use borrow.Author.Tests.{lt-ltb, eqb-true, ltb-false, not-false}
use lib.Dec.{eqb, ltb}
use lib.ListN.{length, get_or, take}
use lib.Seq.{take-suc, take_all}
use Rattle.expression.specs.Lists.{one_if, any_holds}
use Rattle.expression.specs.Limits.{most_operators}
use Rattle.expression.specs.Token.{Infix, Prefix, infix_kind, prefix_kind, operators, kind_of, class_of_kind, class}
use Rattle.expression.proofs.Classes.{class_operator, infix_byte, prefix_byte}
use Rattle.expression.proofs.Tests.{none_at}
use Rattle.disambiguation.specs.SheetChecks.{strange_kind}
use Rattle.relation.specs.Relation.{bit_of}
use Rattle.relation.specs.Words.{kinds_below, operators_by}
use Rattle.relation.proofs.Bits.{bit_zero}
use Rattle.relation.proofs.WordSets.{where_bit, length_kinds, kind_below, is_one, past_end}
use Rattle.sheet.specs.Layout.{prefix_word_at, operators_of, prefix_in, some_prefix}
use Rattle.sheet.specs.Kinds.{prefix_word}

-- ---- the kinds read back
-- the kind of an operator that a sheet has is told by a bit, and that of another is none
pub kind_told : (sheet : List ℕ) (c : ℕ) → c < (operators_of sheet).count → c < most_operators → eqb (kind_of (operators_of sheet) c) prefix_kind ≡ prefix_in sheet c
unfolding operators_of prefix_in
kind_told sheet c h g =
    ap (λ k. eqb k prefix_kind) (kind_below (operators_of sheet).count (get_or sheet prefix_word_at 0) c h) ∙ is_one (bit_of (get_or sheet prefix_word_at 0) c)
    ∙ ap (λ b. b && bit_of (get_or sheet prefix_word_at 0) c) (sym (lt-ltb c most_operators g))

pub kind_none : (sheet : List ℕ) (c : ℕ) → (operators_of sheet).count ≤ c → eqb (kind_of (operators_of sheet) c) prefix_kind ≡ false
unfolding operators_of
kind_none sheet c h =
    ap (λ k. eqb k prefix_kind) (past_end (kinds_below (operators_of sheet).count (get_or sheet prefix_word_at 0)) c (omega (arith, length_kinds (operators_of sheet).count (get_or sheet prefix_word_at 0))))

-- a sheet has no other kinds than two, so kinds agree where both are prefix or neither is
two_kinds : (sheet : List ℕ) (c : ℕ) → one_if (eqb (kind_of (operators_of sheet) c) prefix_kind) ≡ kind_of (operators_of sheet) c
unfolding operators_of
two_kinds sheet c = go (dec_lt c (operators_of sheet).count)
  where
    w : ℕ
    w = get_or sheet prefix_word_at 0

    n : ℕ
    n = (operators_of sheet).count

    as_bit : (k : ℕ) (b : Bool) → k ≡ one_if b → one_if (eqb k prefix_kind) ≡ k
    as_bit k b e = ap (λ x. one_if (eqb x prefix_kind)) e ∙ ap one_if (is_one b) ∙ sym e

    go : Dec (c < n) → one_if (eqb (get_or (kinds_below n w) c infix_kind) prefix_kind) ≡ get_or (kinds_below n w) c infix_kind
    go (yes h) = as_bit (get_or (kinds_below n w) c infix_kind) (bit_of w c) (kind_below n w c h)
    go (no h) = as_bit (get_or (kinds_below n w) c infix_kind) false (past_end (kinds_below n w) c (omega (arith, length_kinds n w)))

pub kinds_agree : (old new : List ℕ) (c : ℕ) → eqb (kind_of (operators_of old) c) (kind_of (operators_of new) c)
    ≡ eqb (one_if (eqb (kind_of (operators_of old) c) prefix_kind)) (one_if (eqb (kind_of (operators_of new) c) prefix_kind))
kinds_agree old new c = sym (ap₂ eqb (two_kinds old c) (two_kinds new c))

known_kind : (k : ℕ) → strange_kind k ≡ false → one_if (eqb k prefix_kind) ≡ k
known_kind zero e = refl
known_kind (suc zero) e = refl
known_kind (suc (suc k)) e = absurd (omega (arith, ltb-false 1 (suc (suc k)) e))

-- The kinds of a word that was made of kinds, none of them strange, are these.
module _ (n : ℕ) (kinds : List ℕ) (as_many : length kinds ≡ n) (plain : any_holds strange_kind kinds ≡ false) where
  kinds_so_far : (k : ℕ) → k ≤ n → kinds_below k (prefix_word kinds n) ≡ take k kinds
  kinds_so_far zero h = refl
  kinds_so_far (suc k) h =
      ap (λ ks. ks ++ (one_if (bit_of (prefix_word kinds n) k) ∷ [])) (kinds_so_far k (omega arith))
      ∙ ap (λ x. take k kinds ++ (x ∷ []))
      (ap one_if (where_bit (λ c. eqb (get_or kinds c infix_kind) prefix_kind) n k (omega arith)) ∙ known_kind (get_or kinds k infix_kind) (none_at strange_kind kinds plain k (omega (arith, as_many))))
      ∙ sym (take-suc kinds k infix_kind (omega (arith, as_many)))

  pub operators_back : operators_by n (prefix_word kinds n) ≡ operators n kinds
  operators_back = ap (operators n) (kinds_so_far n (omega arith) ∙ take_all n kinds (omega (arith, as_many)))

-- ---- callers' law: which class an operator of a sheet has
pub class_in : (sheet : List ℕ) (c : ℕ) → c < most_operators → c < (operators_of sheet).count → class (operators_of sheet) c ≡ cond (prefix_in sheet c) Prefix Infix
unfolding operators_of prefix_in
class_in sheet c h g =
    class_operator (operators_of sheet) c h g
    ∙ ap (λ k. class_of_kind k) (kind_below (operators_of sheet).count (get_or sheet prefix_word_at 0) c g)
    ∙ ap (λ b. cond b Prefix Infix) (is_one (bit_of (get_or sheet prefix_word_at 0) c) ∙ ap (λ b. b && bit_of (get_or sheet prefix_word_at 0) c) (sym (lt-ltb c most_operators h)))

-- so the class tells
pub infix_in_lem : (sheet : List ℕ) (c : ℕ) → class (operators_of sheet) c ≡ Infix → prefix_in sheet c ≡ false
infix_in_lem sheet c e = let (h, g) = infix_byte (operators_of sheet) c e in go (prefix_in sheet c) (sym (class_in sheet c h g) ∙ e)
  where
    go : (b : Bool) → cond b Prefix Infix ≡ Infix → b ≡ false
    go true e = cc
    go false e = refl

pub prefix_in_lem : (sheet : List ℕ) (c : ℕ) → class (operators_of sheet) c ≡ Prefix → prefix_in sheet c ≡ true
prefix_in_lem sheet c e = let (h, g) = prefix_byte (operators_of sheet) c e in go (prefix_in sheet c) (sym (class_in sheet c h g) ∙ e)
  where
    go : (b : Bool) → cond b Prefix Infix ≡ Prefix → b ≡ true
    go true e = refl
    go false e = cc

-- a word without bits has none
pub none_prefix : (sheet : List ℕ) → some_prefix sheet ≡ false → (c : ℕ) → prefix_in sheet c ≡ false
unfolding some_prefix prefix_in
none_prefix sheet e c =
    ap (λ w. ltb c most_operators && bit_of w c) (eqb-true (get_or sheet prefix_word_at 0) 0 (not-false (eqb (get_or sheet prefix_word_at 0) 0) e))
    ∙ ap (λ b. ltb c most_operators && b) (bit_zero c) ∙ and-false (ltb c most_operators)
