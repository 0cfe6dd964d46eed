-- What each way through the test of held trees gives: whether one uses an operator that a new sheet has not, or has as another kind. Assumes nothing.
use mathlib.Core.Path.{◌≡◌, refl, sym, ap, ap₂, ◌∙◌}
use mathlib.Core.Bool.{Bool, true, false, not, ◌&&◌, ◌||◌, and-false}
use mathlib.Core.List.{List, [], ◌∷◌}
use Prim.Native.Nat.{ℕ, ◌+◌, ◌<◌, ◌≤◌}
use native.Mathlib.Omega.{arith}
use native.Mathlib.Decide.{dec_lt}
use lib.Dec.{eqb, ltb, leb}
use borrow.Author.Tests.{lt-ltb, le-ltb, le-leb, lt-leb}
use borrow.Author.Rules.{rules}
use Rattle.expression.specs.Lists.{any_holds}
use Rattle.expression.specs.Limits.{most_operators}
use Rattle.expression.specs.Token.{Operators, operators, kind_of}
use Rattle.expression.proofs.Looking.{looked_none, looked_more, looked_all}
use Rattle.expression.proofs.Tests.{any_same, any_or}
use Rattle.disambiguation.specs.Below.{all_below}
use Rattle.sheet.specs.Layout.{operators_of}
use Rattle.sheet.specs.Relation.{bit_of}
use Rattle.sheet.specs.Kinds.{kind_changes}
use Rattle.disambiguation.proofs.BelowLaws.{all_same}
use Rattle.relation.proofs.Below.{all_none, all_more, all_fails, all_done}
use Rattle.relation.proofs.Bits.{bit_zero}
use Rattle.relation.proofs.WordSets.{where_bit}
use Rattle.run.specs.Places.{place_count, held}
use Rattle.run.specs.Panel.{beyond, changed, uses_other, in_use_check}
use Rattle.monitor.specs.CallContracts.{uses_by, some_use}

-- ---- is_beyond
pub beyond_test : (n c : ℕ) → (leb n c && ltb c most_operators) ≡ (ltb c most_operators && not (ltb c n))
beyond_test n c = go (dec_lt c n) (dec_lt c most_operators)
  where
    go : Dec (c < n) → Dec (c < most_operators) → (leb n c && ltb c most_operators) ≡ (ltb c most_operators && not (ltb c n))
    go (yes g) (yes h) = simp (lt-leb n c g, lt-ltb c most_operators h, lt-ltb c n g)
    go (no g) (yes h) = let i : n ≤ c = omega arith in simp (le-leb n c i, lt-ltb c most_operators h, le-ltb c n i)
    go (yes g) (no h) = let i : most_operators ≤ c = omega arith in simp (lt-leb n c g, le-ltb c most_operators i)
    go (no g) (no h) = let i : most_operators ≤ c = omega arith in let k : n ≤ c = omega arith in simp (le-leb n c k, le-ltb c most_operators i)

pub ruleset is_beyond_ways = (beyond_test, rules)

-- ---- uses_beyond and uses_set
abbrev pub below : ℕ → ℕ → Bool
below n = beyond (operators n [])

abbrev pub within : ℕ → ℕ → Bool
within set c = ltb c most_operators && bit_of set c

pub ruleset looks_ways = (looked_none, looked_more, looked_all, rules)

-- ---- place_uses
no_set : (xs : List ℕ) → any_holds (within 0) xs ≡ false
no_set [] = refl
no_set (x ∷ xs) = ap₂ ◌||◌ (ap (λ b. ltb x most_operators && b) (bit_zero x) ∙ and-false (ltb x most_operators)) (no_set xs)

module _ (n set : ℕ) (places : List (List ℕ)) (k : ℕ) {bytes : List ℕ} {b : Bool} (is : bytes ≡ held places k) (far : b ≡ any_holds (beyond (operators n [])) bytes) where
  by_either : uses_by n set (held places k) ≡ (b || any_holds (within set) bytes)
  unfolding uses_by
  by_either = ap (any_holds (λ c. below n c || within set c)) (sym is) ∙ any_or (below n) (within set) bytes ∙ ap (λ x. x || any_holds (within set) bytes) (sym far)

  pub uses_far : b ≡ true → true ≡ uses_by n set (held places k)
  uses_far e = sym (by_either ∙ ap (λ x. x || any_holds (within set) bytes) e)

  pub uses_none : b ≡ false → set ≡ 0 → false ≡ uses_by n set (held places k)
  uses_none e z = sym (by_either ∙ ap (λ x. x || any_holds (within set) bytes) e ∙ ap (λ w. any_holds (within w) bytes) z ∙ no_set bytes)

  pub uses_one : {r : Bool} → b ≡ false → r ≡ any_holds (λ c. ltb c most_operators && bit_of set c) bytes → r ≡ uses_by n set (held places k)
  uses_one e f = f ∙ sym (by_either ∙ ap (λ x. x || any_holds (within set) bytes) e)

pub ruleset place_uses_ways = (uses_far, uses_none, uses_one, rules)

-- ---- any_uses
module _ (n set : ℕ) (places : List (List ℕ)) where
  abbrev fits : ℕ → Bool
  fits k = not (uses_by n set (held places k))

  -- no place below k is in use
  pub record Unused (k : ℕ) : Type 0 where
    pub inside : k ≤ place_count
    pub free : all_below k fits ≡ true

  pub unused_none : Unused 0
  unused_none = record { inside = omega arith; free = all_none fits }

  module _ {k : ℕ} {b : Bool} (u : Unused k) (h : k < place_count) (e : b ≡ uses_by n set (held places k)) where
    pub unused_found : b ≡ true → true ≡ some_use n set places
    unfolding some_use
    unused_found f = ap not (sym (all_fails fits place_count k h (ap not (sym e ∙ f))))

    pub unused_more : b ≡ false → Unused (k + 1)
    unused_more f = record { inside = omega arith; free = all_more fits k u.free (ap not (sym e ∙ f)) }

  pub unused_all : {k : ℕ} → Unused k → place_count ≤ k → false ≡ some_use n set places
  unfolding some_use
  unused_all {k} u h = ap not (sym (all_done fits place_count k u.free u.inside h))

pub ruleset any_uses_ways = (unused_none, unused_found, unused_more, unused_all, rules)

-- ---- in_use
-- the set of changes has the operators whose kinds change
in_changes : (old new : Operators) (c : ℕ) → within (kind_changes old new) c ≡ changed old new c
in_changes old new c = go (dec_lt c most_operators)
  where
    go : Dec (c < most_operators) → within (kind_changes old new) c ≡ changed old new c
    go (yes h) = ap (λ b. ltb c most_operators && b) (where_bit (λ c. not (eqb (kind_of old c) (kind_of new c))) most_operators c h)
    go (no h) = rw (le-ltb c most_operators (omega arith))

pub told_by : (old new : List ℕ) (places : List (List ℕ)) {n set : ℕ} {r : Bool} → n ≡ (operators_of new).count → set ≡ kind_changes (operators_of old) (operators_of new)
    → r ≡ some_use n set places → r ≡ (in_use_check (operators_of old) (operators_of new) (held places)).0
unfolding some_use uses_by uses_other
told_by old new places {n} {set} count changes q =
    q ∙ ap not (all_same _ _ place_count
    (λ k _. ap not (any_same _ _ (λ c. ap₂ ◌||◌ (ap (λ m. ltb c most_operators && not (ltb c m)) count)
    (ap (λ w. within w c) changes ∙ in_changes (operators_of old) (operators_of new) c)) (held places k))))

pub ruleset in_use_ways = (told_by, rules)
