-- What each way through the checks of a record gives. Assumes nothing.
use Prim.Native.Nat.{ℕ, ◌+◌, ◌≤◌, ◌<◌}
use native.Mathlib.Numerals.{add-one}
use native.Mathlib.Omega.{arith}
use mathlib.Core.Path.{◌≡◌, refl, ap, sym, ◌∙◌}
use mathlib.Core.Bool.{Bool, true, false, not}
use mathlib.Core.List.{List, [], ◌∷◌}
use lib.Dec.{eqb, ltb, leb}
use lib.ListN.{length, get_or, take}
use lib.Seq.{take-suc}
use borrow.Author.Rules.{rules}
use borrow.Author.Tests.{ltb-true, ltb-false, lt-ltb, le-ltb, le-leb, lt-leb}
use mir.Syntax.{w8}
use mir.Val.{Fits, bool_byte}
use Rattle.expression.specs.Lists.{one_if, how_many}
use Rattle.expression.specs.Limits.{most_operators}
use Rattle.expression.specs.Token.{opening, closing, first_reading, Operators, operators, class}
use Rattle.expression.specs.Checks.{strange_in_record}
use Rattle.expression.proofs.Tests.{any_same}
use Rattle.expression.proofs.Cond.{by_cond}
use Rattle.expression.proofs.Lengths.{is_opening, count_append}
use Rattle.expression.proofs.Classes.{class_reading, by_count}
use Rattle.record.specs.Checks.{stranger_in_record}

-- what a test counts
pub one_counted : (b : Bool) → (bool_byte b ≡ one_if b) × (bool_byte b ≤ 1)
one_counted true = (refl, omega arith)
one_counted false = (refl, omega arith)

-- a stranger, by the tests of its byte
module _ (n byte : ℕ) where
  pub low : byte < most_operators → leb n byte ≡ strange_in_record (class (operators n []) byte)
  unfolding class
  low h =
      rw (lt-ltb byte most_operators h)
      (by_cond (λ k. leb n byte ≡ strange_in_record k) (ltb byte n) (λ g. lt-leb n byte (ltb-true byte n g)) (λ g. le-leb n byte (ltb-false byte n g)))

  pub middle : most_operators ≤ byte → byte < first_reading → not (eqb byte opening) ≡ strange_in_record (class (operators n []) byte)
  unfolding class
  middle h g =
      rw (le-ltb byte most_operators h)
      (by_cond (λ k. not (eqb byte opening) ≡ strange_in_record k) (eqb byte opening) (λ e. rw e)
      (λ e. by_cond (λ k. not (eqb byte opening) ≡ strange_in_record k) (eqb byte closing) (λ _. rw e) (λ _. rw (lt-ltb byte first_reading g, e))))

  pub high : Fits w8 byte → first_reading ≤ byte → false ≡ strange_in_record (class (operators n []) byte)
  high f h = sym (ap strange_in_record (class_reading (operators n []) byte h (omega arith)))

pub ruleset is_strange_ways = (low, middle, high, rules)

abbrev pub strange : ℕ → ℕ → Bool
strange n c = strange_in_record (class (operators n []) c)

-- strangers are told by the count of operators alone
pub stranger_by_count : (ops : Operators) (bytes : List ℕ) {n : ℕ} {r : Bool} → n ≡ ops.count → r ≡ stranger_in_record (operators n []) bytes → r ≡ stranger_in_record ops bytes
unfolding stranger_in_record
stranger_by_count ops bytes e q = q ∙ ap (λ m. stranger_in_record (operators m []) bytes) e ∙ any_same _ _ (by_count strange_in_record refl ops []) bytes

-- one byte more is counted
pub brackets_on : (bytes : List ℕ) {at brackets v : ℕ} → brackets ≤ at → at < length bytes → brackets ≡ how_many is_opening (take at bytes) → v ≡ bool_byte (eqb (get_or bytes at 0) opening)
    → (brackets + v ≤ at + 1) × (brackets + v ≡ how_many is_opening (take (at + 1) bytes))
brackets_on bytes {at} {brackets} few here same e =
    let (q, low) = one_counted (eqb (get_or bytes at 0) opening) in (
      omega arith,
      omega (arith, q, ap (how_many is_opening) (ap (λ i. take i bytes) (add-one at) ∙ take-suc bytes at 0 here), count_append is_opening (take at bytes) (get_or bytes at 0 ∷ [])),
    )
