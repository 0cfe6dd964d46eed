-- What each way through the checks of a row gives, from what is known on it. Assumes nothing.
use mathlib.Core.Path.{◌≡◌, refl, ap, ◌∙◌}
use mathlib.Core.Bool.{Bool, true, false, not, ◌&&◌, ◌||◌, cond, and-false}
use mathlib.Core.List.{List, []}
use Prim.Native.Nat.{ℕ, ◌<◌, ◌≤◌}
use native.Mathlib.Omega.{arith}
use mir.Val.{Fits}
use mir.Syntax.{w8}
use lib.Dec.{ltb, leb}
use lib.ListN.{length, drop_of_length-le}
use borrow.Author.Tests.{lt-ltb, le-ltb, le-leb, lt-leb, ne_eqb}
use borrow.Author.Rules.{rules}
use native.Mathlib.Decide.{dec_lt, ℕ_discrete}
use Rattle.expression.specs.Limits.{most_operators, most_tokens}
use Rattle.expression.specs.Token.{opening, closing, first_reading, last_reading, Operators, operators, class}
use Rattle.expression.specs.Refusal.{accepted, oversize, stranger, no_row}
use Rattle.expression.specs.RowTest.{done, complete, scan, is_row}
use Rattle.expression.specs.Checks.{strange_in_row, row_number}
use Rattle.expression.proofs.Classes.{by_count}
use Rattle.expression.proofs.Tests.{any_same}
use Rattle.parser.specs.Rows.{Refuses, Ends, stranger_in_row}
use Rattle.parser.proofs.RowTokens.{row_ends}

-- ---- is_strange
module _ (n c : ℕ) where
  pub strange_test : Fits w8 c → (leb n c && ltb c most_operators || ltb closing c && ltb c first_reading) ≡ strange_in_row (class (operators n []) c)
  unfolding class
  strange_test f = go (dec_lt c most_operators) (dec_lt c n) (ℕ_discrete c opening) (ℕ_discrete c closing) (dec_lt c first_reading)
    where
      go : Dec (c < most_operators) → Dec (c < n) → Dec (c ≡ opening) → Dec (c ≡ closing) → Dec (c < first_reading)
          → (leb n c && ltb c most_operators || ltb closing c && ltb c first_reading) ≡ strange_in_row (class (operators n []) c)
      go (yes h) (yes g) o s r = simp (lt-leb n c g, le-ltb closing c (omega arith), lt-ltb c most_operators h, lt-ltb c n g)
      go (yes h) (no g) o s r = simp (le-leb n c (omega arith), lt-ltb c most_operators h, le-ltb c n (omega arith))
      go (no h) g (yes e) s r = rw e (ap (λ x. x || false) (and-false (leb n opening)))
      go (no h) g (no e) (yes k) r = rw k (ap (λ x. x || false) (and-false (leb n closing)))
      go (no h) g (no e) (no k) (yes r) =
          simp (
            le-ltb c most_operators (omega arith),
            lt-ltb closing c
                (omega arith),
            lt-ltb c first_reading r,
            ne_eqb c opening e,
            ne_eqb c closing k,
            and-false (leb n c),
          )
      go (no h) g (no e) (no k) (no r) =
          simp (
            le-ltb c most_operators (omega arith),
            lt-ltb closing c (omega arith),
            le-ltb c first_reading
                (omega arith),
            ne_eqb c opening e,
            ne_eqb c closing k,
            le-ltb last_reading c (omega arith),
            and-false (leb n c),
          )

pub ruleset strange_ways = (strange_test, rules)

-- ---- has_stranger
-- strangers are told by the count of operators alone
pub stranger_by_count : (ops : Operators) (row : List ℕ) {n : ℕ} {r : Bool} → n ≡ ops.count → r ≡ stranger_in_row (operators n []) row
    → r ≡ stranger_in_row ops row
unfolding stranger_in_row
stranger_by_count ops row e q = q ∙ ap (λ m. stranger_in_row (operators m []) row) e ∙ any_same _ _ (by_count strange_in_row refl ops []) row

-- ---- check
module _ (ops : Operators) (row : List ℕ) where
  pub is_oversize : most_tokens < length row → oversize ≡ row_number ops row
  unfolding row_number
  is_oversize h = simp (lt-ltb most_tokens (length row) h)

  module _ (short : length row ≤ most_tokens) where
    pub is_stranger : stranger_in_row ops row ≡ true → stranger ≡ row_number ops row
    unfolding row_number stranger_in_row
    is_stranger e = simp (le-ltb most_tokens (length row) short, e)

    module _ (known : stranger_in_row ops row ≡ false) where
      by_test : (t : Bool) → is_row (class ops) row ≡ t → cond (not t) no_row accepted ≡ row_number ops row
      unfolding row_number stranger_in_row
      by_test t f = simp (le-ltb most_tokens (length row) short, known, f)

      pub is_no_row : Refuses ops row 0 → no_row ≡ row_number ops row
      unfolding is_row
      is_no_row h = by_test false (h.refused 0)

      module _ {end : ℕ} (h : Ends ops row 0 end) where
        pub is_longer : end < length row → no_row ≡ row_number ops row
        unfolding is_row
        is_longer l = by_test false (ap complete (h.passes.same 0) ∙ row_ends ops row end h.stops l)

        pub is_row_lem : length row ≤ end → accepted ≡ row_number ops row
        unfolding is_row
        is_row_lem l = by_test true (ap complete (h.passes.same 0 ∙ ap (scan (class ops) (done 0)) (drop_of_length-le row l)))

pub ruleset check_ways = (is_oversize, is_stranger, is_no_row, is_longer, is_row_lem, rules)
