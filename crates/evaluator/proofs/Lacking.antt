-- What the checks of an evaluation find: byte by byte, and of the tree that a record is of. Assumes nothing.
use Prim.Native.Nat.{ℕ, suc, ◌+◌, ◌-◌, ◌≤◌, ◌<◌}
use native.Mathlib.Nat.{sub-zero}
use native.Mathlib.Numerals.{add-one}
use native.Mathlib.Decide.{dec_lt}
use native.Mathlib.Omega.{arith}
use mathlib.Core.Path.{◌≡◌, refl, ap, ap₂, sym, ◌∙◌}
use mathlib.Core.Bool.{Bool, true, false, not, ◌&&◌, ◌||◌, true≢false, or-false}
use mathlib.Core.List.{List, [], ◌∷◌}
use lib.Dec.{leb}
use lib.IntN.{ℤ}
use lib.ListN.{length, get_or, take, drop, length-take, get_or-eq_default}
use lib.Seq.{get_or-take}
use borrow.Author.Rules.{rules}
use borrow.Author.Tests.{lt-ltb, le-ltb, le-leb, lt-leb, not-true}
use mir.Syntax.{w8}
use mir.Val.{Fits}
use Rattle.expression.specs.Lists.{any_holds}
use Rattle.expression.specs.Limits.{most_operators}
use Rattle.expression.specs.Token.{Class, first_reading, Operators, class}
use Rattle.expression.specs.Tree.{Tree, reading, bracket, binary, prefix, record_of, Over}
use Rattle.expression.specs.Checks.{strange_in_record}
use Rattle.expression.proofs.Cond.{by_cond}
use Rattle.expression.proofs.Classes.{by_class, infix_byte, prefix_byte, reading_byte}
use Rattle.expression.proofs.Tests.{any_append, any_same, any_none, none_at}
use Rattle.disambiguation.specs.Below.{all_below}
use Rattle.disambiguation.proofs.BelowLaws.{all_below_at}
use Rattle.sheet.specs.Layout.{operators_of, prefix_in, some_prefix}
use Rattle.sheet.proofs.Laws.{infix_in_lem, prefix_in_lem, none_prefix}
use Rattle.record.specs.Checks.{stranger_in_record}
use Rattle.meanings.specs.Meanings.{meant, prefix_meant, is_missing}
use Rattle.evaluator.specs.Value.{meaning_in, lacks_meaning, lacks_reading}
use Rattle.evaluator.specs.Bytes.{meaningless, beyond, any_meaningless, all_meant, any_beyond}

-- ---- one byte
module _ (sheet lent : List ℕ) (byte : ℕ) where
  pub no_operator : most_operators ≤ byte → false ≡ meaningless sheet lent byte
  no_operator h = rw (le-ltb byte most_operators h)

  module _ (h : byte < most_operators) where
    pub past_the_list : length lent ≤ byte → true ≡ meaningless sheet lent byte
    past_the_list l = rw (lt-ltb byte most_operators h, get_or-eq_default lent 0 l) (by_cond (λ x. true ≡ x) (prefix_in sheet byte) (λ _. refl) (λ _. refl))

    module _ {p : Bool} (kind : p ≡ prefix_in sheet byte) {r : Bool} where
      pub as_prefix : p ≡ true → r ≡ is_missing (prefix_meant (get_or lent byte 0)) → r ≡ meaningless sheet lent byte
      as_prefix z e = rw (lt-ltb byte most_operators h, sym kind ∙ z) e

      pub as_infix : p ≡ false → r ≡ is_missing (meant (get_or lent byte 0)) → r ≡ meaningless sheet lent byte
      as_infix z e = rw (lt-ltb byte most_operators h, sym kind ∙ z) e

pub ruleset meaningless_ways = (no_operator, past_the_list, as_prefix, as_infix, rules)

-- ---- all operators
module _ (sheet lent : List ℕ) where
  pub meant_none : true ≡ all_meant sheet lent 0
  unfolding all_meant all_below
  meant_none = refl

  pub meant_more : {m q : Bool} (o : ℕ) → m ≡ all_meant sheet lent o → q ≡ meaningless sheet lent o → (m && not q) ≡ all_meant sheet lent (o + 1)
  unfolding all_meant all_below
  meant_more o e f = rw (add-one, e, f)

  pub meant_all : {m : Bool} (n o : ℕ) → m ≡ all_meant sheet lent o → o ≤ n → n ≤ o → m ≡ all_meant sheet lent n
  meant_all n o e l h = e ∙ ap (all_meant sheet lent) (omega arith)

pub ruleset all_meant_ways = (meant_none, meant_more, meant_all, rules)

-- where all operators of the sheet have a meaning of their kind, all those of a record have
module _ (sheet lent bytes : List ℕ) (known : stranger_in_record (operators_of sheet) bytes ≡ false) {n : ℕ} (count : n ≡ (operators_of sheet).count) where
  none_meaningless : ((c : ℕ) → c < most_operators → c < n → meaningless sheet lent c ≡ false) → false ≡ any_meaningless sheet lent bytes
  unfolding stranger_in_record any_meaningless
  none_meaningless f = sym (any_none (λ c. strange_in_record (class (operators_of sheet) c)) (meaningless sheet lent) each bytes known)
    where
      each : (c : ℕ) → strange_in_record (class (operators_of sheet) c) ≡ false → meaningless sheet lent c ≡ false
      each c =
          by_class (operators_of sheet) (λ k. strange_in_record k ≡ false → meaningless sheet lent c ≡ false) c
          (λ h g _ _. f c h (omega arith))
          (λ h g _ _. f c h (omega arith))
          (λ h _. sym (no_operator sheet lent c (omega arith)))
          (λ _ z. absurd (true≢false z))
          (λ h _ _. sym (no_operator sheet lent c (omega arith)))
          (λ z. absurd (true≢false z))

  pub by_kinds : {m : Bool} → m ≡ all_meant sheet lent n → m ≡ true → false ≡ any_meaningless sheet lent bytes
  unfolding all_meant
  by_kinds e q = none_meaningless (λ c _ h. not-true (meaningless sheet lent c) (all_below_at n (λ o. not (meaningless sheet lent o)) (sym e ∙ q) c h))

  -- without prefix operators their numbers tell
  pub by_numbers : {some : Bool} → some ≡ some_prefix sheet → some ≡ false → n ≤ length lent
      → {missing : Bool} → missing ≡ any_holds (λ m. is_missing (meant m)) (take (n - 0) (drop 0 lent)) → missing ≡ false → false ≡ any_meaningless sheet lent bytes
  by_numbers s none fits e q =
      none_meaningless (λ c h g. sym (as_infix sheet lent c h refl (none_prefix sheet (sym s ∙ none) c) (sym (its_meaning c g))))
    where
      its_meaning : (c : ℕ) → c < n → is_missing (meant (get_or lent c 0)) ≡ false
      its_meaning c h =
          ap (λ m. is_missing (meant m)) (sym (get_or-take n lent c 0 h))
          ∙ none_at (λ m. is_missing (meant m)) (take n lent) (ap (λ k. any_holds (λ m. is_missing (meant m)) (take k lent)) (sym (sub-zero n)) ∙ sym e ∙ q) c (omega (arith, length-take n lent))

pub ruleset lacks_meaning_ways = (by_kinds, by_numbers, rules)

-- ---- readings
no_reading_lem : (count byte : ℕ) → byte < first_reading → false ≡ beyond count byte
no_reading_lem count byte h = rw (lt-leb first_reading byte h)

by_its_place : (count byte : ℕ) → first_reading ≤ byte → leb count (byte - first_reading) ≡ beyond count byte
by_its_place count byte h = rw (le-leb first_reading byte h)

from_limit : (count byte : ℕ) → leb (first_reading + count) byte ≡ beyond count byte
from_limit count byte = go (dec_lt byte first_reading) (dec_lt byte (first_reading + count))
  where
    go : Dec (byte < first_reading) → Dec (byte < first_reading + count) → leb (first_reading + count) byte ≡ beyond count byte
    go (yes h) g = lt-leb (first_reading + count) byte (omega arith) ∙ no_reading_lem count byte h
    go (no h) (yes g) = lt-leb (first_reading + count) byte g ∙ sym (lt-leb count (byte - first_reading) (omega arith)) ∙ by_its_place count byte (omega arith)
    go (no h) (no g) = le-leb (first_reading + count) byte (omega arith) ∙ sym (le-leb count (byte - first_reading) (omega arith)) ∙ by_its_place count byte (omega arith)

pub beyond_limit : (count : ℕ) (bytes : List ℕ) {r : Bool} → r ≡ any_holds (leb (first_reading + count)) bytes → r ≡ any_beyond count bytes
unfolding any_beyond
beyond_limit count bytes e = e ∙ any_same (leb (first_reading + count)) (beyond count) (from_limit count) bytes

pub all_lent : (count : ℕ) → 128 ≤ count → (bytes : List ℕ) → ((k : ℕ) → Fits w8 (get_or bytes k 0)) → false ≡ any_beyond count bytes
unfolding any_beyond
all_lent count h [] f = refl
all_lent count h (c ∷ bytes) f = rw (sym (from_limit count c) ∙ lt-leb (first_reading + count) c (omega (arith, f 0))) (all_lent count h bytes (λ k. f (suc k)))

pub ruleset lacks_reading_ways = (beyond_limit, all_lent, rules)

-- ---- of a tree
module _ (sheet : List ℕ) where
  abbrev k : ℕ → Class
  k = class (operators_of sheet)

  pub meanings_of_tree : (lent : List ℕ) (t : Tree) → Over k t → any_meaningless sheet lent (record_of t) ≡ lacks_meaning lent t
  unfolding any_meaningless
  meanings_of_tree lent (reading a) h = rw (le-ltb a most_operators (omega (arith, reading_byte (operators_of sheet) a h)))
  meanings_of_tree lent (bracket t) h = meanings_of_tree lent t h
  meanings_of_tree lent (binary o l r) h =
      ap₂ ◌||◌ (sym (as_infix sheet lent o (infix_byte (operators_of sheet) o h.0).0 refl (infix_in_lem sheet o h.0) refl)) (any_append (meaningless sheet lent) (record_of l) (record_of r))
      ∙ ap₂ (λ x y. is_missing (meaning_in lent o) || (x || y)) (meanings_of_tree lent l h.1) (meanings_of_tree lent r h.2)
  meanings_of_tree lent (prefix p t) h =
      ap₂ ◌||◌ (sym (as_prefix sheet lent p (prefix_byte (operators_of sheet) p h.0).0 refl (prefix_in_lem sheet p h.0) refl)) (meanings_of_tree lent t h.1)

pub readings_of_tree : (ops : Operators) (readings : List ℤ) (t : Tree) → Over (class ops) t → any_beyond (length readings) (record_of t) ≡ lacks_reading readings t
unfolding any_beyond
readings_of_tree ops readings (reading a) h = or-false (beyond (length readings) a) ∙ sym (by_its_place (length readings) a (reading_byte ops a h).0)
readings_of_tree ops readings (bracket t) h = readings_of_tree ops readings t h
readings_of_tree ops readings (binary o l r) h =
    ap₂ ◌||◌ (sym (no_reading_lem (length readings) o (omega (arith, infix_byte ops o h.0)))) (any_append (beyond (length readings)) (record_of l) (record_of r))
    ∙ ap₂ ◌||◌ (readings_of_tree ops readings l h.1) (readings_of_tree ops readings r h.2)
readings_of_tree ops readings (prefix p t) h =
    ap₂ ◌||◌ (sym (no_reading_lem (length readings) p (omega (arith, prefix_byte ops p h.0)))) (readings_of_tree ops readings t h.1)
