-- What callers know of a sheet: its operators, and its relation by the excluded patterns, never by words. Assumes nothing.
use mathlib.Core.Path.{◌≡◌, refl, sym, ap, ap₂, ◌∙◌}
use mathlib.Core.Bool.{true, false, not, false≢true}
use mathlib.Core.List.{List, []}
use Prim.Native.Nat.{ℕ, ◌%◌, ◌<◌, ◌≤◌}
use native.Mathlib.Omega.{arith}
use lib.Dec.{eqb}
use lib.ListN.{length, set, length-set}
use lib.Seq.{get_or-set_same, get_or-set_other}
use Rattle.expression.specs.Lists.{any_holds}
use Rattle.expression.specs.Limits.{most_operators}
use Rattle.expression.specs.Refusal.{accepted}
use Rattle.expression.proofs.Numbers.{given_after}
use Rattle.expression.specs.Token.{Infix, Operators, operators, class}
use Rattle.expression.specs.Tree.{Tree, Over}
use Rattle.disambiguation.specs.Rules.{Rule, left, L, R}
use Rattle.disambiguation.specs.ExactlyOne.{EveryRowHasExactlyOne}
use Rattle.disambiguation.proofs.TestsDecide.{infix_below}
use Rattle.disambiguation.proofs.VerdictDecides.{accepted_exactly_if}
use Rattle.disambiguation.proofs.Accepted.{accepted_passes, opposite, count_by_closes}
use Rattle.disambiguation.specs.Conflicts.{conflicts, conflict_count}
use Rattle.disambiguation.specs.Below.{all_below}
use Rattle.disambiguation.specs.Verdict.{safe, total, level, rule_checks, verdict}
use Rattle.disambiguation.specs.SheetChecks.{strange_rule, strange_kind, kinds_in, rules_in, operators_in, order_checks, sheet_number}
use Rattle.relation.specs.Relation.{sheet_words, fresh, bit_of, closes_in}
use Rattle.relation.specs.Words.{operators_by}
use Rattle.relation.specs.Marking.{unmarked, marks, marks_all}
use Rattle.relation.specs.Chaining.{related}
use Rattle.relation.proofs.WordTests.{closes_bit, closes_everywhere, closes_blank}
use Rattle.relation.proofs.Orderly.{R_below}
use Rattle.relation.proofs.Chaining.{length_related, related_is_R}
use Rattle.sheet.specs.Layout.{count_word, prefix_word_at, loaded_word, operators_of, is_loaded}
use Rattle.sheet.specs.Kinds.{prefix_word}
use Rattle.sheet.specs.Loading.{sheet_of}
use Rattle.sheet.specs.InForce.{InForce}
use Rattle.sheet.proofs.PrefixWord.{operators_back}
use Rattle.sheet.proofs.Ordered.{Ordered, ordered}
pub use Rattle.relation.proofs.WordTests.{closes_below}
pub use Rattle.sheet.proofs.PrefixWord.{class_in, infix_in_lem, prefix_in_lem, none_prefix}

closes_fresh : (a b : ℕ) → closes_in fresh a b ≡ false
closes_fresh = closes_everywhere fresh (λ a b. false) (λ a b e. absurd (false≢true e)) closes_blank

-- ---- the sheet that is made of n kinds and rules
module _ (n : ℕ) (few : n ≤ most_operators) (kinds : List ℕ) (rules : List Rule) where
  -- the words of its relation, with the count, and with the kinds
  abbrev relation_of : List ℕ
  relation_of = related n left (marks_all marks rules unmarked) fresh

  abbrev counted : List ℕ
  counted = set relation_of count_word n

  abbrev typed : List ℕ
  typed = set counted prefix_word_at (prefix_word kinds n)

  long : length relation_of ≡ sheet_words
  long = length_related n few left (marks_all marks rules unmarked) fresh

  -- its operators are n of these kinds, where none is strange
  pub operators_made : length kinds ≡ n → any_holds strange_kind kinds ≡ false → operators_of (sheet_of n kinds rules) ≡ operators n kinds
  unfolding operators_of sheet_of
  operators_made as_many plain =
      ap₂ (λ (m w : ℕ). operators_by (m % 256) w)
      (get_or-set_other typed loaded_word count_word 1 0 (λ e. omega arith) ∙ get_or-set_other counted prefix_word_at count_word (prefix_word kinds n) 0 (λ e. omega arith)
      ∙ get_or-set_same relation_of count_word n 0 (omega (arith, long)))
      (get_or-set_other typed loaded_word prefix_word_at 1 0 (λ e. omega arith) ∙ get_or-set_same counted prefix_word_at (prefix_word kinds n) 0 (omega (arith, length-set relation_of count_word n, long)))
      ∙ ap (λ (m : ℕ). operators_by m (prefix_word kinds n)) (omega arith)
      ∙ operators_back n kinds as_many plain

  -- its relation is the patterns R, where no rule is strange
  pub closes_made : any_holds (strange_rule n) rules ≡ false → (a b : ℕ) → a < most_operators → b < most_operators → closes_in (sheet_of n kinds rules) a b ≡ R rules a b
  unfolding sheet_of
  closes_made plain a b ha hb =
      closes_bit (set typed loaded_word 1) a b ha hb
      ∙ ap (λ (w : ℕ). bit_of w b)
      (get_or-set_other typed loaded_word a 1 0 (λ e. omega arith) ∙ get_or-set_other counted prefix_word_at a (prefix_word kinds n) 0 (λ e. omega arith)
      ∙ get_or-set_other relation_of count_word a n 0 (λ e. omega arith))
      ∙ sym (closes_bit relation_of a b ha hb)
      ∙ related_is_R n few rules plain a b ha hb

  -- it was loaded
  pub loaded_made : is_loaded (sheet_of n kinds rules) ≡ true
  unfolding is_loaded sheet_of
  loaded_made = ap (λ w. not (eqb w 0)) (get_or-set_same typed loaded_word 1 0 (omega (arith, length-set counted prefix_word_at (prefix_word kinds n), length-set relation_of count_word n, long)))

-- what number 0 says of n and the bytes
pub accepted_by : (n : ℕ) (bytes : List ℕ) → sheet_number n bytes ≡ accepted → Ordered n bytes × (verdict (operators_in n bytes) (rules_in n bytes) ≡ accepted)
unfolding sheet_number verdict
accepted_by n bytes e =
    let (passed, accepts) = given_after accepted (order_checks n bytes) (rule_checks (operators_in n bytes) (L (rules_in n bytes)) (R (rules_in n bytes))) refl e in
    (ordered n bytes passed, accepts)

-- ---- the sheet in force
-- made of accepted bytes
pub made_in_force : (n : ℕ) (bytes : List ℕ) → sheet_number n bytes ≡ accepted → InForce (sheet_of n (kinds_in n bytes) (rules_in n bytes)) (operators_in n bytes) (rules_in n bytes)
made_in_force n bytes z =
    record {
      few = k.few;
      operators = operators_made n k.few kinds rules k.as_many k.known_kinds;
      accepts = accepts;
      right = closes_everywhere (sheet_of n kinds rules) (R rules) below (closes_made n k.few kinds rules k.plain);
      left = opposed;
    }
  where
    k : Ordered n bytes
    k = (accepted_by n bytes z).0

    accepts : verdict (operators_in n bytes) (rules_in n bytes) ≡ accepted
    accepts = (accepted_by n bytes z).1

    kinds : List ℕ
    kinds = kinds_in n bytes

    rules : List Rule
    rules = rules_in n bytes

    below : (a b : ℕ) → R rules a b ≡ true → (a < most_operators) × (b < most_operators)
    below a b e = let m = R_below n rules a b k.plain e in (omega (arith, k.few), omega (arith, k.few))

    opposed : (a b : ℕ) → a < n → class (operators_in n bytes) b ≡ Infix → L rules b a ≡ not (closes_in (sheet_of n kinds rules) a b)
    opposed a b ha hb =
        opposite (operators_in n bytes) rules (accepted_passes (operators_in n bytes) rules accepts) a b ha hb
        ∙ ap not (sym (closes_made n k.few kinds rules k.plain a b (omega (arith, k.few)) (omega (arith, k.few, infix_below (operators_in n bytes) b hb))))

-- the fresh sheet was not loaded
pub fresh_not_loaded : is_loaded fresh ≡ false
unfolding is_loaded
fresh_not_loaded = refl

-- before any load
pub fresh_in_force : InForce fresh (operators 0 []) []
unfolding operators_of verdict safe total level all_below R
fresh_in_force = record { few = omega arith; operators = refl; accepts = refl; right = closes_fresh; left = λ a b h. absurd (omega arith) }

-- ---- what the relation decides
module _ (sheet : List ℕ) (ops : Operators) (rules : List Rule) (k : InForce sheet ops rules) where
  -- the conflict count of a tree over the sheet's operators needs only the relation
  pub count_by_relation : (t : Tree) → Over (class ops) t → conflict_count rules t ≡ conflicts (λ b a. not (closes_in sheet a b)) (closes_in sheet) t
  count_by_relation = count_by_closes ops rules (accepted_passes ops rules k.accepts) (closes_in sheet) (λ a b _ _. k.right a b)

  -- every row over the sheet's operators has exactly one conflict-free tree
  pub every_row_has_one : EveryRowHasExactlyOne ops rules
  every_row_has_one = (accepted_exactly_if ops rules k.few).0 k.accepts
