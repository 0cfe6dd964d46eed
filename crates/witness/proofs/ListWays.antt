-- What each way through explaining a sheet of two lists gives, from what is known on it. Assumes nothing.
use mathlib.Core.Path.{◌≡◌, refl, sym, ap, ap₂, subst, ◌∙◌}
use mathlib.Core.Bool.{or-true}
use mathlib.Core.List.{List, [], ◌∷◌, ◌++◌, append_assoc}
use Prim.Native.Nat.{ℕ, suc, ◌+◌, ◌-◌, ◌*◌, ◌/◌, ◌<◌, ◌≤◌}
use native.Mathlib.Omega.{arith}
use borrow.Author.Rules.{rules}
use borrow.Author.Tests.{lt-ltb, ne_eqb}
use borrow.Rule.Slice.PartMut.{mid_of, post_of, put_mid}
use lib.Dec.{ltb}
use lib.ListN.{length, take, drop}
use lib.Seq.{take-append_seam, drop_at, length-take-le}
use Rattle.expression.specs.Checks.{short_check}
use Rattle.expression.specs.Limits.{most_operators, most_rules, most_rule_bytes, bytes_of_rule}
use Rattle.expression.specs.Refusal.{Check, accepted, oversize}
use Rattle.std.specs.Prelude.{Err}
use Rattle.expression.specs.Outcome.{number_of}
use Rattle.expression.specs.declared.refusal.Refusal.{Refusal}
use Rattle.expression.specs.Token.{operators}
use Rattle.disambiguation.specs.Rules.{Rule}
use Rattle.disambiguation.specs.SheetChecks.{rules_of, rule_bytes, order_checks, list_order_checks}
use Rattle.disambiguation.specs.Witness.{witness_of, witness_bytes}
use Rattle.disambiguation.proofs.RuleBytes.{kinds_back, rules_in_lem, list_checks}
use Rattle.sheet.specs.Lists.{kinds_number, buffer_bytes, PutsKinds}
use Rattle.sheet.proofs.ListLaws.{kinds_known, kinds_refused, kinds_begin}
use Rattle.sheet.proofs.Loading.{refusal_told}
use Rattle.record.specs.Outcome.{answer_of}
use Rattle.record.specs.declared.Answer.{Answer}
use Rattle.witness.specs.Explaining.{AnswersWith, explained, Explains, explained_list, ExplainsList}

-- ---- explain_joined
-- how many places there are past the room for the kinds
abbrev wide : ℕ
wide = buffer_bytes - most_operators

module _ (rules before part : List ℕ) (size : length before ≡ buffer_bytes)
    (copied : part ≡ rules ++ drop (length rules) (mid_of most_operators wide before)) where
  -- the copy puts the rules at their place
  rules_there : take (length rules) (drop most_operators (put_mid most_operators wide before part)) ≡ rules
  rules_there =
      ap (take (length rules)) (drop_at (take most_operators before) (part ++ behind) most_operators (length-take-le most_operators before (omega (arith, size))))
      ∙ ap (λ s. take (length rules) (s ++ behind)) copied
      ∙ ap (take (length rules)) (append_assoc rules left_over behind)
      ∙ take-append_seam rules (left_over ++ behind)
    where
      left_over : List ℕ
      left_over = drop (length rules) (mid_of most_operators wide before)

      behind : List ℕ
      behind = post_of most_operators wide before

  pub joined_explained : (n : ℕ) (kinds out : List ℕ) {from : ℕ} {bytes after : List ℕ} {r : Answer}
      → PutsKinds kinds (put_mid most_operators wide before part) from bytes
      → Explains n (take (most_operators + length rules - from) (drop from bytes)) out after r → Explains n (kinds ++ rules) out after r
  joined_explained n kinds out {from} {bytes} {after} {r} puts k =
      subst (λ s. Explains n s out after r) (puts.holds (length rules) ∙ ap (λ s. kinds ++ s) rules_there) k

pub ruleset explain_joined_ways = (kinds_begin, joined_explained, rules)

-- ---- the bytes of rules, three a rule
whole_rules : (bytes : List ℕ) → rule_bytes (rules_of bytes) ≡ take (length bytes / bytes_of_rule * bytes_of_rule) bytes
unfolding rule_bytes
whole_rules [] = refl
whole_rules (k ∷ []) = refl
whole_rules (k ∷ a ∷ []) = refl
whole_rules (k ∷ a ∷ b ∷ rest) = ap (λ s. k ∷ a ∷ b ∷ s) (whole_rules rest) ∙ ap (λ m. take m (k ∷ a ∷ b ∷ rest)) three_more
  where
    three_more : suc (suc (suc (length rest / bytes_of_rule * bytes_of_rule))) ≡ suc (suc (suc (length rest))) / bytes_of_rule * bytes_of_rule
    three_more = omega arith

rule_count : (bytes : List ℕ) → length (rules_of bytes) ≡ length bytes / bytes_of_rule
rule_count [] = refl
rule_count (k ∷ []) = refl
rule_count (k ∷ a ∷ []) = refl
rule_count (k ∷ a ∷ b ∷ rest) = omega (arith, rule_count rest)

-- the answer of lists is that of their bytes
pub list_answer : (n : ℕ) (kinds : List ℕ) (rules : List Rule) → length kinds ≡ n → explained n (kinds ++ rule_bytes rules) ≡ explained_list n kinds rules
unfolding explained explained_list
list_answer n kinds rules as_many =
    ap₂ (λ ks rs. witness_bytes (witness_of (operators n ks) rs)) (kinds_back n kinds rules as_many) (rules_in_lem n kinds rules as_many)

-- ---- explain_list
-- the bytes of the rules that are whole, as they are lent
abbrev used : List ℕ → List ℕ
used rules = take (length rules / bytes_of_rule * bytes_of_rule) rules

pub rules_fit : (rules : List ℕ) → length rules / bytes_of_rule ≤ most_rules → length (used rules) ≤ most_rule_bytes
rules_fit rules fit = omega (arith, fit, length-take-le (length rules / bytes_of_rule * bytes_of_rule) rules (omega arith))

module _ (n : ℕ) (kinds rules out : List ℕ) where
  pub many_rules : most_rules < length rules / bytes_of_rule → ExplainsList n kinds (rules_of rules) out out (record { number = oversize; length = 0 })
  many_rules many =
      record {
        numbered = rw (rule_count rules, lt-ltb most_rules (length rules / bytes_of_rule) many, or-true (ltb most_operators n));
        measured = refl;
        output = refl;
      }

  pub other_kinds : (e : Refusal) → length rules / bytes_of_rule ≤ most_rules → number_of e ≡ kinds_number n (length kinds)
      → ExplainsList n kinds (rules_of rules) out out (answer_of (Err e))
  other_kinds e fit q =
      record {
        numbered = q ∙ sym (kinds_refused n kinds (rules_of rules) short (omega (arith, fit, rule_count rules)) (λ z. refusal_told e (q ∙ z)));
        measured = rw (ne_eqb (number_of e) accepted (refusal_told e));
        output = rw (ne_eqb (number_of e) accepted (refusal_told e));
      }
    where
      short : List Check
      short = short_check (length (explained_list n kinds (rules_of rules))) (length out) ∷ []

  module _ (zero : 0 ≡ kinds_number n (length kinds)) where
    pub kinds_fit : length kinds ≤ most_operators
    kinds_fit = let (few, as_many) = kinds_known n (length kinds) (sym zero) in omega arith

    pub list_explained : {after : List ℕ} {r : Answer} → Explains n (kinds ++ used rules) out after r → ExplainsList n kinds (rules_of rules) out after r
    list_explained {after} {r} k = subst (λ cs. AnswersWith cs (explained_list n kinds (rules_of rules)) out after r) (sym checks) by_bytes
      where
        as_many : length kinds ≡ n
        as_many = (kinds_known n (length kinds) (sym zero)).1

        all : kinds ++ used rules ≡ kinds ++ rule_bytes (rules_of rules)
        all = ap (λ s. kinds ++ s) (sym (whole_rules rules))

        checks : list_order_checks n kinds (rules_of rules) ≡ order_checks n (kinds ++ rule_bytes (rules_of rules))
        checks = list_checks n kinds (rules_of rules) as_many

        answers : explained n (kinds ++ rule_bytes (rules_of rules)) ≡ explained_list n kinds (rules_of rules)
        answers = list_answer n kinds (rules_of rules) as_many

        by_bytes : AnswersWith (order_checks n (kinds ++ rule_bytes (rules_of rules))) (explained_list n kinds (rules_of rules)) out after r
        by_bytes =
            subst (λ s. AnswersWith (order_checks n (kinds ++ rule_bytes (rules_of rules))) s out after r) answers (subst (λ s. Explains n s out after r) all k)

pub ruleset explain_list_ways = (many_rules, other_kinds, kinds_fit, rules_fit, list_explained, rules)
