-- What each way through the reading of rules gives, from what is known on it. Assumes nothing.
use mathlib.Core.Path.{◌≡◌, refl, sym, ap, ◌∙◌}
use mathlib.Core.Bool.{Bool, true, false, ◌||◌, true≢false, or-true}
use mathlib.Core.List.{List, [], ◌∷◌}
use Prim.Native.Nat.{ℕ, ◌-◌, ◌*◌, ◌%◌, ◌^◌, ◌<◌, ◌≤◌}
use native.Mathlib.Omega.{arith}
use borrow.Author.Tests.{lt-ltb, le-ltb}
use borrow.Author.Rules.{rules}
use lib.Bits.{bit_or}
use lib.ListN.{length, get_or, take, drop, set}
use lib.Seq.{take_all}
use Rattle.expression.specs.Lists.{any_holds}
use Rattle.expression.specs.Limits.{most_operators}
use Rattle.disambiguation.specs.Rules.{Rule, rule}
use Rattle.disambiguation.specs.SheetChecks.{rules_of, strange_rule}
use Rattle.relation.specs.Kinds.{strange_code}
use Rattle.relation.specs.Marking.{word_of, marked, marks, marks_turned, marks_all, Takes, Reads}
use Rattle.relation.proofs.Bits.{one_shifted}

-- ---- mark
pub mark_is : {at : ℕ} (t : List ℕ) (k a b : ℕ) → at ≡ word_of k a → b < most_operators → set t at (bit_or (get_or t at 0) ((1 * 2 ^ b) % 2 ^ 32)) ≡ marked t k a b
unfolding marked
mark_is t k a b e h = rw e (ap (λ x. set t (word_of k a) (bit_or (get_or t (word_of k a) 0) x)) (one_shifted b 32 h))

pub ruleset mark_ways = (mark_is, rules)

-- ---- take
module _ (n k a b : ℕ) (t u : List ℕ) where
  take_strange : strange_rule n (rule k a b) ≡ true → Takes n (rule k a b) t u t u true
  take_strange e = record { strange = sym e; marks_ahead = λ f. absurd (true≢false f); marks_back = λ f. absurd (true≢false f) }

  pub take_code : strange_code k ≡ true → Takes n (rule k a b) t u t u true
  take_code e = take_strange (rw e)

  pub take_first : n ≤ a → Takes n (rule k a b) t u t u true
  take_first h = take_strange (rw (le-ltb a n h, or-true))

  pub take_second : n ≤ b → Takes n (rule k a b) t u t u true
  take_second h = take_strange (rw (le-ltb b n h, or-true))

  pub take_marked : {c : ℕ} (t' u' : List ℕ) → c ≡ k → strange_code k ≡ false → a < n → b < n → t' ≡ marked t c a b → u' ≡ marked u c b a
      → Takes n (rule k a b) t u t' u' false
  unfolding marks marks_turned
  take_marked t' u' c e h l m w =
      record {
        strange = sym (rw (e, lt-ltb a n h, lt-ltb b n l));
        marks_ahead = λ f. rw c at m;
        marks_back = λ f. rw c at w;
      }

pub ruleset take_ways = (take_code, take_first, take_second, take_marked, rules)

-- ---- read
-- The rules that are left decide the rest.
pub record Remaining (n : ℕ) (bytes t u left t' u' : List ℕ) : Type 0 where
  pub strange : any_holds (strange_rule n) (rules_of bytes) ≡ any_holds (strange_rule n) (rules_of left)
  pub marks_ahead : marks_all marks (rules_of bytes) t ≡ marks_all marks (rules_of left) t'
  pub marks_back : marks_all marks_turned (rules_of bytes) u ≡ marks_all marks_turned (rules_of left) u'

pub remaining_all : (n : ℕ) (bytes t u : List ℕ) → Remaining n bytes t u bytes t u
remaining_all n bytes t u = record { strange = refl; marks_ahead = refl; marks_back = refl }

-- the first, and those after it
abbrev first_rule : List ℕ → Rule
first_rule s = rule (get_or s 0 0) (get_or s 1 0) (get_or s 2 0)

rules_more : (m : ℕ) (s : List ℕ) → 3 ≤ length s → m ≡ length s - 3 → rules_of s ≡ first_rule s ∷ rules_of (take m (drop 3 s))
rules_more m [] l e = absurd (omega arith)
rules_more m (x ∷ []) l e = absurd (omega arith)
rules_more m (x ∷ y ∷ []) l e = absurd (omega arith)
rules_more m (x ∷ y ∷ z ∷ s) l e = ap (λ rest. rule x y z ∷ rules_of rest) (sym (take_all m s (omega arith)))

module _ (n : ℕ) (bytes t u left t₁ u₁ t₂ u₂ : List ℕ) (l : Remaining n bytes t u left t₁ u₁) (h : 3 ≤ length left) where
  strange_more : {r : Bool} (m : ℕ) → m ≡ length left - 3 → Takes n (first_rule left) t₁ u₁ t₂ u₂ r
      → any_holds (strange_rule n) (rules_of bytes) ≡ (r || any_holds (strange_rule n) (rules_of (take m (drop 3 left))))
  strange_more m e taken =
      l.strange ∙ ap (any_holds (strange_rule n)) (rules_more m left h e)
      ∙ ap (λ (p : Bool). p || any_holds (strange_rule n) (rules_of (take m (drop 3 left)))) (sym taken.strange)

  pub remaining_more : {m : ℕ} → m ≡ length left - 3 → Takes n (rule (get_or left 0 0) (get_or left 1 0) (get_or left 2 0)) t₁ u₁ t₂ u₂ false
      → Remaining n bytes t u (take m (drop 3 left)) t₂ u₂
  unfolding marks_all
  remaining_more {m} e taken = record {
    strange = strange_more m e taken;
    marks_ahead =
        l.marks_ahead ∙ ap (λ (rs : List Rule). marks_all marks rs t₁) (rules_more m left h e)
        ∙ ap (marks_all marks (rules_of (take m (drop 3 left)))) (sym (taken.marks_ahead refl));
    marks_back =
        l.marks_back ∙ ap (λ (rs : List Rule). marks_all marks_turned rs u₁) (rules_more m left h e)
        ∙ ap (marks_all marks_turned (rules_of (take m (drop 3 left)))) (sym (taken.marks_back refl));
  }

  pub remaining_strange : Takes n (rule (get_or left 0 0) (get_or left 1 0) (get_or left 2 0)) t₁ u₁ t₂ u₂ true → Reads n bytes t u t₂ u₂ true
  remaining_strange taken = record {
    strange = sym (strange_more (length left - 3) refl taken);
    marks_ahead = λ f. absurd (true≢false f);
    marks_back = λ f. absurd (true≢false f);
  }

pub remaining_none : (n : ℕ) (bytes t u left t₁ u₁ : List ℕ) → length left < 3 → Remaining n bytes t u left t₁ u₁ → Reads n bytes t u t₁ u₁ false
unfolding marks_all
remaining_none n bytes t u left t₁ u₁ h l = record {
  strange = sym (l.strange ∙ ap (any_holds (strange_rule n)) (none left h));
  marks_ahead = λ f. sym (l.marks_ahead ∙ ap (λ (rs : List Rule). marks_all marks rs t₁) (none left h));
  marks_back = λ f. sym (l.marks_back ∙ ap (λ (rs : List Rule). marks_all marks_turned rs u₁) (none left h));
}
  where
    none : (s : List ℕ) → length s < 3 → rules_of s ≡ []
    none [] l = refl
    none (x ∷ []) l = refl
    none (x ∷ y ∷ []) l = refl
    none (x ∷ y ∷ z ∷ s) l = absurd (omega arith)

pub ruleset read_ways = (remaining_all, remaining_more, remaining_strange, remaining_none, rules)
