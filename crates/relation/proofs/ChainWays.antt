-- What each way through the making of a relation gives, from what is known on it. Assumes nothing.
use mathlib.Core.Path.{◌≡◌, refl, ap, ◌∙◌}
use mathlib.Core.List.{List}
use Prim.Native.Nat.{ℕ, ◌+◌}
use native.Mathlib.Numerals.{add-one}
use borrow.Author.Rules.{rules}
use lib.Bits.{bit_or}
use lib.ListN.{get_or, set}
use Rattle.disambiguation.specs.Rules.{priority}
use Rattle.relation.specs.Marking.{word_of}
use Rattle.relation.specs.Chaining.{changed, added, joined, passed, chained, related}

-- ---- pass
module _ (k : ℕ) (t : List ℕ) where
  pub passing_starts : t ≡ passed 0 k t
  unfolding passed changed
  passing_starts = refl

  pub passing_more : {w : ℕ} (a : ℕ) (u : List ℕ) → u ≡ passed a k t → w ≡ joined (get_or u a 0) k (get_or t k 0) → set u a w ≡ passed (a + 1) k t
  unfolding passed changed
  passing_more a u p e = rw (add-one, e, ← p) refl

pub ruleset pass_ways = (passing_starts, passing_more, rules)

-- ---- chain
module _ (n : ℕ) (t : List ℕ) where
  pub chaining_starts : t ≡ chained n 0 t
  unfolding chained
  chaining_starts = refl

  pub chaining_more : {v : List ℕ} (k : ℕ) (u : List ℕ) → u ≡ chained n k t → v ≡ passed n k u → v ≡ chained n (k + 1) t
  unfolding chained
  chaining_more k u p e = rw (add-one, e, p) refl

pub ruleset chain_ways = (chaining_starts, chaining_more, rules)

-- ---- add
module _ (kind : ℕ) (marks t : List ℕ) where
  pub adding_starts : t ≡ added 0 kind marks t
  unfolding added changed
  adding_starts = refl

  pub adding_more : {at : ℕ} (a : ℕ) (u : List ℕ) → u ≡ added a kind marks t → at ≡ word_of kind a → set u a (bit_or (get_or u a 0) (get_or marks at 0)) ≡ added (a + 1) kind marks t
  unfolding added changed
  adding_more a u p e = rw (add-one, e, p) refl

pub ruleset add_ways = (adding_starts, adding_more, rules)

-- ---- relate
pub all_parts : (n side : ℕ) (marks t u v w : List ℕ) → u ≡ added n priority marks t → v ≡ chained n n u → w ≡ added n side marks v → w ≡ related n side marks t
unfolding related
all_parts n side marks t u v w p q r = r ∙ ap (added n side marks) (q ∙ ap (chained n n) p)

pub ruleset relate_ways = (all_parts, rules)
