-- Rules with prefix operators: which of their patterns a tree over the operators can show, and which rules exclude nothing. Assumes nothing.
use Rattle.std.specs.Prelude.{ℕ, ◌≤◌, ◌≡◌, Bool, true, false, ◌↔◌, ◌⊎◌, List, ◌∷◌, ◌++◌, take}
use Rattle.expression.specs.Limits.{most_operators}
use Rattle.expression.specs.Lists.{selected}
use Rattle.expression.specs.Token.{Class, Infix, Prefix, Opening, Closing, Reading, Meaningless, Operators, class}
use Rattle.expression.specs.Tree.{Tree, Over}
use Rattle.disambiguation.specs.Rules.{Rule, priority, left, right, Leads, L, R}
use Rattle.disambiguation.specs.Edges.{right_edge, left_edge, prefixes, on_top}
use Rattle.disambiguation.specs.Conflicts.{conflict_count, ConflictFreeTree}
use Rattle.disambiguation.specs.Verdict.{verdict}

abbrev pub is_prefix : Class → Bool
is_prefix Infix = false
is_prefix Prefix = true
is_prefix Opening = false
is_prefix Closing = false
is_prefix Reading = false
is_prefix Meaningless = false

-- What is seen of an operand is on its edges: the infix operator on top is the first of the left edge; `prefixes` are all prefix operators of the right one.
pub record SeenOnEdges (k : ℕ → Class) (t : Tree) : Type 0 where
  pub top : on_top t ≡ take 1 (left_edge t)
  pub along_right : prefixes t ≡ selected (λ o. is_prefix (k o)) (right_edge t)

-- Under both lists of rules every tree over the operators has the same conflict count and every row the same conflict-free trees; and the verdict is the same.
pub record JudgeAlike (ops : Operators) (rules others : List Rule) : Type 0 where
  pub counts : (t : Tree) → Over (class ops) t → conflict_count rules t ≡ conflict_count others t
  pub trees : (row : List ℕ) (t : Tree) → ConflictFreeTree ops rules row t ↔ ConflictFreeTree ops others row t
  pub verdicts : ops.count ≤ most_operators → verdict ops rules ≡ verdict ops others

-- Both lists exclude the same of the patterns that a tree can show: L(a,b) for an infix a, as a prefix operator has no left operand; R(a,b) for an infix b, as
-- no operator sees a prefix one in its right or only operand.
pub record AgreeOnShown (ops : Operators) (rules others : List Rule) : Type 0 where
  pub in_left_operand : (a b : ℕ) → class ops a ≡ Infix → L rules a b ≡ L others a b
  pub in_right_operand : (a b : ℕ) → class ops b ≡ Infix → R rules a b ≡ R others a b

-- "a left p" or "p right b" with a prefix operator p; the other operator is infix or prefix
abbrev pub SideWithPrefix : Operators → Rule → Type 0
SideWithPrefix ops r = ((r.kind ≡ left) × (class ops r.second ≡ Prefix)) ⊎ ((r.kind ≡ right) × (class ops r.first ≡ Prefix))

-- "p over q" with prefix operators p and q, where priority leads by the rules from no infix operator to p, and from q to none
pub record OverAmongPrefix (ops : Operators) (rules : List Rule) (r : Rule) : Type 0 where
  pub over : r.kind ≡ priority
  pub first_prefix : class ops r.first ≡ Prefix
  pub second_prefix : class ops r.second ≡ Prefix
  pub none_to : (a : ℕ) → class ops a ≡ Infix → Leads rules a r.first → ⊥
  pub none_on : (c : ℕ) → class ops c ≡ Infix → Leads rules r.second c → ⊥

-- Other rules with a prefix operator exclude nothing.
pub record OtherRules (ops : Operators) : Type 0 where
  -- An operator sees of an operand what is on its edges;
  pub seen : (t : Tree) → Over (class ops) t → SeenOnEdges (class ops) t
  -- so rules that agree on the patterns that a tree can show judge alike, whatever else they say.
  pub agreeing : (rules others : List Rule) → AgreeOnShown ops rules others → JudgeAlike ops rules others
  -- Wherever such a rule stands among others, it changes nothing: a left p, and p right b,
  pub sides : (before after : List Rule) (r : Rule) → SideWithPrefix ops r → JudgeAlike ops (before ++ r ∷ after) (before ++ after)
  -- and p over q, where no chain of priority leads on through it.
  pub priorities : (before after : List Rule) (r : Rule) → OverAmongPrefix ops (before ++ after) r → JudgeAlike ops (before ++ r ∷ after) (before ++ after)
