-- What a witness shows, in the terms of rows and their conflict-free trees. Assumes nothing.
use Rattle.std.specs.Prelude.{ℕ, ◌<◌, ◌≡◌, cond, ◌⊎◌, List, [], ◌∷◌, length}
use Rattle.expression.specs.Refusal.{accepted, dead, double}
use Rattle.expression.specs.Token.{Infix, Operators, class}
use Rattle.expression.specs.Tree.{Tree, yield, record_of}
use Rattle.expression.specs.Grammar.{Row}
use Rattle.disambiguation.specs.Rules.{Rule}
use Rattle.disambiguation.specs.Conflicts.{ConflictFreeTree}
use Rattle.disambiguation.specs.ExactlyOne.{HasNone, HasTwo}
use Rattle.disambiguation.specs.Verdict.{comes, verdict}
use Rattle.disambiguation.specs.Witness.{Witness, sound, no_tree, two_trees}

-- The verdict on the rules is 0; or it is 4, and the tree's row has no conflict-free tree; or it is 5, and both are conflict-free trees of the row of the
-- first, with different records, and no third tree is.
abbrev pub Shown : Operators → List Rule → Witness → Type 0
Shown ops rules sound = verdict ops rules ≡ accepted
Shown ops rules (no_tree t) = (verdict ops rules ≡ dead) × Row ops (yield t) × HasNone ops rules (yield t)
Shown ops rules (two_trees t u) =
    (verdict ops rules ≡ double) × Row ops (yield t) × ConflictFreeTree ops rules (yield t) t × ConflictFreeTree ops rules (yield t) u
    × (record_of t ≡ record_of u → ⊥) × ((v : Tree) → ConflictFreeTree ops rules (yield t) v → (v ≡ t) ⊎ (v ≡ u))

-- Both records have as many bytes as the row has tokens.
abbrev pub AsLong : Witness → Type 0
AsLong sound = Unit {0}
AsLong (no_tree t) = Unit {0}
AsLong (two_trees t u) = (length (record_of t) ≡ length (yield t)) × (length (record_of u) ≡ length (yield t))

-- the row of a and b, and of a, b and c: before a prefix a there is no operand
abbrev pub pair_row : Operators → ℕ → ℕ → List ℕ
pair_row ops a b = cond (comes ops a) (0x80 ∷ a ∷ 0x81 ∷ b ∷ 0x82 ∷ []) (a ∷ 0x80 ∷ b ∷ 0x81 ∷ [])

abbrev pub triple_row : Operators → ℕ → ℕ → ℕ → List ℕ
triple_row ops a b c = cond (comes ops a) (0x80 ∷ a ∷ 0x81 ∷ b ∷ 0x82 ∷ c ∷ 0x83 ∷ []) (a ∷ 0x80 ∷ b ∷ 0x81 ∷ c ∷ 0x82 ∷ [])

-- ---- the first row
-- a and b come before x and y; a, b and c before x, y and z: smaller operators first, from the left
abbrev pub PairBefore : ℕ → ℕ → ℕ → ℕ → Type 0
PairBefore a b x y = (a < x) ⊎ ((a ≡ x) × (b < y))

abbrev pub TripleBefore : ℕ → ℕ → ℕ → ℕ → ℕ → ℕ → Type 0
TripleBefore a b c x y z = (a < x) ⊎ ((a ≡ x) × PairBefore b c y z)

-- Of a statement about an operator a and an infix b, or about a and infix b and c: it holds of none; it holds of these, and of none that come before them.
module _ (ops : Operators) where
  abbrev pub OfNoPair : (ℕ → ℕ → Type 0) → Type 0
  OfNoPair P = (a b : ℕ) → a < ops.count → class ops b ≡ Infix → P a b → ⊥

  abbrev pub OfNoTriple : (ℕ → ℕ → ℕ → Type 0) → Type 0
  OfNoTriple P = (a b c : ℕ) → a < ops.count → class ops b ≡ Infix → class ops c ≡ Infix → P a b c → ⊥

  pub record FirstPair (P : ℕ → ℕ → Type 0) (a b : ℕ) : Type 0 where
    pub below : a < ops.count
    pub second_infix : class ops b ≡ Infix
    pub holds : P a b
    pub none_before : OfNoPair (λ x y. PairBefore x y a b × P x y)

  pub record FirstTriple (P : ℕ → ℕ → ℕ → Type 0) (a b c : ℕ) : Type 0 where
    pub below : a < ops.count
    pub second_infix : class ops b ≡ Infix
    pub third_infix : class ops c ≡ Infix
    pub holds : P a b c
    pub none_before : OfNoTriple (λ x y z. TripleBefore x y z a b c × P x y z)

module _ (ops : Operators) (rules : List Rule) where
  -- their row has no conflict-free tree, or at least two
  abbrev pub NoneOfPair : ℕ → ℕ → Type 0
  NoneOfPair a b = HasNone ops rules (pair_row ops a b)

  abbrev pub TwoOfPair : ℕ → ℕ → Type 0
  TwoOfPair a b = HasTwo ops rules (pair_row ops a b)

  abbrev pub TwoOfTriple : ℕ → ℕ → ℕ → Type 0
  TwoOfTriple a b c = HasTwo ops rules (triple_row ops a b c)

  -- The witness has the first row that shows a fault:
  pub data FirstRow : Witness → Type 0 where
    -- the first row of two operators that has no conflict-free tree;
    none_of_pair : (a b : ℕ) (t : Tree) → FirstPair ops NoneOfPair a b → yield t ≡ pair_row ops a b → FirstRow (no_tree t)
    -- where each has one, the first row of two operators that has at least two;
    two_of_pair : (a b : ℕ) (t u : Tree) → OfNoPair ops NoneOfPair → FirstPair ops TwoOfPair a b → yield t ≡ pair_row ops a b → FirstRow (two_trees t u)
    -- where each has exactly one, the first row of three operators that has at least two;
    two_of_triple : (a b c : ℕ) (t u : Tree) → OfNoPair ops NoneOfPair → OfNoPair ops TwoOfPair → FirstTriple ops TwoOfTriple a b c
        → yield t ≡ triple_row ops a b c → FirstRow (two_trees t u)
    -- and else there is none.
    no_fault : OfNoPair ops NoneOfPair → OfNoPair ops TwoOfPair → OfNoTriple ops TwoOfTriple → FirstRow sound
