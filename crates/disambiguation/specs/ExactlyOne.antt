-- How many conflict-free trees the rows over a sheet's operators have. Rows are of any length. Assumes nothing.
use Rattle.std.specs.Prelude.{ℕ, ◌≡◌, List}
use Rattle.expression.specs.Token.{Operators}
use Rattle.expression.specs.Tree.{Tree}
use Rattle.expression.specs.Grammar.{Row}
use Rattle.disambiguation.specs.Rules.{Rule}
use Rattle.disambiguation.specs.Conflicts.{ConflictFreeTree}

module _ (ops : Operators) (rules : List Rule) where
  -- Of one row: it has none; it has one at least; it has at least two different ones; it has exactly one.
  abbrev pub HasNone : List ℕ → Type 0
  HasNone row = (t : Tree) → ConflictFreeTree ops rules row t → ⊥

  abbrev pub HasOne : List ℕ → Type 0
  HasOne row = (t : Tree) × ConflictFreeTree ops rules row t

  abbrev pub HasTwo : List ℕ → Type 0
  HasTwo row = (t : Tree) × (u : Tree) × ConflictFreeTree ops rules row t × ConflictFreeTree ops rules row u × (t ≡ u → ⊥)

  abbrev pub HasExactlyOne : List ℕ → Type 0
  HasExactlyOne row = (t : Tree) × ConflictFreeTree ops rules row t × ((u : Tree) → ConflictFreeTree ops rules row u → u ≡ t)

  -- Of all rows over the operators.
  abbrev pub SomeRowHasNone : Type 0
  SomeRowHasNone = (row : List ℕ) × Row ops row × HasNone row

  abbrev pub EveryRowHasOne : Type 0
  EveryRowHasOne = (row : List ℕ) → Row ops row → HasOne row

  abbrev pub SomeRowHasTwo : Type 0
  SomeRowHasTwo = (row : List ℕ) × Row ops row × HasTwo row

  abbrev pub EveryRowHasExactlyOne : Type 0
  EveryRowHasExactlyOne = (row : List ℕ) → Row ops row → HasExactlyOne row
