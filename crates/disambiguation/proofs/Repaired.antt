-- Repair is what the machine makes of a tree's row: the row stays, and under a safe sheet no conflict is left. Assumes nothing.
use Prim.Native.Nat.{ℕ}
use mathlib.Core.Path.{◌≡◌, ap}
use mathlib.Core.Bool.{Bool}
use mathlib.Core.Option.{some}
use Rattle.expression.specs.Token.{Operators, class}
use Rattle.expression.specs.Tree.{Tree, yield, Over}
use Rattle.expression.proofs.Classes.{brackets}
use Rattle.disambiguation.specs.Conflicts.{conflicts}
use Rattle.disambiguation.specs.LeftToRight.{made}
use Rattle.disambiguation.specs.Repair.{or_else, repair}
use Rattle.disambiguation.proofs.Conditions.{Safe}
use Rattle.disambiguation.proofs.MakesTree.{Makes, parse_makes}
use Rattle.disambiguation.proofs.SafeMakes.{conflicts_safe}

module _ (closes : ℕ → ℕ → Bool) (ops : Operators) where
  -- Of the row of every tree over a sheet's operators a tree is made.
  pub made_makes : (t₀ : Tree) → Over (class ops) t₀ → (t : Tree) × (made ops closes (yield t₀) ≡ some t) × Makes closes (class ops) (yield t₀) t
  unfolding made
  made_makes t₀ h = let (t, m) = parse_makes closes (class ops) (brackets ops) t₀ h in (t, m.parses, m)

  -- where the machine makes a tree, that is the repaired one
  pub repair_made : (t u : Tree) → made ops closes (yield t) ≡ some u → repair ops closes t ≡ u
  unfolding repair
  repair_made t u e = ap (or_else t) e

  module _ (t : Tree) (h : Over (class ops) t) where
    pub repair_makes : Makes closes (class ops) (yield t) (repair ops closes t)
    repair_makes = let (u, e, m) = made_makes t h in rw (repair_made t u e) m

    pub yield_repair : yield (repair ops closes t) ≡ yield t
    yield_repair = repair_makes.yields_row

    pub repair_safe : (L : ℕ → ℕ → Bool) → Safe L closes (class ops) → conflicts L closes (repair ops closes t) ≡ 0
    repair_safe L safe = conflicts_safe L closes (class ops) safe (repair ops closes t) repair_makes.over repair_makes.free
