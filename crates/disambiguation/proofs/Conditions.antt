-- The conditions on a sheet, each as what no operators do. In a row, a stands left of b, and b left of c. Assumes nothing.
use Prim.Native.Nat.{ℕ}
use mathlib.Core.Path.{◌≡◌, ap}
use mathlib.Core.Bool.{Bool, true, false}
use Rattle.expression.specs.Lists.{All}
use Rattle.expression.specs.Token.{Class, Infix, Prefix, Opening, Closing, Reading, Meaningless}
use Rattle.expression.specs.Tree.{Tree, reading, bracket, binary, prefix, Over}
use Rattle.disambiguation.specs.Edges.{right_edge}

-- an operator that takes an operand on its right, infix or prefix, and so may wait for it
abbrev pub waits : Class → Bool
waits Infix = true
waits Prefix = true
waits Opening = false
waits Closing = false
waits Reading = false
waits Meaningless = false

-- an operator that takes an operand on its left, and so makes others close
abbrev pub takes : Class → Bool
takes Infix = true
takes Prefix = false
takes Opening = false
takes Closing = false
takes Reading = false
takes Meaningless = false

module _ (L R : ℕ → ℕ → Bool) (k : ℕ → Class) where
  -- neither of a and b may have the other below it
  abbrev pub Safe : Type 0
  Safe = (a b : ℕ) → waits (k a) ≡ true → takes (k b) ≡ true → R a b ≡ true → L b a ≡ true → ⊥

  -- both may
  abbrev pub Total : Type 0
  Total = (a b : ℕ) → waits (k a) ≡ true → takes (k b) ≡ true → R a b ≡ false → L b a ≡ false → ⊥

-- a closes before b and b before c, yet a does not close before c
abbrev pub Transitive : (ℕ → ℕ → Bool) → (ℕ → Class) → Type 0
Transitive R k = (a b c : ℕ) → waits (k a) ≡ true → k b ≡ Infix → takes (k c) ≡ true → R a b ≡ true → R b c ≡ true → R a c ≡ false → ⊥

-- a does not close before b nor b before c, yet a closes before c
abbrev pub Cotransitive : (ℕ → ℕ → Bool) → (ℕ → Class) → Type 0
Cotransitive R k = (a b c : ℕ) → waits (k a) ≡ true → k b ≡ Infix → k c ≡ Infix → R a b ≡ false → R b c ≡ false → R a c ≡ true → ⊥

pub right_edge_waits : (k : ℕ → Class) (t : Tree) → Over k t → All (λ p. waits (k p) ≡ true) (right_edge t)
right_edge_waits k (reading a) h = tt
right_edge_waits k (bracket t) h = tt
right_edge_waits k (binary o l r) h = (ap waits h.0, right_edge_waits k r h.2)
right_edge_waits k (prefix p t) h = (ap waits h.0, right_edge_waits k t h.1)
