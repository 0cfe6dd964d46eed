-- Where the excluded patterns are safe, the tree that the machine makes of a row has no conflict under them. Assumes nothing.
use Prim.Native.Nat.{ℕ}
use mathlib.Core.Path.{◌≡◌, ap}
use mathlib.Core.Bool.{Bool, true}
use borrow.Author.Tests.{not-false}
use Rattle.expression.specs.Token.{Class}
use Rattle.expression.specs.Tree.{Tree, reading, bracket, binary, prefix, yield, Over}
use Rattle.expression.proofs.Classes.{Brackets}
use Rattle.disambiguation.specs.Edges.{shown_as_left_operand}
use Rattle.disambiguation.specs.Conflicts.{conflicts}
use Rattle.disambiguation.proofs.Free.{is_false, all_map, Free, free_of_count, count_of_free, seen_on_edge}
use Rattle.disambiguation.proofs.Conditions.{waits, takes, Safe, right_edge_waits}
use Rattle.disambiguation.proofs.MachineInvariant.{yields}
use Rattle.disambiguation.proofs.MakesTree.{Makes, parse_makes}

module _ (L closes : ℕ → ℕ → Bool) (k : ℕ → Class) (safe : Safe L closes k) where
  -- an operator that closes before o may stand on its left
  free_safe : (t : Tree) → Over k t → Free (yields closes) closes t → Free L closes t
  free_safe (reading a) h f = f
  free_safe (bracket t) h f = free_safe t h f
  free_safe (binary o l r) h f = (
    all_map (λ p w e. is_false (L o p) (safe p o w (ap takes h.0) (not-false (closes p o) e))) (shown_as_left_operand l)
        (seen_on_edge (λ p. waits (k p) ≡ true) l (right_edge_waits k l h.1)) f.0,
    f.1,
    free_safe l h.1 f.2,
    free_safe r h.2 f.3,
  )
  free_safe (prefix p t) h f = (f.0, free_safe t h.1 f.1)

  pub conflicts_safe : (t : Tree) → Over k t → conflicts (yields closes) closes t ≡ 0 → conflicts L closes t ≡ 0
  conflicts_safe t h e = count_of_free L closes t (free_safe t h (free_of_count (yields closes) closes t e))

  -- Every row has a tree without conflict: the one that is made of it.
  pub makes_safe : Brackets k → (t₀ : Tree) → Over k t₀ → (t : Tree) × Makes closes k (yield t₀) t × (conflicts L closes t ≡ 0)
  makes_safe brackets t₀ h = let (t, m) = parse_makes closes k brackets t₀ h in (t, m, conflicts_safe t m.over m.free)
