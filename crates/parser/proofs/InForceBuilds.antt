-- Under a sheet in force, what is built of a row is the record of the row's conflict-free tree, the only one. Assumes nothing.
use Prim.Native.Nat.{ℕ}
use mathlib.Core.Path.{◌≡◌, refl, ap, sym, ◌∙◌}
use mathlib.Core.Logic.{◌↔◌}
use mathlib.Core.List.{List}
use lib.ListN.{length}
use Rattle.expression.specs.Token.{Operators, class}
use Rattle.expression.specs.Tree.{Tree, yield, record_of, Over}
use Rattle.expression.specs.Grammar.{Row}
use Rattle.expression.proofs.Classes.{brackets}
use Rattle.expression.proofs.RecordsAndTrees.{record_injective}
use Rattle.expression.proofs.RowsAndTrees.{row_exactly_if_yielded}
use Rattle.expression.proofs.Lengths.{same_row_same_length}
use Rattle.disambiguation.specs.Rules.{Rule, R}
use Rattle.disambiguation.specs.Conflicts.{ConflictFreeTree}
use Rattle.disambiguation.specs.Repair.{repair}
use Rattle.disambiguation.proofs.Accepted.{accepted_passes, repair_is, only_one}
use Rattle.sheet.specs.Relation.{closes_in}
use Rattle.sheet.specs.InForce.{InForce}
use Rattle.sheet.proofs.Laws.{count_by_relation}
use Rattle.parser.specs.Build.{built}
use Rattle.parser.proofs.BuildLaws.{BuiltTree, built_tree}

module _ (s : List ℕ) (ops : Operators) (rules : List Rule) (in_force_lem : InForce s ops rules) where
  -- The tree that the machine makes of a row is the row's conflict-free tree.
  pub conflict_free_tree : {row : List ℕ} {t : Tree} → BuiltTree (closes_in s) ops row t → ConflictFreeTree ops rules row t
  conflict_free_tree {t = t} b = record { over = b.over; yields = b.yields_row; free = count_by_relation s ops rules in_force_lem t b.over ∙ b.free }

  -- A built row is its record.
  pub built_conflict_free : (row : List ℕ) → Row ops row → (t : Tree) × ConflictFreeTree ops rules row t × (built ops (closes_in s) row ≡ record_of t)
  built_conflict_free row r =
      let (t, b) = built_tree (closes_in s) ops row r in
      (t, conflict_free_tree b, b.recorded)

  pub one_tree_lem : (row : List ℕ) (t u : Tree) → ConflictFreeTree ops rules row t → ConflictFreeTree ops rules row u → t ≡ u
  one_tree_lem = only_one ops rules (accepted_passes ops rules in_force_lem.accepts)

  pub built_is : (row : List ℕ) (t : Tree) → ConflictFreeTree ops rules row t → built ops (closes_in s) row ≡ record_of t
  built_is row t c =
      let r = (row_exactly_if_yielded ops row).1 (t, c.over, c.yields) in
      let (u, d, e) = built_conflict_free row r in
      e ∙ ap record_of (one_tree_lem row u t d c)

  -- Of the trees over the sheet's operators: what is built of a tree's row is its repair,
  pub built_repairs : (t : Tree) → Over (class ops) t → built ops (closes_in s) (yield t) ≡ record_of (repair ops (R rules) t)
  built_repairs t h = built_is (yield t) (repair ops (R rules) t) (repair_is ops rules (accepted_passes ops rules in_force_lem.accepts) t h)

  -- which has the record's length;
  pub built_keeps_length : (t : Tree) → Over (class ops) t → length (built ops (closes_in s) (yield t)) ≡ length (record_of t)
  built_keeps_length t h =
      let c = repair_is ops rules (accepted_passes ops rules in_force_lem.accepts) t h in
      ap length (built_repairs t h) ∙ same_row_same_length (class ops) (brackets ops) (repair ops (R rules) t) t c.over h c.yields

  -- and two trees repair to the same bytes exactly if their rows are the same.
  pub built_equal_exactly_if : (t u : Tree) → Over (class ops) t → Over (class ops) u
      → (built ops (closes_in s) (yield t) ≡ built ops (closes_in s) (yield u)) ↔ (yield t ≡ yield u)
  built_equal_exactly_if t u ht hu = (
    λ e.
        let (v, c, p) = built_conflict_free (yield t) ((row_exactly_if_yielded ops (yield t)).1 (t, ht, refl)) in
        let (w, d, q) = built_conflict_free (yield u) ((row_exactly_if_yielded ops (yield u)).1 (u, hu, refl)) in
        sym c.yields ∙ ap yield (record_injective (class ops) (brackets ops) v w c.over d.over (sym p ∙ e ∙ q)) ∙ d.yields,
    λ e. ap (built ops (closes_in s)) e,
  )
