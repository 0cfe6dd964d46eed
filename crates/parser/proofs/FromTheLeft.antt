-- Under a sheet in force, closing all that waits after a row gives the row's conflict-free tree, whatever follows it. Assumes nothing.
use Prim.Native.Nat.{ℕ}
use mathlib.Core.Path.{◌≡◌, ap, ◌∙◌}
use mathlib.Core.Option.{some}
use mathlib.Core.List.{List}
use Rattle.expression.specs.Token.{Operators, class}
use Rattle.expression.specs.Tree.{Tree}
use Rattle.expression.proofs.RowsAndTrees.{row_exactly_if_yielded}
use Rattle.disambiguation.specs.Rules.{Rule}
use Rattle.disambiguation.specs.Conflicts.{ConflictFreeTree}
use Rattle.disambiguation.specs.LeftToRight.{due, bottom, finish, parse}
use Rattle.disambiguation.proofs.LeftToRight.{run_append}
use Rattle.sheet.specs.Relation.{closes_in}
use Rattle.sheet.specs.InForce.{InForce}
use Rattle.parser.specs.FromTheLeft.{state, FromTheLeft}
use Rattle.parser.proofs.BuildLaws.{BuiltTree, built_tree}
use Rattle.parser.proofs.InForceBuilds.{conflict_free_tree, one_tree_lem}

module _ (sheet : List ℕ) (ops : Operators) (rules : List Rule) (in_force_lem : InForce sheet ops rules) where
  finishes : {row : List ℕ} {t : Tree} → BuiltTree (closes_in sheet) ops row t → finish (state sheet ops row) ≡ some t
  unfolding parse
  finishes b = b.parses

  pub from_the_left : FromTheLeft sheet ops rules
  from_the_left =
      record {
        beginnings = λ beginning rest r.
            let (t, b) = built_tree (closes_in sheet) ops beginning r in
            (t, conflict_free_tree sheet ops rules in_force_lem b, finishes b, run_append (closes_in sheet) (class ops) beginning rest (due bottom));
        written = λ row r. let (t, b) = built_tree (closes_in sheet) ops row r in (t, finishes b, b.recorded);
      }

  -- A row's conflict-free tree is what closing all that waits gives.
  pub finishes_with : (row : List ℕ) (t : Tree) → ConflictFreeTree ops rules row t → finish (state sheet ops row) ≡ some t
  finishes_with row t c =
      let (u, b) = built_tree (closes_in sheet) ops row ((row_exactly_if_yielded ops row).1 (t, c.over, c.yields)) in
      finishes b ∙ ap some (one_tree_lem sheet ops rules in_force_lem row u t (conflict_free_tree sheet ops rules in_force_lem b) c)
