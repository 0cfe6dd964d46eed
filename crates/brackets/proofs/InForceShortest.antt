-- Under a sheet in force the call answers what the rules say. Assumes nothing.
use Prim.Native.Nat.{ℕ}
use mathlib.Core.Path.{◌≡◌, refl, ap, sym, ◌∙◌}
use mathlib.Core.Option.{Option, none, some}
use mathlib.Core.List.{List}
use Rattle.expression.specs.Token.{Operators, class}
use Rattle.expression.specs.Tree.{Tree, yield, Over}
use Rattle.expression.specs.Decode.{tree_of}
use Rattle.expression.specs.Operand.{row_of}
use Rattle.expression.proofs.Classes.{brackets}
use Rattle.expression.proofs.RecordsAndTrees.{tree_of_record, record_tree_of}
use Rattle.disambiguation.specs.Rules.{Rule, L, R}
use Rattle.disambiguation.specs.LeftToRight.{parse, made}
use Rattle.disambiguation.specs.Repair.{repair}
use Rattle.disambiguation.proofs.TestsDecide.{waits_below}
use Rattle.disambiguation.proofs.Accepted.{accepted_passes, repair_is}
use Rattle.sheet.specs.Relation.{closes_in}
use Rattle.sheet.specs.InForce.{InForce}
use Rattle.record.specs.Counts.{excluded_left}
use Rattle.parser.specs.Build.{built}
use Rattle.parser.proofs.InForceBuilds.{built_repairs}
use Rattle.brackets.specs.Enclosed.{enclosed}
use Rattle.brackets.specs.Shortest.{enclosed_in, shortened, shortest_of, shortest_by}
use Rattle.brackets.proofs.Enclosing.{enclosed_agree}

module _ (sheet : List ℕ) (ops : Operators) (rules : List Rule) (k : InForce sheet ops rules) where
  -- the relation decides where brackets are needed
  enclosed_by_rules : (t : Tree) → Over (class ops) t → enclosed_in sheet t ≡ enclosed (L rules) (R rules) t
  enclosed_by_rules =
      enclosed_agree (class ops) (excluded_left sheet) (closes_in sheet) (L rules) (R rules) (λ o b ho hb. sym (k.left b o (waits_below ops b hb) ho))
      (λ a b _ _. k.right a b)

  -- what the call answers is what the rules say
  pub shortest_by_rules : (bytes : List ℕ) → shortest_of sheet bytes ≡ shortest_by ops rules (tree_of (class ops) bytes)
  unfolding shortest_of tree_of built made parse
  shortest_by_rules bytes =
      ap (λ o. shortened sheet (tree_of (class o) (built o (closes_in sheet) (row_of (tree_of (class o) bytes))))) k.operators ∙ go (tree_of (class ops) bytes) refl
    where
      go : (read : Option Tree) → tree_of (class ops) bytes ≡ read → shortened sheet (tree_of (class ops) (built ops (closes_in sheet) (row_of read))) ≡ shortest_by ops rules read
      go none e = refl
      go (some t) e =
          let h = (record_tree_of (class ops) (brackets ops) bytes t e).1 in
          let c = repair_is ops rules (accepted_passes ops rules k.accepts) t h in
          ap (λ s. shortened sheet (tree_of (class ops) s)) (built_repairs sheet ops rules k t h)
          ∙ ap (shortened sheet) (tree_of_record (class ops) (brackets ops) (repair ops (R rules) t) c.over) ∙ ap yield (enclosed_by_rules (repair ops (R rules) t) c.over)
