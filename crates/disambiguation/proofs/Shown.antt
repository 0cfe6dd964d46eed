-- The witness of a sheet's rules shows why they are refused. Assumes nothing.
use Prim.Native.Nat.{◌≤◌}
use mathlib.Core.Path.{◌≡◌, refl, ap, sym, ◌∙◌}
use mathlib.Core.Option.{some}
use mathlib.Core.List.{List}
use Rattle.expression.specs.Limits.{most_operators}
use Rattle.expression.specs.Token.{Operators, class}
use Rattle.expression.specs.Tree.{Tree, record_of, Over}
use Rattle.expression.specs.Decode.{tree_of}
use Rattle.expression.proofs.Classes.{brackets}
use Rattle.expression.proofs.RecordsAndTrees.{tree_of_record}
use Rattle.disambiguation.specs.Rules.{Rule, L, R}
use Rattle.disambiguation.specs.Verdict.{verdict}
use Rattle.disambiguation.specs.Witness.{Witness, sound, no_tree, two_trees, witness_of}
use Rattle.disambiguation.specs.Shown.{Shown}
use Rattle.disambiguation.proofs.Converse.{Twins}
use Rattle.disambiguation.proofs.Witnesses.{Shows, shows}
use Rattle.disambiguation.proofs.VerdictDecides.{none_of_row, twin_trees}

-- two trees over the operators with one record are the same
one_record : (ops : Operators) (rules : List Rule) (t u : Tree) → Twins (L rules) (R rules) (class ops) t u → record_of t ≡ record_of u → ⊥
one_record ops rules t u w e = w.different (some_same (sym (back t w.first_over) ∙ ap (tree_of (class ops)) e ∙ back u w.second_over))
  where
    back : (t : Tree) → Over (class ops) t → tree_of (class ops) (record_of t) ≡ some t
    back = tree_of_record (class ops) (brackets ops)

    some_same : some t ≡ some u → t ≡ u
    some_same e = cc

pub witness_shown : (ops : Operators) (rules : List Rule) → ops.count ≤ most_operators → Shown ops rules (witness_of ops rules)
unfolding verdict
witness_shown ops rules small = go (witness_of ops rules) (shows ops (L rules) (R rules) small)
  where
    go : (w : Witness) → Shows ops (L rules) (R rules) small w → Shown ops rules w
    go sound (s, e) = rw (s, e) refl
    go (no_tree t) (s, like) = let (r, h) = none_of_row ops rules t like in (rw s refl, r, h)
    go (two_trees t u) (s, e, w, only) =
        let (r, ht, hu) = twin_trees ops rules t u w in
        (rw (s, e) refl, r, ht, hu, one_record ops rules t u w, λ v h. only v h.over h.yields h.free)
