-- Under a sheet in force the number of a pair is that by its rules, and a claim holds exactly where building the row gives this record. Assumes nothing.
use Prim.Native.Nat.{ℕ}
use mathlib.Core.Path.{◌≡◌, refl, ap, sym, ◌∙◌}
use mathlib.Core.Logic.{◌↔◌}
use mathlib.Core.Option.{Option, none, some}
use mathlib.Core.List.{List}
use Rattle.expression.specs.Refusal.{first}
use Rattle.expression.specs.Token.{Operators, class}
use Rattle.expression.specs.Tree.{Tree}
use Rattle.expression.specs.Grammar.{Row}
use Rattle.expression.specs.Decode.{tree_of}
use Rattle.expression.proofs.Classes.{brackets}
use Rattle.expression.proofs.RecordsAndTrees.{record_tree_of}
use Rattle.expression.proofs.RowsAndTrees.{row_exactly_if_yielded}
use Rattle.disambiguation.specs.Rules.{Rule}
use Rattle.sheet.specs.Relation.{closes_in}
use Rattle.sheet.specs.InForce.{InForce}
use Rattle.sheet.proofs.Laws.{count_by_relation}
use Rattle.record.specs.Answers.{count_in}
use Rattle.parser.specs.Build.{built}
use Rattle.parser.proofs.InForceBuilds.{built_conflict_free, built_is}
use Rattle.claims.specs.Claims.{Claimed, pair_checks, count_by, claim_number, claim_number_in}

module _ (sheet : List ℕ) (ops : Operators) (rules : List Rule) (k : InForce sheet ops rules) (row bytes : List ℕ) where
  count_is : (read : Option Tree) → tree_of (class ops) bytes ≡ read → count_in sheet read ≡ count_by rules read
  count_is none e = refl
  count_is (some t) e = sym (count_by_relation sheet ops rules k t (record_tree_of (class ops) (brackets ops) bytes t e).1)

  pub number_by_rules : claim_number_in sheet row bytes ≡ claim_number ops rules row bytes
  unfolding claim_number_in claim_number
  number_by_rules =
      ap (λ o. first (pair_checks o row bytes (count_in sheet (tree_of (class o) bytes)))) k.operators
      ∙ ap (λ n. first (pair_checks ops row bytes n)) (count_is (tree_of (class ops) bytes) refl)

  pub claimed_exactly_if_built : Claimed ops rules row bytes ↔ (Row ops row × (built ops (closes_in sheet) row ≡ bytes))
  claimed_exactly_if_built = (
    λ h. let (t, c, e) = h in ((row_exactly_if_yielded ops row).1 (t, c.over, c.yields), built_is sheet ops rules k row t c ∙ e),
    λ h. let (r, e) = h in let (t, c, f) = built_conflict_free sheet ops rules k row r in (t, c, sym f ∙ e),
  )
