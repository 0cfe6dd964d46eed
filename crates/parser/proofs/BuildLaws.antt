-- What is built of a row, in terms of rows, trees and sheets. Assumes nothing.
use Prim.Native.Nat.{ℕ}
use mathlib.Core.Path.{◌≡◌, ap, ◌∙◌}
use mathlib.Core.Bool.{Bool}
use mathlib.Core.Option.{some}
use mathlib.Core.List.{List}
use lib.ListN.{length}
use Rattle.expression.specs.Refusal.{accepted}
use Rattle.expression.specs.Token.{Operators, class}
use Rattle.expression.specs.Tree.{Tree, yield, record_of, Over}
use Rattle.expression.specs.Grammar.{Row}
use Rattle.expression.specs.Checks.{record_bytes, row_number}
use Rattle.expression.proofs.Classes.{brackets}
use Rattle.expression.proofs.RowsAndTrees.{row_exactly_if_yielded}
use Rattle.expression.proofs.Lengths.{record_length}
use Rattle.expression.proofs.Numbers.{row_accepted}
use Rattle.disambiguation.specs.Conflicts.{conflicts}
use Rattle.disambiguation.specs.LeftToRight.{parse, made}
use Rattle.disambiguation.proofs.MachineInvariant.{yields}
use Rattle.disambiguation.proofs.Repaired.{made_makes}
use Rattle.parser.specs.Build.{record_in, built}
use Rattle.parser.specs.Reading.{Buildable}

module _ (closes : ℕ → ℕ → Bool) (ops : Operators) where
  -- What is built of a row over the operators is the record of the tree that the machine makes of it: a tree over them with that row, in which no operator may be kept where it
  -- stands.
  pub record BuiltTree (row : List ℕ) (t : Tree) : Type 0 where
    pub makes : made ops closes row ≡ some t
    pub parses : parse closes (class ops) row ≡ some t
    pub recorded : built ops closes row ≡ record_of t
    pub over : Over (class ops) t
    pub yields_row : yield t ≡ row
    pub free : conflicts (yields closes) closes t ≡ 0

  of_tree : (t₀ : Tree) → Over (class ops) t₀ → (t : Tree) × BuiltTree (yield t₀) t
  unfolding built
  of_tree t₀ h =
      let (t, m, p) = made_makes closes ops t₀ h in
      (t, record { makes = m; parses = p.parses; recorded = ap record_in m; over = p.over; yields_row = p.yields_row; free = p.free })

  pub built_tree : (row : List ℕ) → Row ops row → (t : Tree) × BuiltTree row t
  built_tree row r = let (t₀, h, e) = (row_exactly_if_yielded ops row).0 r in rw e at (of_tree t₀ h)

  -- The machine makes a tree of every row.
  pub row_buildable : (row : List ℕ) → Row ops row → Buildable ops closes row
  row_buildable row r =
      let (t, b) = built_tree row r in
      record {
        tree = t;
        makes = b.makes;
        over = b.over;
        measured = record_length (class ops) (brackets ops) t b.over ∙ ap record_bytes b.yields_row;
      }

  pub built_length : (row : List ℕ) → Row ops row → length (built ops closes row) ≡ record_bytes row
  unfolding built
  built_length row r = let b = row_buildable row r in ap (λ x. length (record_in x)) b.makes ∙ b.measured

  pub built_length_accepted : (row : List ℕ) → row_number ops row ≡ accepted → length (built ops closes row) ≡ record_bytes row
  built_length_accepted row e = built_length row ((row_accepted ops row).0 e).1

  pub accepted_buildable : (row : List ℕ) → row_number ops row ≡ accepted → Buildable ops closes row
  accepted_buildable row e = row_buildable row ((row_accepted ops row).0 e).1
