-- What a place holds where its slot in the book is blank or has a row. Assumes nothing.
use Prim.Native.Nat.{ℕ, ◌≤◌}
use native.Mathlib.Omega.{arith}
use mathlib.Core.Path.{◌≡◌, refl, ap, sym, ◌∙◌}
use mathlib.Core.Bool.{false, true≢false}
use mathlib.Core.Option.{Option, none, some}
use mathlib.Core.List.{List, []}
use lib.ListN.{length}
use Rattle.expression.specs.Limits.{most_tokens, most_record_bytes}
use Rattle.expression.specs.Refusal.{accepted}
use Rattle.expression.specs.Token.{Operators, class}
use Rattle.expression.specs.Tree.{Tree, record_of, Over}
use Rattle.expression.specs.Grammar.{Row}
use Rattle.expression.specs.Decode.{tree_of}
use Rattle.expression.specs.Operand.{row_of}
use Rattle.expression.specs.Checks.{record_bytes, row_number, record_number}
use Rattle.expression.proofs.Classes.{brackets}
use Rattle.expression.proofs.RowsAndTrees.{row_exactly_if_yielded}
use Rattle.expression.proofs.Lengths.{few_bytes, record_length}
use Rattle.expression.proofs.Numbers.{read_as, record_accepted, row_accepted}
use Rattle.disambiguation.specs.Rules.{Rule}
use Rattle.disambiguation.specs.Conflicts.{ConflictFreeTree}
use Rattle.sheet.specs.Layout.{operators_of}
use Rattle.sheet.specs.Relation.{closes_in}
use Rattle.sheet.specs.InForce.{InForce}
use Rattle.parser.specs.Build.{built}
use Rattle.parser.proofs.InForceBuilds.{built_conflict_free}
use Rattle.claims.specs.Claims.{claim_number}
use Rattle.claims.proofs.Accepting.{accepted_exactly_if}
use Rattle.run.specs.Panel.{is_empty, uses_other, rebuilt}
use Rattle.run.specs.Book.{row_in, is_blank}
use Rattle.run.proofs.Uses.{record_not_empty, uses_yield, over_under}

-- a slot that is not blank has a row
pub not_blank : (slot : Option (List ℕ)) → is_blank slot ≡ false → (row : List ℕ) × (slot ≡ some row)
not_blank none e = absurd (true≢false e)
not_blank (some row) e = (row, refl)

-- t is the row's tree, within the lengths, and the bytes are its record
pub record HeldTree (ops : Operators) (rules : List Rule) (row bytes : List ℕ) (t : Tree) : Type 0 where
  pub tree : ConflictFreeTree ops rules row t
  pub recorded : bytes ≡ record_of t
  pub tokens_fit : length row ≤ most_tokens

abbrev pub Holds : Operators → List Rule → Option (List ℕ) → List ℕ → Type 0
Holds ops rules none bytes = bytes ≡ []
Holds ops rules (some row) bytes = (t : Tree) × HeldTree ops rules row bytes t

module _ {ops : Operators} {rules : List Rule} {row bytes : List ℕ} {t : Tree} (h : HeldTree ops rules row bytes t) where
  pub bytes_long : length bytes ≡ record_bytes row
  bytes_long = ap length h.recorded ∙ record_length (class ops) (brackets ops) t h.tree.over ∙ ap record_bytes h.tree.yields

  pub bytes_fit : length bytes ≤ most_record_bytes
  bytes_fit = omega (arith, bytes_long, few_bytes row, h.tokens_fit)

  pub read_back : tree_of (class ops) bytes ≡ some t
  read_back = read_as ops bytes t h.tree.over (sym h.recorded)

  pub row_back : row_of (tree_of (class ops) bytes) ≡ row
  row_back = ap row_of read_back ∙ h.tree.yields

  pub held_accepted : record_number ops bytes ≡ accepted
  held_accepted =
      (record_accepted ops bytes).1 (
        t,
        record { over = h.tree.over; recorded = sym h.recorded; bytes_fit = bytes_fit; tokens_fit = rw h.tree.yields h.tokens_fit },
      )

  pub held_not_empty : is_empty bytes ≡ false
  held_not_empty = ap is_empty h.recorded ∙ record_not_empty t

  pub held_uses : (n m : Operators) → uses_other n m bytes ≡ uses_other n m row
  held_uses n m = ap (uses_other n m) h.recorded ∙ uses_yield n m t ∙ ap (uses_other n m) h.tree.yields

  -- under another sheet whose operators it uses
  module _ (m : Operators) (under : uses_other ops m bytes ≡ false) where
    over_there : Over (class m) t
    over_there = over_under ops m t h.tree.over (ap (uses_other ops m) (sym h.recorded) ∙ under)

    row_there : row_of (tree_of (class m) bytes) ≡ row
    row_there = ap row_of (read_as m bytes t over_there (sym h.recorded)) ∙ h.tree.yields

    pub accepted_there : record_number m bytes ≡ accepted
    accepted_there =
        (record_accepted m bytes).1 (
          t,
          record { over = over_there; recorded = sym h.recorded; bytes_fit = bytes_fit; tokens_fit = rw h.tree.yields h.tokens_fit },
        )

    pub rebuilt_there : (s : List ℕ) (rules' : List Rule) → InForce s m rules' → Holds m rules' (some row) (rebuilt s bytes)
    rebuilt_there s rules' k =
        let r : Row m row = (row_exactly_if_yielded m row).1 (t, over_there, h.tree.yields) in
        let (u, c, e) = built_conflict_free s m rules' k row r in
        (u, record { tree = c; recorded = ap (λ o. built o (closes_in s) (row_of (tree_of (class o) bytes))) k.operators ∙ ap (built m (closes_in s)) row_there ∙ e; tokens_fit = h.tokens_fit })

-- ---- of a slot, blank or not
pub same_empty : (ops : Operators) (rules : List Rule) (slot : Option (List ℕ)) (bytes : List ℕ) → Holds ops rules slot bytes → is_empty bytes ≡ is_blank slot
same_empty ops rules none bytes e = ap is_empty e
same_empty ops rules (some row) bytes (t, h) = held_not_empty h

pub same_length : (ops : Operators) (rules : List Rule) (slot : Option (List ℕ)) (bytes : List ℕ) → Holds ops rules slot bytes → length bytes ≡ record_bytes (row_in slot)
same_length ops rules none bytes e = ap length e
same_length ops rules (some row) bytes (t, h) = bytes_long h

pub same_uses : (ops : Operators) (rules : List Rule) (n m : Operators) (slot : Option (List ℕ)) (bytes : List ℕ) → Holds ops rules slot bytes
    → uses_other n m bytes ≡ uses_other n m (row_in slot)
same_uses ops rules n m none bytes e = ap (uses_other n m) e
same_uses ops rules n m (some row) bytes (t, h) = held_uses h n m

pub holds_fit : (ops : Operators) (rules : List Rule) (slot : Option (List ℕ)) (bytes : List ℕ) → Holds ops rules slot bytes → length bytes ≤ most_record_bytes
holds_fit ops rules none bytes e = omega (arith, ap length e)
holds_fit ops rules (some row) bytes (t, h) = bytes_fit h

-- ---- a row, a record, or both, that is put
pub put_row_holds : (s : List ℕ) (ops : Operators) (rules : List Rule) → InForce s ops rules → (row : List ℕ) → row_number ops row ≡ accepted → Holds ops rules (some row) (built (operators_of s) (closes_in s) row)
put_row_holds s ops rules k row e =
    let (fits, r) = (row_accepted ops row).0 e in
    let (t, c, q) = built_conflict_free s ops rules k row r in
    (t, record { tree = c; recorded = ap (λ o. built o (closes_in s) row) k.operators ∙ q; tokens_fit = fits })

pub put_record_holds : (s : List ℕ) (ops : Operators) (rules : List Rule) → InForce s ops rules → (bytes : List ℕ) → record_number ops bytes ≡ accepted
    → Holds ops rules (some (row_of (tree_of (class ops) bytes))) (rebuilt s bytes)
put_record_holds s ops rules k bytes e =
    let (t, r) = (record_accepted ops bytes).0 e in
    let q = ap row_of (read_as ops bytes t r.over r.recorded) in
    let here = (row_exactly_if_yielded ops (row_of (tree_of (class ops) bytes))).1 (t, r.over, sym q) in
    let (u, c, p) = built_conflict_free s ops rules k (row_of (tree_of (class ops) bytes)) here in
    (u, record { tree = c; recorded = ap (λ o. built o (closes_in s) (row_of (tree_of (class o) bytes))) k.operators ∙ p; tokens_fit = rw q r.tokens_fit })

pub put_claim_holds : (ops : Operators) (rules : List Rule) (row bytes : List ℕ) → claim_number ops rules row bytes ≡ accepted → Holds ops rules (some row) bytes
put_claim_holds ops rules row bytes z =
    let (fits, (t, c, e)) = (accepted_exactly_if ops rules row bytes).0 z in
    (t, record { tree = c; recorded = sym e; tokens_fit = fits })
