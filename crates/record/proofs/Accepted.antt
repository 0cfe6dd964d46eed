-- The tree of an accepted record. Assumes nothing.
use Prim.Native.Nat.{ℕ, ◌≤◌}
use native.Mathlib.Omega.{arith}
use mathlib.Core.Path.{◌≡◌, ap, sym, ◌∙◌}
use mathlib.Core.Option.{some}
use mathlib.Core.List.{List}
use lib.ListN.{length}
use borrow.Author.Tests.{ltb-false}
use Rattle.expression.specs.Limits.{most_tokens, most_record_bytes}
use Rattle.expression.specs.Refusal.{Passed, accepted}
use Rattle.expression.specs.Token.{Operators, class}
use Rattle.expression.specs.Tree.{Tree, yield}
use Rattle.expression.specs.Decode.{tree_of}
use Rattle.expression.specs.Checks.{row_tokens, record_checks, record_number}
use Rattle.expression.proofs.Classes.{brackets}
use Rattle.expression.proofs.Lengths.{row_length_of_record}
use Rattle.expression.proofs.Numbers.{passed_first, record_numbered, is_some}
use Rattle.record.specs.TreeAt.{TreeAt}
use Rattle.record.specs.Checks.{row_length}
use Rattle.record.proofs.Trees.{whole}

-- t is the tree of the record
pub record Accepted (ops : Operators) (bytes : List ℕ) (t : Tree) : Type 0 where
  pub passed : Passed (record_checks ops bytes)
  pub read : tree_of (class ops) bytes ≡ some t
  pub stands : TreeAt ops bytes 0 t (length bytes)
  pub bytes_fit : length bytes ≤ most_record_bytes
  pub row_is : length (yield t) ≡ row_length bytes
  pub row_fits : length (yield t) ≤ most_tokens

module _ (ops : Operators) (bytes : List ℕ) where
  all_passed : record_number ops bytes ≡ accepted → Passed (record_checks ops bytes)
  unfolding record_number
  all_passed e = passed_first (record_checks ops bytes) (record_numbered ops bytes) e

  pub accepted_tree : record_number ops bytes ≡ accepted → (t : Tree) × Accepted ops bytes t
  accepted_tree e =
      let p = all_passed e in
      let (t, q) = is_some ops (tree_of (class ops) bytes) p.1.1.0 in (
        t,
        record {
          passed = p;
          read = q;
          stands = whole ops bytes t q;
          bytes_fit = ltb-false most_record_bytes (length bytes) p.0;
          row_is = sym (ap row_tokens q) ∙ row_length_of_record (class ops) (brackets ops) bytes t q;
          row_fits = omega (arith, ap row_tokens q, ltb-false most_tokens (row_tokens (tree_of (class ops) bytes)) p.1.1.1.0);
        },
      )
