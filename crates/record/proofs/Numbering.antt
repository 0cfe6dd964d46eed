-- The number of a record, by what is found of it. Assumes nothing.
use Prim.Native.Nat.{ℕ, ◌≤◌, ◌<◌}
use mathlib.Core.Path.{◌≡◌, refl, ap, sym, ◌∙◌}
use mathlib.Core.Bool.{Bool, true, false, cond}
use mathlib.Core.Option.{Option, none, some}
use mathlib.Core.List.{List}
use lib.Dec.{ltb}
use lib.ListN.{length}
use borrow.Author.Rules.{rules}
use borrow.Author.Tests.{lt-ltb, le-ltb}
use Rattle.expression.specs.Limits.{most_tokens, most_record_bytes}
use Rattle.expression.specs.Refusal.{accepted, oversize, stranger, no_tree}
use Rattle.expression.specs.Token.{Operators, class}
use Rattle.expression.specs.Tree.{Tree}
use Rattle.expression.specs.Decode.{tree_of}
use Rattle.expression.specs.Checks.{is_none, record_number}
use Rattle.expression.proofs.Classes.{brackets}
use Rattle.expression.proofs.Lengths.{row_length_of_record}
use Rattle.expression.proofs.Strangers.{record_has_no_stranger}
use Rattle.record.specs.Checks.{stranger_in_record, row_length}
use Rattle.record.specs.Listing.{one_tree, listed_in}
use Rattle.record.proofs.ListedTrees.{one_listed, read_listed}
use Rattle.record.proofs.Accepted.{accepted_tree}

module _ (ops : Operators) (bytes : List ℕ) where
  pub too_long : most_record_bytes < length bytes → oversize ≡ record_number ops bytes
  unfolding record_number
  too_long h = rw (lt-ltb most_record_bytes (length bytes) h)

  -- Bytes that are not too many.
  module _ (h : length bytes ≤ most_record_bytes) where
    -- a tree is read: it has no stranger, and its row's length is read off the bytes
    module _ (t : Tree) (read : tree_of (class ops) bytes ≡ some t) {v : ℕ} (e : v ≡ row_length bytes) where
      by_row : cond (ltb most_tokens v) oversize accepted ≡ record_number ops bytes
      unfolding record_number
      by_row =
          rw (
            le-ltb most_record_bytes (length bytes) h,
            record_has_no_stranger (class ops) bytes t read,
            ap is_none read,
            row_length_of_record (class ops) (brackets ops) bytes t read,
            sym e,
          )

      pub long_number : most_tokens < v → oversize ≡ record_number ops bytes
      long_number l = ap (λ b. cond b oversize accepted) (sym (lt-ltb most_tokens v l)) ∙ by_row

      pub read_number : v ≤ most_tokens → accepted ≡ record_number ops bytes
      read_number l = ap (λ b. cond b oversize accepted) (sym (le-ltb most_tokens v l)) ∙ by_row

    none_read : ((t : Tree) → tree_of (class ops) bytes ≡ some t → ⊥) → is_none (tree_of (class ops) bytes) ≡ true
    none_read never = go (tree_of (class ops) bytes) never
      where
        go : (o : Option Tree) → ((t : Tree) → o ≡ some t → ⊥) → is_none o ≡ true
        go none never = refl
        go (some t) never = absurd (never t refl)

    -- why a record is refused: a stranger, no tree, or a row that is too long
    module _ {s : Bool} (tested : s ≡ stranger_in_record ops bytes) where
      pub strange : s ≡ true → stranger ≡ record_number ops bytes
      unfolding record_number stranger_in_record
      strange q = rw (le-ltb most_record_bytes (length bytes) h, sym tested ∙ q)

      module _ (q : s ≡ false) {c : _} (counted : c ≡ listed_in ops bytes) where
        pub not_one : (c ≡ one_tree → ⊥) → no_tree ≡ record_number ops bytes
        unfolding record_number stranger_in_record
        not_one n = rw (le-ltb most_record_bytes (length bytes) h, sym tested ∙ q, none_read (λ t e. n (counted ∙ read_listed ops bytes t e)))

        pub left_over : (record_number ops bytes ≡ accepted → ⊥) → c ≡ one_tree → oversize ≡ record_number ops bytes
        left_over refused is =
            let (t, read) = one_listed ops bytes (sym counted ∙ is) in
            go (ltb most_tokens (row_length bytes)) (by_row t read refl)
          where
            go : (b : Bool) → cond b oversize accepted ≡ record_number ops bytes → oversize ≡ record_number ops bytes
            go true e = e
            go false e = absurd (refused (sym e))

    -- by the count of trees
    pub in_order : {v : ℕ} → listed_in ops bytes ≡ one_tree → v ≡ row_length bytes → v ≤ most_tokens → accepted ≡ record_number ops bytes
    in_order is r l = let (t, read) = one_listed ops bytes is in read_number t read r l

    pub row_too_long : {v : ℕ} → listed_in ops bytes ≡ one_tree → v ≡ row_length bytes → most_tokens < v → oversize ≡ record_number ops bytes
    row_too_long is r l = let (t, read) = one_listed ops bytes is in long_number t read r l

  pub never_listed : (listed_in ops bytes ≡ one_tree → ⊥) → record_number ops bytes ≡ accepted → ⊥
  never_listed n e = let (t, a) = accepted_tree ops bytes e in n (read_listed ops bytes t a.read)

pub ruleset flaw_ways = (strange, not_one, left_over, rules)

pub ruleset check_record_ways = (too_long, in_order, row_too_long, never_listed, rules)
