-- What each way through `mark_record` gives. Assumes nothing.
use Prim.Native.Nat.{ℕ, zero, suc, ◌-◌}
use native.Mathlib.Omega.{arith}
use mathlib.Core.Path.{◌≡◌, refl, ap, sym, ◌∙◌}
use mathlib.Core.Bool.{Bool, false}
use mathlib.Core.List.{List}
use lib.ListN.{length, get_or, take, drop, replicate, length-replicate}
use lib.Seq.{take_at}
use borrow.Author.Rules.{rules}
use Rattle.expression.specs.Lists.{any_holds}
use Rattle.expression.specs.Limits.{most_record_bytes}
use Rattle.std.specs.Prelude.{None}
use Rattle.expression.specs.Tree.{record_of}
use Rattle.sheet.specs.Layout.{prefix_in}
use Rattle.brackets.specs.Edges.{Marked, Stands, Fills, MarksEdges}
use Rattle.brackets.proofs.PrefixBytes.{blank_marked}

none_set : (n at : ℕ) → get_or {A = Bool} (replicate n false) at false ≡ false
none_set zero at = refl
none_set (suc n) zero = refl
none_set (suc n) (suc at) = none_set n at

module _ (sheet bytes : List ℕ) (size : ℕ) (h : Fills sheet bytes size) where
  -- with a prefix operator
  pub from_start : Stands sheet bytes 0
  from_start = record { tree = h.tree; to = size; stands = h.stands; within = h.within }

  pub walked : {before after : List Bool} {end : ℕ} {shown : Bool} → MarksEdges sheet bytes 0 None None before after end shown → Marked sheet bytes after 0 size
  walked g = rw (g.found h.tree size h.stands).0 at g.marked

  -- without
  pub left_blank : {marks : List Bool} {q : Bool} → marks ≡ replicate most_record_bytes false → q ≡ any_holds (prefix_in sheet) (take (size - 0) (drop 0 bytes)) → q ≡ false → Marked sheet bytes marks 0 size
  left_blank {marks} blank tested none =
      let part : take (size - 0) (drop 0 bytes) ≡ record_of h.tree =
      ap (take (size - 0)) h.stands.stands ∙ take_at (record_of h.tree) (drop size bytes) (size - 0) (omega (arith, h.stands.ends)) in
      blank_marked sheet bytes marks h.tree 0 size h.stands (ap (any_holds (prefix_in sheet)) (sym part) ∙ sym tested ∙ none)
      (λ at. ap (λ m. get_or m at false) blank ∙ none_set most_record_bytes at)

pub marks_enough : {marks : List Bool} → marks ≡ replicate most_record_bytes false → length marks ≡ most_record_bytes
marks_enough e = ap length e ∙ length-replicate {A = Bool} most_record_bytes false

pub ruleset mark_record_ways = (from_start, walked, left_blank, marks_enough, rules)
