-- What each way through the checks of kinds and through their putting into the buffer gives, from what is known on it. Assumes nothing.
use Prim.Native.Nat.{ℕ, ◌+◌, ◌-◌, ◌<◌, ◌≤◌}
use native.Mathlib.Omega.{arith}
use mathlib.Core.Path.{◌≡◌, refl, ap, ◌∙◌}
use mathlib.Core.List.{List, ◌++◌, append-nil}
use borrow.Author.Rules.{rules}
use borrow.Author.Tests.{lt-ltb, le-ltb, eq-eqb, ne_eqb}
use borrow.Rule.Slice.PartMut.{mid_of, post_of, put_mid, mid_len, Post-is}
use lib.ListN.{length, take, drop, drop_of_length-le}
use lib.Seq.{take-append-add, drop_at, length-take-le}
use Rattle.expression.specs.Limits.{most_operators}
use Rattle.sheet.specs.Lists.{kinds_number, buffer_bytes, PutsKinds}

-- ---- kinds_number
module _ (n kinds : ℕ) where
  pub many_operators : most_operators < n → 1 ≡ kinds_number n kinds
  unfolding kinds_number
  many_operators h = simp (lt-ltb most_operators n h)

  pub other_kinds : n ≤ most_operators → (kinds ≡ n → ⊥) → 2 ≡ kinds_number n kinds
  unfolding kinds_number
  other_kinds h k = simp (le-ltb most_operators n h, ne_eqb kinds n k)

  pub kinds_right : n ≤ most_operators → kinds ≡ n → 0 ≡ kinds_number n kinds
  unfolding kinds_number
  kinds_right h k = simp (le-ltb most_operators n h, eq-eqb kinds n k)

pub ruleset kinds_number_ways = (many_operators, other_kinds, kinds_right, rules)

-- ---- put_kinds
-- the kinds go to the places from here on, up to the rules' bytes
abbrev from : List ℕ → ℕ
from kinds = most_operators - length kinds

-- how many places these are
abbrev wide : List ℕ → ℕ
wide kinds = most_operators - from kinds

module _ (kinds bytes part : List ℕ) (few : length kinds ≤ most_operators) (size : length bytes ≡ buffer_bytes)
    (e : part ≡ kinds ++ drop (length kinds) (mid_of (from kinds) (wide kinds) bytes)) where
  -- the copy fills its part
  copied : part ≡ kinds
  copied =
      let mid : List ℕ = mid_of (from kinds) (wide kinds) bytes in
      let short : length mid ≤ length kinds = omega (arith, mid_len (from kinds) most_operators bytes (omega (arith, size))) in
      e
      ∙ ap (λ (s : List ℕ). kinds ++ s) (drop_of_length-le mid short)
      ∙ append-nil kinds

  -- from there on the buffer holds the kinds, and then the rules' bytes
  written : (count : ℕ)
      → take (most_operators + count - from kinds) (drop (from kinds) (put_mid (from kinds) (wide kinds) bytes part))
      ≡ kinds ++ take count (drop most_operators bytes)
  written count =
      ap (take all) (drop_at (take (from kinds) bytes) (part ++ behind) (from kinds) (length-take-le (from kinds) bytes (omega (arith, size))))
      ∙ ap (λ (s : List ℕ). take all (s ++ behind)) copied
      ∙ ap (λ (s : List ℕ). take all (kinds ++ s)) (Post-is (from kinds) most_operators bytes (omega arith))
      ∙ ap (λ (m : ℕ). take m (kinds ++ drop most_operators bytes)) sum
      ∙ take-append-add kinds (drop most_operators bytes) count
    where
      all : ℕ
      all = most_operators + count - from kinds

      behind : List ℕ
      behind = post_of (from kinds) (wide kinds) bytes

      sum : all ≡ length kinds + count
      sum = omega (arith, few)

  pub kinds_put : PutsKinds kinds bytes (from kinds) (put_mid (from kinds) (wide kinds) bytes part)
  kinds_put = record { begins = refl; holds = written }

pub ruleset put_kinds_ways = (kinds_put, rules)
