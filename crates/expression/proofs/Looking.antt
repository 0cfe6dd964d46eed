-- A loop that looks through a list to its end: what is found before a place, and what stands from there on, make up the answer. Assumes nothing.
use Prim.Native.Nat.{ℕ, ◌+◌, ◌<◌, ◌≤◌}
use native.Mathlib.Numerals.{add-one}
use native.Mathlib.Omega.{arith}
use mathlib.Core.Path.{◌≡◌, refl, ap, sym, ◌∙◌}
use mathlib.Core.Bool.{Bool, false, ◌||◌, or_assoc, or-false}
use mathlib.Core.List.{List}
use lib.ListN.{length, get_or, drop, drop_of_length-le}
use lib.Seq.{drop-cons}
use Rattle.expression.specs.Lists.{any_holds}

module _ (p : ℕ → Bool) (xs : List ℕ) where
  pub record Looked (found : Bool) (at : ℕ) : Type 0 where
    pub inside : at ≤ length xs
    pub same : (found || any_holds p (drop at xs)) ≡ any_holds p xs

  here : (at : ℕ) → at < length xs → any_holds p (drop at xs) ≡ (p (get_or xs at 0) || any_holds p (drop (at + 1) xs))
  here at h = rw (drop-cons xs at 0 h, add-one)

  pub looked_none : Looked false 0
  looked_none = record { inside = omega arith; same = refl }

  pub looked_more : {at : ℕ} {b q : Bool} → Looked b at → at < length xs → q ≡ p (get_or xs at 0) → Looked (b || q) (at + 1)
  looked_more {at} {b} {q} l h e =
      record {
        inside = omega arith;
        same = or_assoc b q (any_holds p (drop (at + 1) xs)) ∙ ap (λ x. b || (x || any_holds p (drop (at + 1) xs))) e ∙ ap (λ x. b || x) (sym (here at h)) ∙ l.same;
      }

  pub looked_all : {at : ℕ} {b : Bool} → Looked b at → length xs ≤ at → b ≡ any_holds p xs
  looked_all {at} {b} l h = sym (or-false b) ∙ ap (λ x. b || any_holds p x) (sym (drop_of_length-le xs h)) ∙ l.same
