-- Laws of a panel's places. Assumes nothing.
use mathlib.Core.Path.{◌≡◌, refl, sym}
use mathlib.Core.Bool.{true, false}
use mathlib.Core.Logic.{◌≢◌}
use mathlib.Core.List.{List, [], ◌∷◌}
use Prim.Native.Nat.{ℕ, ◌<◌}
use native.Mathlib.Decide.{dec_lt}
use native.Mathlib.Omega.{arith}
use lib.ListN.{length, length-set, length-replicate, get_or-replicate, get_or-eq_default}
use lib.Seq.{get_or-set_same, get_or-set_other}
use Rattle.run.specs.Places.{place_count, held, stored, fresh}
use Rattle.run.specs.Panel.{is_empty}

pub length_fresh : length fresh ≡ place_count
unfolding fresh
length_fresh = length-replicate {A = List ℕ} place_count []

-- Each place of a fresh panel is empty.
pub held_fresh : (place : ℕ) → held fresh place ≡ []
unfolding held fresh
held_fresh place =
    elim (dec_lt place place_count) [
      | yes h ↦ get_or-replicate {A = List ℕ} place_count place [] [] h
      | no h ↦ get_or-eq_default fresh [] {n = place} (omega (arith, length_fresh))
    ]

module _ (places : List (List ℕ)) (place : ℕ) (bytes : List ℕ) where
  -- As many places are there as before.
  pub length_stored : length (stored places place bytes) ≡ length places
  unfolding stored
  length_stored = length-set places place bytes

  -- The place holds the record that was put there.
  pub held_stored_same : place < length places → held (stored places place bytes) place ≡ bytes
  unfolding held stored
  held_stored_same h = get_or-set_same places place bytes [] h

  -- Every other place holds what it held.
  pub held_stored_other : (other : ℕ) → place ≢ other → held (stored places place bytes) other ≡ held places other
  unfolding held stored
  held_stored_other other ne = get_or-set_other places place other bytes [] (λ e. ne (sym e))

-- ---- a place is empty, or not
pub empty_true : (bytes : List ℕ) → length bytes ≡ 0 → is_empty bytes ≡ true
empty_true [] e = refl
empty_true (x ∷ xs) e = absurd (omega arith)

pub empty_false : (bytes : List ℕ) → (length bytes ≡ 0 → ⊥) → is_empty bytes ≡ false
empty_false [] h = absurd (h refl)
empty_false (x ∷ xs) h = refl
