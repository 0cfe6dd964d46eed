-- What each way through a drop gives, from what is known on it. Assumes nothing.
use mathlib.Core.Path.{◌≡◌, refl, sym, ap, subst, ◌∙◌}
use mathlib.Core.List.{List, []}
use Prim.Native.Nat.{ℕ, ◌<◌, ◌≤◌}
use native.Mathlib.Omega.{arith}
use lib.ListN.{length}
use borrow.Author.Tests.{lt-ltb, le-ltb, ne_eqb}
use borrow.Author.Rules.{rules}
use Rattle.expression.specs.Outcome.{number_of}
use Rattle.expression.specs.declared.refusal.Refusal.{Refusal}
use Rattle.expression.specs.declared.refusal.Refusal.TheVariants as refusal
use Rattle.run.specs.Places.{place_count, held}
use Rattle.places.specs.Store.{records_in, Enters}
use Rattle.run.specs.Panel.{panel}
use Rattle.run.specs.Steps.{drop_number, places_after_drop}
use Rattle.monitor.specs.CallContracts.{Drops}
use Rattle.run.proofs.Places.{empty_true, empty_false}

-- ---- drop_place
module _ (store : List ℕ) (k : ℕ) where
  drop_refused : (number : ℕ) → ((sheet staged : List ℕ) → number ≡ drop_number (panel sheet staged (records_in store)) k) → (number ≡ 0 → ⊥) → Drops store k number store
  unfolding places_after_drop
  drop_refused number e h =
      record {
        changes = λ sheet staged.
            record {
              numbered = e sheet staged;
              stands = rw (ne_eqb (drop_number (panel sheet staged (records_in store)) k) 0 (λ f. h (e sheet staged ∙ f)));
              kept = λ _. refl;
            };
      }

  pub drop_over : {e : Refusal} → e ≡ refusal.Place → place_count ≤ k → Drops store k (number_of e) store
  unfolding drop_number
  drop_over q h =
      subst (λ (x : Refusal). Drops store k (number_of x) store) (sym q)
      (drop_refused 8 (λ sheet staged. simp (le-ltb k place_count h)) (λ e. omega arith))

  module _ {at : ℕ} (there : at ≡ k) (below : at < place_count) {bytes : List ℕ} (holds : bytes ≡ held (records_in store) at) where
    h : k < place_count
    h = omega arith

    same : bytes ≡ held (records_in store) k
    same = holds ∙ ap (held (records_in store)) there

    pub drop_none : length bytes ≡ 0 → Drops store k 9 store
    unfolding drop_number
    drop_none z = drop_refused 9 (λ sheet staged. simp (lt-ltb k place_count h, empty_true (held (records_in store) k) (ap length (sym same) ∙ z))) (λ e. omega arith)

    pub drop_done : {later : List ℕ} → (length bytes ≡ 0 → ⊥) → Enters store at [] later → Drops store k 0 later
    unfolding drop_number places_after_drop
    drop_done {later} n w' =
        let w : Enters store k [] later = subst (λ (i : ℕ). Enters store i [] later) there w' in
        record {
          changes = λ sheet staged.
              let zero : drop_number (panel sheet staged (records_in store)) k ≡ 0 = simp (lt-ltb k place_count h, empty_false (held (records_in store) k) (λ z. n (ap length same ∙ z))) in
              record { numbered = sym zero; stands = rw zero (ap (panel sheet staged) (w.holds (omega arith))); kept = λ e. absurd (e refl) };
        }

pub ruleset drop_ways = (drop_over, drop_none, drop_done, rules)
