-- What each way through a staging and a switch gives, from what is known on it. Assumes nothing.
use mathlib.Core.Path.{◌≡◌, subst, refl, sym, ap, ◌∙◌}
use mathlib.Core.Bool.{Bool, true, false, not, cond}
use mathlib.Core.List.{List}
use Prim.Native.Nat.{ℕ, ◌+◌, ◌<◌, ◌≤◌}
use native.Mathlib.Nat.{le_antisymm}
use native.Mathlib.Numerals.{add-one}
use native.Mathlib.Omega.{arith}
use borrow.Author.Tests.{ne_eqb, not-true, not-false}
use borrow.Author.Rules.{rules}
use Rattle.disambiguation.specs.SheetChecks.{sheet_number}
use Rattle.sheet.specs.Layout.{operators_of, is_loaded}
use Rattle.sheet.specs.Loading.{Loads}
use Rattle.places.specs.Store.{records_in}
use Rattle.places.specs.Memory.{Memory, memory, panel_in}
use Rattle.run.specs.Places.{place_count, held}
use Rattle.run.specs.Call.{stage, switch}
use Rattle.run.specs.Panel.{panel, none_staged, in_use_check, rebuilt_to}
use Rattle.run.specs.Steps.{switch_number, staged_after, after_switch}
use Rattle.monitor.specs.CallContracts.{Changes, Stages, rebuilt_at}

-- ---- stage
pub staged_as_loaded : {staged later : List ℕ} {n : ℕ} {bytes : List ℕ} {r : ℕ} → Loads staged n bytes r later → Stages staged (stage n bytes) r later
unfolding staged_after
staged_as_loaded {staged} {later} {n} {bytes} {r} loads =
    record {
      changes = λ sheet store.
          record {
            numbered = loads.number;
            stands = ap (λ x. panel sheet x (records_in store)) loads.stands;
            kept = λ h. ap (λ x. memory sheet x store) (loads.stands ∙ rw (ne_eqb (sheet_number n bytes) 0 (λ f. h (loads.number ∙ f))));
          };
    }

pub ruleset stage_ways = (staged_as_loaded, rules)

-- ---- rebuild_all
module _ (sheet : List ℕ) (before : List (List ℕ)) where
  -- the places below k are rebuilt
  pub record Rebuilt (k : ℕ) (places : List (List ℕ)) : Type 0 where
    pub inside : k ≤ place_count
    pub stands : places ≡ rebuilt_to sheet k before

  pub rebuilt_none : Rebuilt 0 before
  unfolding rebuilt_to
  rebuilt_none = record { inside = omega arith; stands = refl }

  pub rebuilt_more : {k i : ℕ} {places places' : List (List ℕ)} → Rebuilt k places → k < place_count → i ≡ k → places' ≡ rebuilt_at sheet places i → Rebuilt (k + 1) places'
  unfolding rebuilt_to
  rebuilt_more {k} {i} {places} w h same e =
      record {
        inside = omega arith;
        stands = e ∙ ap (rebuilt_at sheet places) same ∙ ap (λ x. rebuilt_at sheet x k) w.stands ∙ sym (ap (λ x. rebuilt_to sheet x before) (add-one k));
      }

  pub rebuilt_all : {k : ℕ} {places : List (List ℕ)} → Rebuilt k places → place_count ≤ k → places ≡ rebuilt_to sheet place_count before
  rebuilt_all {k} w h = w.stands ∙ ap (λ x. rebuilt_to sheet x before) (le_antisymm w.inside h)

pub ruleset rebuild_all_ways = (rebuilt_none, rebuilt_more, rebuilt_all, rules)

-- ---- switch
module _ (sheet staged store : List ℕ) where
  abbrev before : Memory
  before = memory sheet staged store

  -- the number, by the two tests
  by_tests : (there used : Bool) → is_loaded staged ≡ there → (in_use_check (operators_of sheet) (operators_of staged) (held (records_in store))).0 ≡ used
      → switch_number (panel_in before) ≡ cond (not there) 15 (cond used 11 0)
  unfolding switch_number
  by_tests there used e f = rw (e, f)

  -- a number other than 0 leaves the panel
  unchanged : (r : ℕ) → r ≡ switch_number (panel_in before) → (r ≡ 0 → ⊥) → Changes before switch r before
  unfolding after_switch
  unchanged r e h = record { numbered = e; stands = rw (ne_eqb (switch_number (panel_in before)) 0 (λ f. h (e ∙ f))); kept = λ _. refl }

  module _ {there : Bool} (is : there ≡ is_loaded staged) where
    pub switch_nothing : not there ≡ true → Changes before switch 15 before
    switch_nothing e = unchanged 15 (sym (by_tests false _ (sym is ∙ not-true there e) refl)) (λ z. omega arith)

    module _ (loaded : not there ≡ false) {used : Bool} (u : used ≡ (in_use_check (operators_of sheet) (operators_of staged) (held (records_in store))).0) where
      pub switch_in_use : used ≡ true → Changes before switch 11 before
      switch_in_use e = unchanged 11 (sym (by_tests true true (sym is ∙ not-false there loaded) (sym u ∙ e))) (λ z. omega arith)

      pub switch_done : {cleared later : List ℕ} → used ≡ false → cleared ≡ none_staged → records_in later ≡ rebuilt_to staged place_count (records_in store)
          → Changes before switch 0 (memory staged cleared later)
      unfolding after_switch
      switch_done {cleared} {later} e q f =
          let z = by_tests true false (sym is ∙ not-false there loaded) (sym u ∙ e) in
          subst (λ (w : List ℕ). Changes before switch 0 (memory staged w later)) (sym q)
          (record { numbered = sym z; stands = rw z (ap (panel staged none_staged) f); kept = λ h. absurd (h refl) })

pub ruleset switch_ways = (switch_nothing, switch_in_use, switch_done, rules)
