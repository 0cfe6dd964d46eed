-- After an accepted switch every place holds its row's tree under the new sheet. Assumes nothing.
use Prim.Native.Nat.{ℕ, zero, suc, ◌≤◌, ◌<◌}
use native.Mathlib.Omega.{arith}
use native.Mathlib.Decide.{ℕ_discrete}
use mathlib.Core.Path.{◌≡◌, refl, ap₂, sym, ◌∙◌}
use mathlib.Core.Bool.{false}
use mathlib.Core.Option.{Option, none, some}
use mathlib.Core.List.{List, []}
use lib.Dec.{eqb}
use lib.ListN.{length}
use Rattle.expression.specs.Refusal.{accepted}
use Rattle.expression.specs.Token.{Operators}
use Rattle.expression.specs.Decode.{tree_of}
use Rattle.expression.specs.Checks.{record_number}
use Rattle.disambiguation.specs.Rules.{Rule}
use Rattle.sheet.specs.Layout.{operators_of}
use Rattle.sheet.specs.InForce.{InForce}
use Rattle.run.specs.Places.{place_count, held, stored}
use Rattle.run.proofs.Places.{held_stored_same, held_stored_other, length_stored}
use Rattle.run.specs.Panel.{uses_other, if_accepted, rebuilt, rebuilt_to}
use Rattle.run.proofs.Slots.{Holds, accepted_there, rebuilt_there}

-- no bytes are no tree
empty_refused : (ops : Operators) → eqb (record_number ops []) accepted ≡ false
unfolding record_number tree_of
empty_refused ops = refl

module _ (slots : ℕ → Option (List ℕ)) (old : Operators) (old_rules : List Rule) (places : List (List ℕ)) (size : length places ≡ place_count)
    (holds : (k : ℕ) → k < place_count → Holds old old_rules (slots k) (held places k))
    (s : List ℕ) (ops : Operators) (rules : List Rule) (in_force_lem : InForce s ops rules)
    (under : (k : ℕ) → k < place_count → uses_other old ops (held places k) ≡ false) where
  abbrev up_to : ℕ → List (List ℕ)
  up_to m = rebuilt_to s m places

  -- the places below m are rebuilt, the others as they were
  pub record Partly (m : ℕ) (now : List (List ℕ)) : Type 0 where
    pub same_size : length now ≡ place_count
    pub below : (k : ℕ) → k < m → k < place_count → Holds ops rules (slots k) (held now k)
    pub above : (k : ℕ) → m ≤ k → held now k ≡ held places k

  -- one place more
  module _ (m : ℕ) (inside : m < place_count) (now : List (List ℕ)) (p : Partly m now) where
    abbrev then : List (List ℕ)
    then = if_accepted (record_number (operators_of s) (held now m)) (stored now m (rebuilt s (held now m))) now

    blank_more : held places m ≡ [] → slots m ≡ none → Partly (suc m) then
    blank_more e q = rw (here, empty_refused (operators_of s))
        (record {
          same_size = p.same_size;
          below = λ k h g. go k g (ℕ_discrete k m) h;
          above = λ k h. p.above k (omega arith);
        })
      where
        here : held now m ≡ []
        here = p.above m (omega arith) ∙ e

        go : (k : ℕ) → k < place_count → Dec (k ≡ m) → k < suc m → Holds ops rules (slots k) (held now k)
        go k g (yes f) h = rw (f, q, here) refl
        go k g (no f) h = p.below k (omega arith) g

    filled_more : (row : List ℕ) → slots m ≡ some row → Holds old old_rules (some row) (held places m) → Partly (suc m) then
    filled_more row q (t, h) = rw (ap₂ record_number in_force_lem.operators here ∙ accepted_there h ops (under m inside))
        (record {
          same_size = length_stored now m (rebuilt s (held now m)) ∙ p.same_size;
          below = λ k l g. go k g (ℕ_discrete k m) l;
          above = λ k l. held_stored_other now m (rebuilt s (held now m)) k (λ e. omega arith) ∙ p.above k (omega arith);
        })
      where
        here : held now m ≡ held places m
        here = p.above m (omega arith)

        new : Holds ops rules (some row) (rebuilt s (held now m))
        new = rw here (rebuilt_there h ops (under m inside) s rules in_force_lem)

        go : (k : ℕ) → k < place_count → Dec (k ≡ m) → k < suc m → Holds ops rules (slots k) (held (stored now m (rebuilt s (held now m))) k)
        go k g (yes f) l =
            rw (f, q, held_stored_same now m (rebuilt s (held now m)) (omega (arith, p.same_size))) new
        go k g (no f) l = rw (held_stored_other now m (rebuilt s (held now m)) k (λ e. f (sym e))) (p.below k (omega arith) g)

    more : Partly (suc m) then
    more = go (slots m) refl (holds m inside)
      where
        go : (slot : Option (List ℕ)) → slots m ≡ slot → Holds old old_rules slot (held places m) → Partly (suc m) then
        go none q e = blank_more e q
        go (some row) q h = filled_more row q h

  partly : (m : ℕ) → m ≤ place_count → Partly m (up_to m)
  unfolding rebuilt_to
  partly zero h = record { same_size = size; below = λ k l g. absurd (omega arith); above = λ k l. refl }
  partly (suc m) h = more m (omega arith) (up_to m) (partly m (omega arith))

  pub rebuilt_size : length (rebuilt_to s place_count places) ≡ place_count
  rebuilt_size = (partly place_count (omega arith)).same_size

  pub rebuilt_holds : (k : ℕ) → k < place_count → Holds ops rules (slots k) (held (rebuilt_to s place_count places) k)
  rebuilt_holds k h = (partly place_count (omega arith)).below k h h
