-- What each way through writing a witness gives, from what is known on it. Assumes nothing.
use mathlib.Core.Path.{◌≡◌, refl, sym, ap, ap₂, ◌∙◌}
use mathlib.Core.Bool.{Bool, true, false, ◌&&◌, cond}
use mathlib.Core.List.{List, [], ◌∷◌, ◌++◌, append-nil, append_assoc}
use Prim.Native.Nat.{ℕ, suc, ◌+◌, ◌-◌, ◌<◌, ◌≤◌}
use native.Mathlib.Omega.{arith}
use native.Mathlib.Numerals.{add-one}
use borrow.Author.Rules.{rules}
use borrow.Author.Tests.{ne_eqb, le-ltb, ltb-true}
use lib.Dec.{eqb, ltb}
use lib.ListN.{length, get_or, take, length-append}
use lib.Seq.{take-suc, take_all, length-take-le}
use Rattle.expression.specs.Limits.{most_operators}
use Rattle.expression.specs.Refusal.{dead, double}
use Rattle.expression.specs.Token.{first_reading}
use Rattle.expression.specs.Tree.{yield, record_of}
use Rattle.disambiguation.specs.Witness.{no_tree, two_trees, first_over_pair, last_over_pair, first_over_triple, last_over_triple, witness_bytes}
use Rattle.disambiguation.proofs.BelowLaws.{and_true}
use Rattle.witness.specs.Explaining.{most_explained}
use Rattle.witness.specs.Shapes.{is_there, moved, fitted}

-- ---- moved
module _ (p : Bool) (c : ℕ) where
  pub room_above : (p && ltb first_reading c) ≡ true → 1 ≤ c
  room_above e = let h = ltb-true first_reading c (and_true p (ltb first_reading c) e).1 in omega arith

  pub moved_up : (p && ltb first_reading c) ≡ true → c - 1 ≡ moved p c
  moved_up e = rw e

  pub moved_not : (p && ltb first_reading c) ≡ false → c ≡ moved p c
  moved_not e = rw e

pub ruleset moved_ways = (room_above, moved_up, moved_not, rules)

-- ---- put
module _ (p : Bool) (c : ℕ) (text : List ℕ) where
  pub put_none : (p && eqb c first_reading) ≡ true → text ≡ text ++ fitted p (c ∷ [])
  unfolding fitted
  put_none e = rw e (sym (append-nil text))

  pub put_one : {v : ℕ} {later : List ℕ} → (p && eqb c first_reading) ≡ false → v ≡ moved p c → later ≡ text ++ (v ∷ []) → later ≡ text ++ fitted p (c ∷ [])
  unfolding fitted
  put_one e f g = rw e (g ∙ ap (λ x. text ++ (x ∷ [])) f)

pub ruleset put_ways = (put_none, put_one, rules)

-- ---- fit
fitted_append : (p : Bool) (xs ys : List ℕ) → fitted p (xs ++ ys) ≡ fitted p xs ++ fitted p ys
unfolding fitted
fitted_append p [] ys = refl
fitted_append p (x ∷ xs) ys = go (is_there p x) (fitted_append p xs ys)
  where
    go : (b : Bool) → fitted p (xs ++ ys) ≡ fitted p xs ++ fitted p ys
        → cond b (moved p x ∷ fitted p (xs ++ ys)) (fitted p (xs ++ ys)) ≡ cond b (moved p x ∷ fitted p xs) (fitted p xs) ++ fitted p ys
    go true e = ap (λ zs. moved p x ∷ zs) e
    go false e = e

-- it is no longer than the shape
pub fitted_few : (p : Bool) (shape : List ℕ) → length (fitted p shape) ≤ length shape
unfolding fitted
fitted_few p [] = omega arith
fitted_few p (c ∷ cs) = go (is_there p c) (fitted_few p cs)
  where
    go : (b : Bool) → length (fitted p cs) ≤ length cs → length (cond b (moved p c ∷ fitted p cs) (fitted p cs)) ≤ suc (length cs)
    go true h = omega (arith, h)
    go false h = omega (arith, h)

pub fit_none : (p : Bool) (shape text : List ℕ) → text ≡ text ++ fitted p (take 0 shape)
unfolding fitted
fit_none p shape text = sym (append-nil text)

module _ (p : Bool) (shape before : List ℕ) (at : ℕ) {text : List ℕ} (so_far : text ≡ before ++ fitted p (take at shape)) (more : at < length shape) where
  pub fits_inside : length before + length shape ≤ most_explained → length text < most_explained
  fits_inside h = omega (
    arith,
    ap length so_far,
    length-append before (fitted p (take at shape)),
    fitted_few p (take at shape),
    length-take-le at shape
        (omega arith),
  )

  pub fit_more : {later : List ℕ} → later ≡ text ++ fitted p (get_or shape at 0 ∷ []) → later ≡ before ++ fitted p (take (at + 1) shape)
  fit_more e =
      e ∙ ap (λ s. s ++ fitted p (get_or shape at 0 ∷ [])) so_far ∙ append_assoc before (fitted p (take at shape)) (fitted p (get_or shape at 0 ∷ []))
      ∙ ap (λ s. before ++ s) (sym (fitted_append p (take at shape) (get_or shape at 0 ∷ [])) ∙ ap (fitted p) (sym next))
    where
      next : take (at + 1) shape ≡ take at shape ++ (get_or shape at 0 ∷ [])
      next = ap (λ m. take m shape) (add-one at) ∙ take-suc shape at 0 more

pub fit_done : (p : Bool) (shape before : List ℕ) (at : ℕ) {text : List ℕ} → text ≡ before ++ fitted p (take at shape) → length shape ≤ at
    → text ≡ before ++ fitted p shape
fit_done p shape before at e h = e ∙ ap (λ s. before ++ fitted p s) (take_all at shape h)

pub ruleset fit_ways = (fit_none, fits_inside, fit_more, fit_done, rules)

-- ---- the shapes
-- a text with one more shape behind it
pub longer : (text later : List ℕ) (p : Bool) (shape : List ℕ) → later ≡ text ++ fitted p shape → length later ≤ length text + length shape
longer text later p shape e = omega (arith, ap length e, length-append text (fitted p shape), fitted_few p shape)

-- operators are no readings
module _ (c : ℕ) (h : c < most_operators) where
  no_reading_lem : eqb c first_reading ≡ false
  no_reading_lem = ne_eqb c first_reading (λ e. omega arith)

  stays : ltb first_reading c ≡ false
  stays = le-ltb first_reading c (omega arith)

module _ (a b : ℕ) (ha : a < most_operators) (hb : b < most_operators) where
  row_of_two : (v : ℕ) → v < most_operators → (p : Bool) → fitted p (v ∷ 0x80 ∷ a ∷ 0x81 ∷ b ∷ 0x82 ∷ []) ≡ v ∷ yield (first_over_pair p a b)
  unfolding fitted
  row_of_two v h false = refl
  row_of_two v h true = rw (no_reading_lem v h, stays v h, no_reading_lem a ha, stays a ha, no_reading_lem b hb, stays b hb)

  first_of_two : (p : Bool) → fitted p (a ∷ 0x80 ∷ b ∷ 0x81 ∷ 0x82 ∷ []) ≡ record_of (first_over_pair p a b)
  unfolding fitted
  first_of_two false = refl
  first_of_two true = rw (no_reading_lem a ha, stays a ha, no_reading_lem b hb, stays b hb)

  last_of_two : (p : Bool) → fitted p (b ∷ a ∷ 0x80 ∷ 0x81 ∷ 0x82 ∷ []) ≡ record_of (last_over_pair p a b)
  unfolding fitted
  last_of_two false = refl
  last_of_two true = rw (no_reading_lem a ha, stays a ha, no_reading_lem b hb, stays b hb)

  pub none_told : (p : Bool) → fitted p (dead ∷ 0x80 ∷ a ∷ 0x81 ∷ b ∷ 0x82 ∷ []) ≡ witness_bytes (no_tree (first_over_pair p a b))
  none_told p = row_of_two dead (omega arith) p

  pub two_told : (p : Bool) → fitted p (double ∷ 0x80 ∷ a ∷ 0x81 ∷ b ∷ 0x82 ∷ []) ++ fitted p (a ∷ 0x80 ∷ b ∷ 0x81 ∷ 0x82 ∷ []) ++ fitted p
      (b ∷ a ∷ 0x80 ∷ 0x81 ∷ 0x82 ∷ [])
      ≡ witness_bytes (two_trees (first_over_pair p a b) (last_over_pair p a b))
  two_told p = ap₂ ◌++◌ (ap₂ ◌++◌ (row_of_two double (omega arith) p) (first_of_two p)) (last_of_two p)

  module _ (c : ℕ) (hc : c < most_operators) where
    row_of_three : (x p : Bool) → fitted p (double ∷ 0x80 ∷ a ∷ 0x81 ∷ b ∷ 0x82 ∷ c ∷ 0x83 ∷ []) ≡ double ∷ yield (first_over_triple p a x b c)
    unfolding fitted
    row_of_three true false = refl
    row_of_three true true = rw (no_reading_lem a ha, stays a ha, no_reading_lem b hb, stays b hb, no_reading_lem c hc, stays c hc)
    row_of_three false false = refl
    row_of_three false true = rw (no_reading_lem a ha, stays a ha, no_reading_lem b hb, stays b hb, no_reading_lem c hc, stays c hc)

    first_closing : (p : Bool) → fitted p (a ∷ 0x80 ∷ c ∷ b ∷ 0x81 ∷ 0x82 ∷ 0x83 ∷ []) ≡ record_of (first_over_triple p a true b c)
    unfolding fitted
    first_closing false = refl
    first_closing true = rw (no_reading_lem a ha, stays a ha, no_reading_lem b hb, stays b hb, no_reading_lem c hc, stays c hc)

    last_closing : (p : Bool) → fitted p (c ∷ b ∷ a ∷ 0x80 ∷ 0x81 ∷ 0x82 ∷ 0x83 ∷ []) ≡ record_of (last_over_triple p a true b c)
    unfolding fitted
    last_closing false = refl
    last_closing true = rw (no_reading_lem a ha, stays a ha, no_reading_lem b hb, stays b hb, no_reading_lem c hc, stays c hc)

    first_yielding : (p : Bool) → fitted p (a ∷ 0x80 ∷ b ∷ 0x81 ∷ c ∷ 0x82 ∷ 0x83 ∷ []) ≡ record_of (first_over_triple p a false b c)
    unfolding fitted
    first_yielding false = refl
    first_yielding true = rw (no_reading_lem a ha, stays a ha, no_reading_lem b hb, stays b hb, no_reading_lem c hc, stays c hc)

    last_yielding : (p : Bool) → fitted p (c ∷ a ∷ 0x80 ∷ b ∷ 0x81 ∷ 0x82 ∷ 0x83 ∷ []) ≡ record_of (last_over_triple p a false b c)
    unfolding fitted
    last_yielding false = refl
    last_yielding true = rw (no_reading_lem a ha, stays a ha, no_reading_lem b hb, stays b hb, no_reading_lem c hc, stays c hc)

    pub closing_told : (p : Bool) → fitted p (double ∷ 0x80 ∷ a ∷ 0x81 ∷ b ∷ 0x82 ∷ c ∷ 0x83 ∷ []) ++ fitted p
        (a ∷ 0x80 ∷ c ∷ b ∷ 0x81 ∷ 0x82 ∷ 0x83 ∷ []) ++ fitted p (c ∷ b ∷ a ∷ 0x80 ∷ 0x81 ∷ 0x82 ∷ 0x83 ∷ [])
        ≡ witness_bytes (two_trees (first_over_triple p a true b c) (last_over_triple p a true b c))
    closing_told p = ap₂ ◌++◌ (ap₂ ◌++◌ (row_of_three true p) (first_closing p)) (last_closing p)

    pub yielding_told : (p : Bool) → fitted p (double ∷ 0x80 ∷ a ∷ 0x81 ∷ b ∷ 0x82 ∷ c ∷ 0x83 ∷ []) ++ fitted p
        (a ∷ 0x80 ∷ b ∷ 0x81 ∷ c ∷ 0x82 ∷ 0x83 ∷ []) ++ fitted p (c ∷ a ∷ 0x80 ∷ b ∷ 0x81 ∷ 0x82 ∷ 0x83 ∷ [])
        ≡ witness_bytes (two_trees (first_over_triple p a false b c) (last_over_triple p a false b c))
    yielding_told p = ap₂ ◌++◌ (ap₂ ◌++◌ (row_of_three false p) (first_yielding p)) (last_yielding p)
