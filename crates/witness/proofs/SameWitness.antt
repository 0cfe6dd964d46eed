-- The witness depends on the relations below n alone. Assumes nothing.
use mathlib.Core.Path.{◌≡◌, refl, ap, ap₂, ◌∙◌}
use mathlib.Core.Bool.{Bool, true, false, not, ◌&&◌, ◌||◌, cond}
use Prim.Native.Nat.{ℕ, ◌<◌}
use borrow.Author.Tests.{ltb-true}
use lib.Dec.{ltb}
use Rattle.expression.specs.Token.{Operators}
use Rattle.disambiguation.specs.Below.{some_below}
use Rattle.disambiguation.specs.Verdict.{comes}
use Rattle.disambiguation.specs.Witness.{Witness, sound, first_left, first_right, first_third, shown_by, none_of, two_of, two_of_three, uneven, uneven_pair, two_of_uneven, of_triples, both_exclude, none_excludes, witness}
use Rattle.disambiguation.proofs.FirstBelow.{first_same, first_below_lem, first_holds}

-- tests, and what is shown, that agree below the count
module _ (ops : Operators) (test test' : ℕ → ℕ → Bool) (shows shows' : ℕ → ℕ → Witness)
    (same_test : (a b : ℕ) → a < ops.count → b < ops.count → test a b ≡ test' a b) (same_shows : (a b : ℕ) → a < ops.count → b < ops.count → shows a b ≡ shows' a b) where
  same_right : (a : ℕ) → a < ops.count → first_right ops test a ≡ first_right ops test' a
  same_right a h = first_same ops.count (test a) (test' a) (λ b l. same_test a b h l)

  same_left : first_left ops test ≡ first_left ops test'
  same_left = first_same ops.count _ _ (λ a h. ap (λ c. ltb c ops.count) (same_right a h))

  shown_same : (other other' : Witness) → other ≡ other' → shown_by ops test shows other ≡ shown_by ops test' shows' other'
  shown_same other other' e =
      ap (λ a. cond (ltb a ops.count) (shows a (first_right ops test a)) other) same_left ∙ go (ltb (first_left ops test') ops.count) refl
    where
      go : (x : Bool) → ltb (first_left ops test') ops.count ≡ x
          → cond x (shows (first_left ops test') (first_right ops test (first_left ops test'))) other ≡ cond x (shows' (first_left ops test') (first_right ops test' (first_left ops test'))) other'
      go true h =
          let l = ltb-true (first_left ops test') ops.count h in
          let some = first_holds ops.count (λ a. some_below ops.count (test' a)) h in
          ap (shows (first_left ops test')) (same_right (first_left ops test') l)
          ∙ same_shows (first_left ops test') (first_right ops test' (first_left ops test')) l (first_below_lem ops.count (test' (first_left ops test')) some)
      go false h = e

module _ (ops : Operators) (L L' R R' : ℕ → ℕ → Bool) (same_L : (a b : ℕ) → a < ops.count → b < ops.count → L a b ≡ L' a b)
    (same_R : (a b : ℕ) → a < ops.count → b < ops.count → R a b ≡ R' a b) where
  same_uneven : (a b c : ℕ) → a < ops.count → b < ops.count → c < ops.count → uneven ops R a b c ≡ uneven ops R' a b c
  same_uneven a b c ha hb hc = rw (same_R a b ha hb, same_R b c hb hc, same_R a c ha hc)

  same_third : (a b : ℕ) → a < ops.count → b < ops.count → first_third ops R a b ≡ first_third ops R' a b
  same_third a b ha hb = first_same ops.count (uneven ops R a b) (uneven ops R' a b) (λ c hc. same_uneven a b c ha hb hc)

  same_triples : of_triples ops R ≡ of_triples ops R'
  unfolding of_triples
  same_triples =
      shown_same ops (uneven_pair ops R) (uneven_pair ops R') (two_of_uneven ops R) (two_of_uneven ops R')
      (λ a b ha hb. ap (λ c. ltb c ops.count) (same_third a b ha hb))
      (λ a b ha hb. ap (two_of_three ops R a b) (same_third a b ha hb) ∙ same_of_three a b (first_third ops R' a b) (same_R a b ha hb)) sound sound refl
    where
      same_of_three : (a b c : ℕ) → R a b ≡ R' a b → two_of_three ops R a b c ≡ two_of_three ops R' a b c
      same_of_three a b c e = rw e

  pub witness_same : witness ops L R ≡ witness ops L' R'
  unfolding witness
  witness_same =
      shown_same ops (both_exclude ops L R) (both_exclude ops L' R') (none_of ops) (none_of ops)
      (λ a b ha hb. ap₂ (λ p q. (p && comes ops b) && q) (same_R a b ha hb) (same_L b a hb ha)) (λ a b _ _. refl)
      (shown_by ops (none_excludes ops L R) (two_of ops) (of_triples ops R)) (shown_by ops (none_excludes ops L' R') (two_of ops) (of_triples ops R'))
      (shown_same ops (none_excludes ops L R) (none_excludes ops L' R') (two_of ops) (two_of ops)
      (λ a b ha hb. ap₂ (λ p q. comes ops b && not (p || q)) (same_R a b ha hb) (same_L b a hb ha)) (λ a b _ _. refl) (of_triples ops R) (of_triples ops R') same_triples)
