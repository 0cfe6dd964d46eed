-- Any two infix operators stand one above the other or in one level, and how many operators each lies above tells which. Assumes nothing.
use Prim.Native.Nat.{ℕ, ◌<◌}
use native.Mathlib.Omega.{arith}
use mathlib.Core.Path.{◌≡◌, refl, ap}
use mathlib.Core.Bool.{Bool, true, false, not, ◌&&◌, false≢true}
use borrow.Author.Tests.{not-true}
use Rattle.expression.specs.Limits.{most_operators}
use Rattle.expression.specs.Token.{Class, Infix, Prefix, Opening, Closing, Reading, Meaningless, Operators, class}
use Rattle.expression.proofs.Classes.{infix_byte}
use Rattle.disambiguation.specs.Below.{count_below}
use Rattle.disambiguation.specs.Powers.{is_infix, below}
use Rattle.disambiguation.proofs.BelowLaws.{and_true}
use Rattle.disambiguation.proofs.Free.{is_false, is_true}
use Rattle.disambiguation.proofs.Conditions.{waits, takes, Transitive, Cotransitive}
use Rattle.disambiguation.proofs.Counts.{count_within, count_less}

-- the test for infix operators
infix_class : (x : Class) → is_infix x ≡ true → x ≡ Infix
infix_class Infix e = refl
infix_class Prefix e = absurd (false≢true e)
infix_class Opening e = absurd (false≢true e)
infix_class Closing e = absurd (false≢true e)
infix_class Reading e = absurd (false≢true e)
infix_class Meaningless e = absurd (false≢true e)

pub not_infix_lem : (x : Class) → (x ≡ Infix → ⊥) → is_infix x ≡ false
not_infix_lem x h = is_false (is_infix x) (λ e. h (infix_class x e))

module _ (ops : Operators) (R : ℕ → ℕ → Bool) where
  abbrev Infixed : ℕ → Type 0
  Infixed a = class ops a ≡ Infix

  -- how many infix operators a lies above
  abbrev pub many : ℕ → ℕ
  many a = count_below most_operators (below ops R a)

  is_below : (a c : ℕ) → Infixed c → R a c ≡ true → R c a ≡ false → below ops R a c ≡ true
  unfolding below
  is_below a c h p q = rw (h, p, q)

  -- none lies above itself
  pub not_below_itself : (a : ℕ) → below ops R a a ≡ false
  unfolding below
  not_below_itself a = go (is_infix (class ops a)) (R a a)
    where
      go : (i r : Bool) → (i && (r && not r)) ≡ false
      go true true = refl
      go true false = refl
      go false r = refl

  record Lies (a c : ℕ) : Type 0 where
    infixed : Infixed c
    closes : R a c ≡ true
    waits_on : R c a ≡ false

  lies : (a c : ℕ) → below ops R a c ≡ true → Lies a c
  unfolding below
  lies a c e =
      let (i, x) = and_true (is_infix (class ops c)) (R a c && not (R c a)) e in
      let (p, q) = and_true (R a c) (not (R c a)) x in
      record { infixed = infix_class (class ops c) i; closes = p; waits_on = not-true (R c a) q }

  module _ (trans : Transitive R (class ops)) (cotrans : Cotransitive R (class ops)) (a b : ℕ) (ha : Infixed a) (hb : Infixed b) where
    -- Where a closes before b, it lies above all that b lies above;
    above_all : R a b ≡ true → (c : ℕ) → below ops R b c ≡ true → below ops R a c ≡ true
    above_all ab c e =
        let l = lies b c e in
        is_below a c l.infixed (is_true (R a c) (λ f. trans a b c (ap waits ha) hb (ap takes l.infixed) ab l.closes f))
        (is_false (R c a) (λ f. trans c a b (ap waits l.infixed) ha (ap takes hb) f ab l.waits_on))

    -- and so it does where b does not close before it.
    above_those : R b a ≡ false → (c : ℕ) → below ops R b c ≡ true → below ops R a c ≡ true
    above_those ba c e =
        let l = lies b c e in
        is_below a c l.infixed (is_true (R a c) (λ f. cotrans b a c (ap waits hb) ha l.infixed ba f l.closes))
        (is_false (R c a) (λ f. cotrans c b a (ap waits l.infixed) hb ha l.waits_on ba f))

    more : R a b ≡ true → R b a ≡ false → many b < many a
    more ab ba =
        count_less most_operators (below ops R b) (below ops R a) (above_all ab) b (infix_byte ops b hb).0 (not_below_itself b) (is_below a b hb ab ba)

  -- The one stands above the other, with more operators below it; or both stand in one level with as many below, and what one of them does with itself or the other, both do.
  pub data Standing (a b : ℕ) : Type 0 where
    higher : R a b ≡ true → R b a ≡ false → many b < many a → Standing a b
    lower : R a b ≡ false → R b a ≡ true → many a < many b → Standing a b
    beside : (x : Bool) → R a b ≡ x → R a a ≡ x → R b b ≡ x → many a ≡ many b → Standing a b

  pub standing : Transitive R (class ops) → Cotransitive R (class ops) → (a b : ℕ) → Infixed a → Infixed b → Standing a b
  standing trans cotrans a b ha hb = go (R a b) refl (R b a) refl
    where
      left : (c d : ℕ) → Infixed c → Infixed d → R c d ≡ true → R d c ≡ true → R c c ≡ true
      left c d hc hd cd dc = is_true (R c c) (λ f. trans c d c (ap waits hc) hd (ap takes hc) cd dc f)

      right : (c d : ℕ) → Infixed c → Infixed d → R c d ≡ false → R d c ≡ false → R c c ≡ false
      right c d hc hd cd dc = is_false (R c c) (λ f. cotrans c d c (ap waits hc) hd hc cd dc f)

      go : (x : Bool) → R a b ≡ x → (y : Bool) → R b a ≡ y → Standing a b
      go true ab false ba = higher ab ba (more trans cotrans a b ha hb ab ba)
      go false ab true ba = lower ab ba (more trans cotrans b a hb ha ba ab)
      go true ab true ba =
          let x = count_within most_operators (below ops R b) (below ops R a) (above_all trans cotrans a b ha hb ab) in
          let y = count_within most_operators (below ops R a) (below ops R b) (above_all trans cotrans b a hb ha ba) in
          beside true ab (left a b ha hb ab ba) (left b a hb ha ba ab) (omega arith)
      go false ab false ba =
          let x = count_within most_operators (below ops R b) (below ops R a) (above_those trans cotrans a b ha hb ba) in
          let y = count_within most_operators (below ops R a) (below ops R b) (above_those trans cotrans b a hb ha ab) in
          beside false ab (right a b ha hb ab ba) (right b a hb ha ba ab) (omega arith)
