-- Where a condition fails, some row has no conflict-free tree, or at least two: the rows and trees of `Witness`. Assumes nothing.
use Prim.Native.Nat.{ℕ, ◌≤◌}
use native.Mathlib.Omega.{arith}
use mathlib.Core.Path.{◌≡◌, refl, ap, sym, ◌∙◌}
use mathlib.Core.Bool.{Bool, true, false, cond, true≢false}
use mathlib.Core.Logic.{◌⊎◌, inl, inr}
use Rattle.expression.specs.Token.{Class, Infix, Prefix, Reading, first_reading, last_reading}
use Rattle.expression.specs.Tree.{Tree, yield, Over}
use Rattle.expression.proofs.Classes.{Brackets}
use Rattle.disambiguation.specs.Conflicts.{conflicts}
use Rattle.disambiguation.specs.Witness.{first_over_pair, last_over_pair, first_over_triple, last_over_triple}
use Rattle.disambiguation.proofs.Free.{is_false, is_true, Free, free_of_count, count_of_free}
use Rattle.disambiguation.proofs.Conditions.{waits, takes, Safe}
use Rattle.disambiguation.proofs.FewOperators.{one_of_two}

module _ (L R : ℕ → ℕ → Bool) (k : ℕ → Class) where
  -- a tree of whose row no tree is conflict-free
  abbrev pub NoneLike : Tree → Type 0
  NoneLike u = Over k u × ((t : Tree) → Over k t → yield t ≡ yield u → conflicts L R t ≡ 0 → ⊥)

  -- two different conflict-free trees of one row
  pub record Twins (t u : Tree) : Type 0 where
    pub first_over : Over k t
    pub second_over : Over k u
    pub one_row : yield u ≡ yield t
    pub first_free : conflicts L R t ≡ 0
    pub second_free : conflicts L R u ≡ 0
    pub different : t ≡ u → ⊥

  twins : (t u : Tree) → Over k t → Over k u → yield u ≡ yield t → Free L R t → Free L R u → (t ≡ u → ◌≡◌ {A = ℕ} 0 1) → Twins t u
  twins t u ht hu e ft fu d =
      record {
        first_over = ht;
        second_over = hu;
        one_row = e;
        first_free = count_of_free L R t ft;
        second_free = count_of_free L R u fu;
        different = λ q. let z = d q in omega arith;
      }

  -- The bytes of readings are readings; a is prefix, or infix, as told.
  module _ (reads : (c : ℕ) → first_reading ≤ c → c ≤ last_reading → k c ≡ Reading) where
    x : k 0x80 ≡ Reading
    x = reads 0x80 (omega arith) (omega arith)

    y : k 0x81 ≡ Reading
    y = reads 0x81 (omega arith) (omega arith)

    z : k 0x82 ≡ Reading
    z = reads 0x82 (omega arith) (omega arith)

    w : k 0x83 ≡ Reading
    w = reads 0x83 (omega arith) (omega arith)

    -- x a y b z: its two trees. Nothing stands before a prefix operator.
    module _ (a b : ℕ) (hb : k b ≡ Infix) where
      pub first_over : (p : Bool) → k a ≡ cond p Prefix Infix → Over k (first_over_pair p a b)
      first_over false ha = (ha, x, (hb, y, z))
      first_over true ha = (ha, (hb, x, y))

      last_over : (p : Bool) → k a ≡ cond p Prefix Infix → Over k (last_over_pair p a b)
      last_over false ha = (hb, (ha, x, y), z)
      last_over true ha = (hb, (ha, x), y)

      one_row : (p : Bool) → yield (last_over_pair p a b) ≡ yield (first_over_pair p a b)
      one_row false = refl
      one_row true = refl

      -- the first is conflict-free exactly if a does not exclude b below it, the last if b does not exclude a
      first_free : (p : Bool) → R a b ≡ false → Free L R (first_over_pair p a b)
      first_free false r = (tt, (r, tt), tt, (tt, tt, tt, tt))
      first_free true r = ((r, tt), (tt, tt, tt, tt))

      first_allows : (p : Bool) → Free L R (first_over_pair p a b) → R a b ≡ false
      first_allows false f = f.1.0
      first_allows true f = f.0.0

      last_free : (p : Bool) → L b a ≡ false → Free L R (last_over_pair p a b)
      last_free false l = ((l, tt), tt, (tt, tt, tt, tt), tt)
      last_free true l = ((l, tt), tt, (tt, tt), tt)

      last_allows : (p : Bool) → Free L R (last_over_pair p a b) → L b a ≡ false
      last_allows false f = f.0.0
      last_allows true f = f.0.0

      -- and the row has no third
      pub no_third : Brackets k → (p : Bool) → k a ≡ cond p Prefix Infix → (t : Tree) → Over k t → yield t ≡ yield (first_over_pair p a b)
          → (t ≡ first_over_pair p a b) ⊎ (t ≡ last_over_pair p a b)
      no_third brackets false ha =
          one_of_two k brackets (first_over_pair false a b) (last_over_pair false a b) (first_over false ha) (last_over false ha) refl (omega arith)
          (tt, (refl, tt), tt, (tt, tt, tt, tt)) ((refl, tt), tt, (tt, tt, tt, tt), tt)
      no_third brackets true ha =
          one_of_two k brackets (first_over_pair true a b) (last_over_pair true a b) (first_over true ha) (last_over true ha) refl (omega arith)
          ((refl, tt), (tt, tt, tt, tt)) ((refl, tt), tt, (tt, tt), tt)

      -- where each of a and b excludes the other below it, none is conflict-free
      pub not_safe : Brackets k → (p : Bool) → k a ≡ cond p Prefix Infix → R a b ≡ true → L b a ≡ true → NoneLike (first_over_pair p a b)
      not_safe brackets p ha r l = (first_over p ha, λ t ht q c. go t (free_of_count L R t c) (no_third brackets p ha t ht q))
        where
          go : (t : Tree) → Free L R t → (t ≡ first_over_pair p a b) ⊎ (t ≡ last_over_pair p a b) → ⊥
          go t f (inl e) = true≢false (sym r ∙ first_allows p (rw e at f))
          go t f (inr e) = true≢false (sym l ∙ last_allows p (rw e at f))

      -- where neither does, both are
      pub not_total : (p : Bool) → k a ≡ cond p Prefix Infix → R a b ≡ false → L b a ≡ false → Twins (first_over_pair p a b) (last_over_pair p a b)
      not_total p ha r l =
          twins (first_over_pair p a b) (last_over_pair p a b) (first_over p ha) (last_over p ha) (one_row p) (first_free p r) (last_free p l) (differ p)
        where
          differ : (p : Bool) → first_over_pair p a b ≡ last_over_pair p a b → ◌≡◌ {A = ℕ} 0 1
          differ false e = cc
          differ true e = cc

      -- and only then
      pub only_unsafe : Brackets k → (p : Bool) → k a ≡ cond p Prefix Infix → NoneLike (first_over_pair p a b) → (R a b ≡ true) × (L b a ≡ true)
      only_unsafe brackets p ha (_, none) = (
        is_true (R a b) (λ r. none (first_over_pair p a b) (first_over p ha) refl (count_of_free L R (first_over_pair p a b) (first_free p r))),
        is_true (L b a) (λ l. none (last_over_pair p a b) (last_over p ha) (one_row p) (count_of_free L R (last_over_pair p a b) (last_free p l))),
      )

      pub only_untotal : Brackets k → (p : Bool) → k a ≡ cond p Prefix Infix → (t u : Tree) → Over k t → Over k u → yield t ≡ yield (first_over_pair p a b)
          → yield u ≡ yield (first_over_pair p a b) → conflicts L R t ≡ 0 → conflicts L R u ≡ 0 → (t ≡ u → ⊥) → (R a b ≡ false) × (L b a ≡ false)
      only_untotal brackets p ha t u ht hu q s c d n =
          go (free_of_count L R t c) (free_of_count L R u d) (no_third brackets p ha t ht q) (no_third brackets p ha u hu s)
        where
          go : Free L R t → Free L R u → (t ≡ first_over_pair p a b) ⊎ (t ≡ last_over_pair p a b) → (u ≡ first_over_pair p a b) ⊎ (u ≡ last_over_pair p a b)
              → (R a b ≡ false) × (L b a ≡ false)
          go f g (inl e) (inl h) = absurd (n (e ∙ sym h))
          go f g (inl e) (inr h) = (first_allows p (rw e at f), last_allows p (rw h at g))
          go f g (inr e) (inl h) = (first_allows p (rw h at g), last_allows p (rw e at f))
          go f g (inr e) (inr h) = absurd (n (e ∙ sym h))

    pub three_over : (a b c : ℕ) → k b ≡ Infix → k c ≡ Infix → (p : Bool) → k a ≡ cond p Prefix Infix → Over k (first_over_triple p a true b c)
    three_over a b c hb hc false ha = (ha, x, (hc, (hb, y, z), w))
    three_over a b c hb hc true ha = (ha, (hc, (hb, x, y), z))

    module _ (safe : Safe L R k) (a b c : ℕ) (hb : k b ≡ Infix) (hc : k c ≡ Infix) where
      keeps : (a b : ℕ) → waits (k a) ≡ true → k b ≡ Infix → R a b ≡ true → L b a ≡ false
      keeps a b ha hb r = is_false (L b a) (safe a b ha (ap takes hb) r)

      -- x a y b z c w, where a closes before b and b before c, yet not a before c
      pub not_transitive : (p : Bool) → k a ≡ cond p Prefix Infix → R a b ≡ true → R b c ≡ true → R a c ≡ false
          → Twins (first_over_triple p a true b c) (last_over_triple p a true b c)
      not_transitive false ha ab bc ac =
          twins (first_over_triple false a true b c) (last_over_triple false a true b c) (ha, x, (hc, (hb, y, z), w)) (hc, (hb, (ha, x, y), z), w) refl
          (tt, (ac, tt), tt, ((cb, tt), tt, (tt, tt, tt, tt), tt)) ((cb, tt), tt, ((keeps a b (ap waits ha) hb ab, tt), tt, (tt, tt, tt, tt), tt), tt) (λ e. cc)
        where
          cb : L c b ≡ false
          cb = keeps b c (ap waits hb) hc bc
      not_transitive true ha ab bc ac =
          twins (first_over_triple true a true b c) (last_over_triple true a true b c) (ha, (hc, (hb, x, y), z)) (hc, (hb, (ha, x), y), z) refl
          ((ac, tt), ((cb, tt), tt, (tt, tt, tt, tt), tt)) ((cb, tt), tt, ((keeps a b (ap waits ha) hb ab, tt), tt, (tt, tt), tt), tt) (λ e. cc)
        where
          cb : L c b ≡ false
          cb = keeps b c (ap waits hb) hc bc

      -- the same row, where a does not close before b nor b before c, yet a before c
      pub not_cotransitive : (p : Bool) → k a ≡ cond p Prefix Infix → R a b ≡ false → R b c ≡ false → R a c ≡ true
          → Twins (first_over_triple p a false b c) (last_over_triple p a false b c)
      not_cotransitive false ha ab bc ac =
          twins (first_over_triple false a false b c) (last_over_triple false a false b c) (ha, x, (hb, y, (hc, z, w))) (hc, (ha, x, (hb, y, z)), w) refl
          (tt, (ab, tt), tt, (tt, (bc, tt), tt, (tt, tt, tt, tt))) ((keeps a c (ap waits ha) hc ac, tt), tt, (tt, (ab, tt), tt, (tt, tt, tt, tt)), tt) (λ e. cc)
      not_cotransitive true ha ab bc ac =
          twins (first_over_triple true a false b c) (last_over_triple true a false b c) (ha, (hb, x, (hc, y, z))) (hc, (ha, (hb, x, y)), z) refl
          ((ab, tt), (tt, (bc, tt), tt, (tt, tt, tt, tt))) ((keeps a c (ap waits ha) hc ac, tt), tt, ((ab, tt), (tt, tt, tt, tt)), tt) (λ e. cc)
