-- What putting marked pairs in a table and chaining it makes of its relation: of rules in order, the excluded patterns. Assumes nothing.
use mathlib.Core.Path.{◌≡◌, refl, sym, ap, ap₂, ◌∙◌}
use mathlib.Core.Bool.{Bool, true, false, ◌&&◌, ◌||◌, cond, or-false}
use mathlib.Core.Logic.{◌↔◌}
use mathlib.Core.List.{List}
use Prim.Native.Nat.{ℕ, zero, suc, ◌<◌, ◌≤◌}
use native.Mathlib.Decide.{ℕ_discrete, dec_lt}
use native.Mathlib.Omega.{arith}
use lib.Bits.{bit_or}
use lib.ListN.{get_or, set, length, length-set}
use lib.Seq.{get_or-set_same, get_or-set_other}
use Rattle.expression.specs.Lists.{any_holds}
use Rattle.expression.specs.Limits.{most_operators}
use Rattle.disambiguation.specs.Chains.{Chain}
use Rattle.disambiguation.specs.Rules.{Rule, priority, left, right, written, leads, L, R}
use Rattle.disambiguation.specs.SheetChecks.{strange_rule}
use Rattle.disambiguation.proofs.Chains.{chain_within, chain_turned}
use Rattle.disambiguation.proofs.LeadsDecided.{leads_exactly_if}
use Rattle.relation.specs.Relation.{sheet_words, fresh, bit_of, closes_in}
use Rattle.relation.specs.Marking.{word_of, unmarked, marks, marks_turned, marks_all}
use Rattle.relation.specs.Chaining.{changed, added, joined, passed, chained, related}
use Rattle.relation.proofs.Bits.{bit_or_lem}
use Rattle.relation.proofs.WordTests.{closes_bit, closes_everywhere, closes_blank, as_false}
use Rattle.relation.proofs.Orderly.{written_below, leads_below}
use Rattle.relation.proofs.Marks.{pairs_written, pairs_turned}
use Rattle.relation.proofs.Through.{through, through_exactly_if}

-- ---- words changed one after the other
module _ (f : ℕ → ℕ → ℕ) (t : List ℕ) where
  length_changed : (a : ℕ) → length (changed f a t) ≡ length t
  unfolding changed
  length_changed zero = refl
  length_changed (suc a) = length-set (changed f a t) a (f a (get_or (changed f a t) a 0)) ∙ length_changed a

  not_changed : (a x : ℕ) → a ≤ x → get_or (changed f a t) x 0 ≡ get_or t x 0
  unfolding changed
  not_changed zero x h = refl
  not_changed (suc a) x h = get_or-set_other (changed f a t) a x (f a (get_or (changed f a t) a 0)) 0 (λ e. omega arith) ∙ not_changed a x (omega arith)

  word_changed : (a x : ℕ) → a ≤ length t → x < a → get_or (changed f a t) x 0 ≡ f x (get_or t x 0)
  unfolding changed
  word_changed zero x h l = absurd (omega arith)
  word_changed (suc a) x h l = go (ℕ_discrete x a) (word_changed a x (omega arith))
    where
      go : Dec (x ≡ a) → (x < a → get_or (changed f a t) x 0 ≡ f x (get_or t x 0)) → get_or (set (changed f a t) a (f a (get_or (changed f a t) a 0))) x 0 ≡ f x (get_or t x 0)
      go (yes e) before =
          rw e (get_or-set_same (changed f a t) a (f a (get_or (changed f a t) a 0)) 0 (omega (arith, length_changed a)) ∙ ap (f a) (not_changed a a (omega arith)))
      go (no ne) before = get_or-set_other (changed f a t) a x (f a (get_or (changed f a t) a 0)) 0 ne ∙ before (omega arith)

-- ---- one operator gone through
bit_joined : (x k y c : ℕ) → bit_of (joined x k y) c ≡ (bit_of x c || (bit_of x k && bit_of y c))
unfolding joined
bit_joined x k y c = go (bit_of x k)
  where
    go : (b : Bool) → bit_of (cond b (bit_or x y) x) c ≡ (bit_of x c || (b && bit_of y c))
    go true = bit_or_lem x y c
    go false = sym (or-false (bit_of x c))

module _ (n : ℕ) (few : n ≤ most_operators) where
  length_passed : (k : ℕ) (t : List ℕ) → length (passed n k t) ≡ length t
  unfolding passed
  length_passed k t = length_changed _ t n

  closes_passed : (k : ℕ) (t : List ℕ) → length t ≡ sheet_words → k < n → (x y : ℕ) → x < n → y < most_operators
      → closes_in (passed n k t) x y ≡ (closes_in t x y || (closes_in t x k && closes_in t k y))
  unfolding passed
  closes_passed k t long hk x y hx hy =
      let bx : x < most_operators = omega arith in
      let bk : k < most_operators = omega arith in
      closes_bit _ x y bx hy ∙ ap (λ w. bit_of w y) (word_changed (λ a w. joined w k (get_or t k 0)) t n x (omega arith) hx) ∙ bit_joined (get_or t x 0) k (get_or t k 0) y
      ∙ ap₂ ◌||◌ (sym (closes_bit t x y bx hy)) (ap₂ ◌&&◌ (sym (closes_bit t x k bx bk)) (sym (closes_bit t k y bk hy)))

  -- ---- all of them
  length_chained : (k : ℕ) (t : List ℕ) → length (chained n k t) ≡ length t
  unfolding chained
  length_chained zero t = refl
  length_chained (suc k) t = length_passed k (chained n k t) ∙ length_chained k t

  closes_chained : (t : List ℕ) → length t ≡ sheet_words → (k : ℕ) → k ≤ n → (x y : ℕ) → x < n → y < most_operators → closes_in (chained n k t) x y ≡ through (closes_in t) k x y
  unfolding chained
  closes_chained t long zero h x y hx hy = refl
  closes_chained t long (suc k) h x y hx hy =
      closes_passed k (chained n k t) (length_chained k t ∙ long) (omega arith) x y hx hy
      ∙ ap₂ ◌||◌ (closes_chained t long k (omega arith) x y hx hy)
      (ap₂ ◌&&◌ (closes_chained t long k (omega arith) x k hx (omega arith)) (closes_chained t long k (omega arith) k y (omega arith) hy))

  -- past the operators nothing changes
  kept_beyond : (t : List ℕ) (k x y : ℕ) → n ≤ x → x < most_operators → y < most_operators → closes_in (chained n k t) x y ≡ closes_in t x y
  unfolding chained passed
  kept_beyond t zero x y h hx hy = refl
  kept_beyond t (suc k) x y h hx hy =
      closes_bit _ x y hx hy ∙ ap (λ w. bit_of w y) (not_changed (λ a w. joined w k (get_or (chained n k t) k 0)) (chained n k t) n x h)
      ∙ sym (closes_bit (chained n k t) x y hx hy) ∙ kept_beyond t k x y h hx hy

  -- ---- marked pairs put in
  module _ (kind : ℕ) (marked t : List ℕ) where
    length_added : length (added n kind marked t) ≡ length t
    unfolding added
    length_added = length_changed _ t n

    module _ (long : length t ≡ sheet_words) (x y : ℕ) (hy : y < most_operators) where
      closes_added : x < n → closes_in (added n kind marked t) x y ≡ (closes_in t x y || bit_of (get_or marked (word_of kind x) 0) y)
      unfolding added
      closes_added hx =
          let bx : x < most_operators = omega arith in
          closes_bit _ x y bx hy ∙ ap (λ w. bit_of w y) (word_changed (λ a w. bit_or w (get_or marked (word_of kind a) 0)) t n x (omega arith) hx)
          ∙ bit_or_lem (get_or t x 0) (get_or marked (word_of kind x) 0) y ∙ ap (λ p. p || bit_of (get_or marked (word_of kind x) 0) y) (sym (closes_bit t x y bx hy))

      closes_kept : n ≤ x → x < most_operators → closes_in (added n kind marked t) x y ≡ closes_in t x y
      unfolding added
      closes_kept hx bx = closes_bit _ x y bx hy ∙ ap (λ w. bit_of w y) (not_changed (λ a w. bit_or w (get_or marked (word_of kind a) 0)) t n x hx) ∙ sym (closes_bit t x y bx hy)

  pub length_related : (side : ℕ) (marked t : List ℕ) → length (related n side marked t) ≡ length t
  unfolding related
  length_related side marked t = length_added side marked (chained n n (added n priority marked t)) ∙ length_chained n (added n priority marked t) ∙ length_added priority marked t

-- ---- rules in order
same : (p q : Bool) → (p ≡ true) ↔ (q ≡ true) → p ≡ q
same true q h = sym (h.0 refl)
same false true h = h.1 refl
same false false h = refl

-- Pairs below n, marked in a table by kind.
module _ (n : ℕ) (few : n ≤ most_operators) (marked : List ℕ) (pairs : ℕ → ℕ → ℕ → Bool) (below : (kind a b : ℕ) → pairs kind a b ≡ true → (a < n) × (b < n))
    (is : (kind x y : ℕ) → kind ≤ right → x < most_operators → bit_of (get_or marked (word_of kind x) 0) y ≡ pairs kind x y) where
  -- those of priority, in a table of their own
  abbrev direct : List ℕ
  direct = added n priority marked fresh

  direct_below : (a b : ℕ) → a < most_operators → b < most_operators → Dec (a < n) → closes_in direct a b ≡ pairs priority a b
  direct_below a b ha hb (yes l) =
      closes_added n few priority marked fresh refl a b hb l ∙ ap (λ p. p || bit_of (get_or marked (word_of priority a) 0) b) (closes_blank a b ha hb) ∙ is priority a b (omega arith) ha
  direct_below a b ha hb (no l) =
      closes_kept n few priority marked fresh refl a b hb (omega arith) ha ∙ closes_blank a b ha hb ∙ sym (as_false (pairs priority a b) (λ e. l (below priority a b e).0))

  direct_is : (a b : ℕ) → closes_in direct a b ≡ pairs priority a b
  direct_is = closes_everywhere direct (pairs priority) (λ a b e. let m = below priority a b e in (omega arith, omega arith)) (λ a b ha hb. direct_below a b ha hb (dec_lt a n))

  long : length direct ≡ sheet_words
  long = length_added n few priority marked fresh

  -- chained, they are what chains of them lead to
  chained_exactly_if : (x y : ℕ) → x < n → y < most_operators → (closes_in (chained n n direct) x y ≡ true) ↔ Chain (pairs priority) x y
  chained_exactly_if x y hx hy =
      let iff = through_exactly_if (closes_in direct) n (λ a b e. (below priority a b (sym (direct_is a b) ∙ e)).1) x y in
      let c = closes_chained n few direct long n (omega arith) x y hx hy in (
        λ e. chain_within (pairs priority) (λ a b s. sym (direct_is a b) ∙ s) (iff.0 (sym c ∙ e)),
        λ k. c ∙ iff.1 (chain_within (closes_in direct) (λ a b s. direct_is a b ∙ s) k),
      )

  chained_beyond : (x y : ℕ) → n ≤ x → x < most_operators → y < most_operators → closes_in (chained n n direct) x y ≡ false
  chained_beyond x y h hx hy =
      kept_beyond n few direct n x y h hx hy ∙ direct_is x y ∙ as_false (pairs priority x y) (λ e. let m = below priority x y e in omega arith)

  -- With the pairs of a side, where `led` says what chains lead to.
  module _ (side : ℕ) (known : side ≤ right) (led : ℕ → ℕ → Bool) (led_below : (x y : ℕ) → led x y ≡ true → x < n) (decides : (x y : ℕ) → (led x y ≡ true) ↔ Chain (pairs priority) x y) where
    chained_is : (x y : ℕ) → x < most_operators → y < most_operators → Dec (x < n) → closes_in (chained n n direct) x y ≡ led x y
    chained_is x y hx hy (yes l) =
        let (to, from) = chained_exactly_if x y l hy in
        let (chain, computed) = decides x y in
        same _ _ (λ e. computed (to e), λ e. from (chain e))
    chained_is x y hx hy (no l) = chained_beyond x y (omega arith) hx hy ∙ sym (as_false (led x y) (λ e. l (led_below x y e)))

    related_is : (x y : ℕ) → x < most_operators → y < most_operators → closes_in (related n side marked fresh) x y ≡ (led x y || pairs side x y)
    unfolding related
    related_is x y hx hy = go (dec_lt x n)
      where
        long_chained : length (chained n n direct) ≡ sheet_words
        long_chained = length_chained n few n direct ∙ long

        go : Dec (x < n) → closes_in (added n side marked (chained n n direct)) x y ≡ (led x y || pairs side x y)
        go (yes l) = closes_added n few side marked (chained n n direct) long_chained x y hy l ∙ ap₂ ◌||◌ (chained_is x y hx hy (yes l)) (is side x y known hx)
        go (no l) =
            closes_kept n few side marked (chained n n direct) long_chained x y hy (omega arith) hx ∙ chained_is x y hx hy (no l) ∙ sym (or-false (led x y))
            ∙ ap (λ p. led x y || p) (sym (as_false (pairs side x y) (λ e. l (below side x y e).0)))

-- Rules of which none is strange: their relation is the patterns R, and turned round the patterns L.
module _ (n : ℕ) (few : n ≤ most_operators) (rules : List Rule) (plain : any_holds (strange_rule n) rules ≡ false) (x y : ℕ) (hx : x < most_operators) (hy : y < most_operators) where
  pub related_is_R : closes_in (related n left (marks_all marks rules unmarked) fresh) x y ≡ R rules x y
  unfolding R
  related_is_R =
      related_is n few (marks_all marks rules unmarked) (λ kind. written kind rules) (λ kind a b. written_below kind n rules a b plain)
      (λ kind a b. pairs_written n few rules plain kind a b) left (omega arith) (leads rules)
      (λ a b e. (leads_below n rules plain ((leads_exactly_if rules a b).0 e)).0) (leads_exactly_if rules) x y hx hy

  pub related_is_L : closes_in (related n right (marks_all marks_turned rules unmarked) fresh) x y ≡ L rules y x
  unfolding L
  related_is_L =
      related_is n few (marks_all marks_turned rules unmarked) (λ kind a b. written kind rules b a) (λ kind a b e. let (p, q) = written_below kind n rules b a plain e in (q, p))
      (λ kind a b. pairs_turned n few rules plain kind a b) right (omega arith) (λ a b. leads rules b a)
      (λ a b e. (leads_below n rules plain ((leads_exactly_if rules b a).0 e)).1)
      (λ a b. (λ e. chain_turned ((leads_exactly_if rules b a).0 e), λ k. (leads_exactly_if rules b a).1 (chain_turned k))) x y hx hy
