-- What each way through `lay_out` gives, from what is known on it. Assumes nothing.
use mathlib.Core.Path.{◌≡◌, refl, sym, ap, ◌∙◌, subst}
use mathlib.Core.List.{List, ◌∷◌}
use Prim.Native.Nat.{ℕ, suc, ◌+◌, ◌*◌, ◌-◌, ◌<◌, ◌≤◌}
use native.Mathlib.Omega.{arith}
use native.Mathlib.Numerals.{add-one}
use lib.ListN.{length, get_or, take, drop, set, length-set}
use lib.Seq.{slice-cons, slice_empty}
use borrow.Author.Rules.{rules}
use Rattle.expression.specs.Limits.{most_tokens}
use Rattle.parser.specs.Notes.{byte_in, places_in, back_in, laid_out, Inside}

module _ (words : List ℕ) (out : List ℕ) where
  -- The first i of the words are laid out; what the rest then lays out is what all of them do.
  pub record Laying (out' : List ℕ) (at i : ℕ) : Type 0 where
    pub rest : laid_out (drop i (take (length out) words)) at out' ≡ laid_out (take (length out) words) 0 out
    pub inside : Inside (length out) (drop i (take (length out) words)) at
    pub same_length : length out' ≡ length out
    pub some_words : i ≤ length out
    pub few_words : length out ≤ most_tokens
    pub enough_words : length out ≤ length words
    pub low : at ≤ 0x100 * i

  pub laying_starts : length out ≤ most_tokens → length out ≤ length words → Inside (length out) (take (length out) words) 0 → Laying out 0 0
  laying_starts h g v =
      record {
        rest = refl;
        inside = v;
        same_length = refl;
        some_words = omega arith;
        few_words = h;
        enough_words = g;
        low = omega arith;
      }

  module _ {out' : List ℕ} {at i : ℕ} (y : Laying out' at i) where
    next : i < length out' → drop i (take (length out) words) ≡ get_or words i 0 ∷ drop (suc i) (take (length out) words)
    next h = slice-cons i (length out) words 0 (omega (arith, y.same_length)) y.enough_words

    places : i < length out' → Inside (length out) (get_or words i 0 ∷ drop (suc i) (take (length out) words)) at
    places h = subst (λ (ws : List ℕ). Inside (length out) ws at) (next h) y.inside

    module _ {w p b : ℕ} (h : i < length out') (is_word : w ≡ get_or words i 0) (is_places : p ≡ places_in w) (is_back : b ≡ back_in w) where
      e : p ≡ places_in (get_or words i 0)
      e = rw is_word at is_places

      f : b ≡ back_in (get_or words i 0)
      f = rw is_word at is_back

      pub has_place : b + 1 ≤ at + p
      unfolding Inside
      has_place = omega (arith, (places h).0, e, f)

      pub place_inside : at + p - (b + 1) < length out'
      unfolding Inside
      place_inside = omega (arith, (places h).1, y.same_length, e, f)

      pub laying_more : {c : ℕ} → p < 0x100 → c ≡ byte_in w → Laying (set out' (at + p - (b + 1)) c) (at + p) (i + 1)
      unfolding laid_out Inside
      laying_more {c} g is_byte =
          let q : c ≡ byte_in (get_or words i 0) = rw is_word at is_byte in
          let one : i + 1 ≡ suc i = add-one i in
          let back : b + 1 ≡ suc b = add-one b in
          record {
            rest =
                ap (λ (n : ℕ). laid_out (drop n (take (length out) words)) (at + p) (set out' (at + p - (b + 1)) c)) one
                ∙ cc (q, e, f)
                ∙ ap (λ (ws : List ℕ). laid_out ws at out') (sym (next h))
                ∙ y.rest;
            inside = rw (one, e) (places h).2;
            same_length = length-set out' (at + p - (b + 1)) c ∙ y.same_length;
            some_words = omega (arith, y.same_length);
            few_words = y.few_words;
            enough_words = y.enough_words;
            low = omega (arith, y.low);
          }

    pub laying_ends : length out' ≤ i → out' ≡ laid_out (take (length out) words) 0 out
    unfolding laid_out
    laying_ends h =
        let end : i ≡ length out = omega (arith, y.same_length, y.some_words) in
        ap (λ (ws : List ℕ). laid_out ws at out') (sym (slice_empty (length out) words) ∙ ap (λ (n : ℕ). drop n (take (length out) words)) (sym end))
        ∙ y.rest

pub ruleset lay_ways = (laying_starts, has_place, place_inside, laying_more, laying_ends, rules)
