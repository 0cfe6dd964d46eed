-- Among the conflict-free trees that agree once bare, the one with just the brackets that it needs has the shortest row; without prefix operators no other has one as short. Assumes nothing.
use Prim.Native.Nat.{ℕ, suc, ◌+◌, ◌≤◌}
use native.Mathlib.Omega.{arith}
use mathlib.Core.Path.{◌≡◌, refl, ap, ap₂, sym, ◌∙◌}
use mathlib.Core.Bool.{Bool, true, false, ◌||◌, true≢false, false≢true}
use mathlib.Core.List.{List, [], ◌∷◌}
use lib.ListN.{length, length-append}
use Rattle.expression.specs.Lists.{any_holds, how_many}
use Rattle.expression.specs.Token.{closing}
use Rattle.expression.specs.Tree.{Tree, reading, bracket, binary, prefix, yield}
use Rattle.expression.proofs.Cond.{by_cond}
use Rattle.expression.proofs.Tests.{both_false, any_append}
use Rattle.disambiguation.specs.Edges.{prefixes, on_top, shown_as_left_operand, shown_as_right_operand}
use Rattle.disambiguation.specs.Conflicts.{conflicts}
use Rattle.disambiguation.proofs.Plain.{Plain}
use Rattle.brackets.specs.SameMeaning.{bare}
use Rattle.brackets.specs.Enclosed.{around, left_of, right_of, enclosed}
use Rattle.brackets.proofs.Enclosing.{counted_none, enclosed_bare}

-- u's row is at most as long as v's, and without prefix operators as long only if v is u
record Shorter (u v : Tree) : Type 0 where
  at_most : length (yield u) ≤ length (yield v)
  as_long : Plain (bare v) → length (yield v) ≡ length (yield u) → v ≡ u

same : (t : Tree) → Shorter t t
same t = record { at_most = omega arith; as_long = λ _ e. refl }

bracket_length : (t : Tree) → length (yield (bracket t)) ≡ length (yield t) + 2
bracket_length t = omega (arith, length-append (yield t) (closing ∷ []))

binary_length : (o : ℕ) (l r : Tree) → length (yield (binary o l r)) ≡ length (yield l) + suc (length (yield r))
binary_length o l r = length-append (yield l) (o ∷ yield r)

-- brackets on both sides, on one side, two operands, and one
both_bracketed : (u v : Tree) → Shorter u v → Shorter (bracket u) (bracket v)
both_bracketed u v s =
    record {
      at_most = omega (arith, s.at_most, bracket_length u, bracket_length v);
      as_long = λ h e. ap bracket (s.as_long h (omega (arith, e, bracket_length u, bracket_length v)));
    }

bracketed : (u v : Tree) → Shorter u v → Shorter u (bracket v)
bracketed u v s =
    record {
      at_most = omega (arith, s.at_most, bracket_length v);
      as_long = λ _ e. absurd (omega (arith, e, s.at_most, bracket_length v));
    }

joined : (o : ℕ) (l l' r r' : Tree) → Shorter l' l → Shorter r' r → Shorter (binary o l' r') (binary o l r)
joined o l l' r r' s q =
    let a = binary_length o l r in
    let b = binary_length o l' r' in
    record {
      at_most = omega (arith, s.at_most, q.at_most);
      as_long = λ h e.
          ap₂ (binary o) (s.as_long h.0 (omega (arith, e, s.at_most, q.at_most))) (q.as_long h.1 (omega (arith, e, s.at_most, q.at_most)));
    }

led : (p : ℕ) (t t' : Tree) → Shorter t' t → Shorter (prefix p t') (prefix p t)
led p t t' s = record { at_most = omega (arith, s.at_most); as_long = λ h e. absurd h }

by_either : {A : Type 0} (a b : Bool) → (a ≡ true → A) → (b ≡ true → A) → (a || b) ≡ true → A
by_either true b f g e = f refl
by_either false b f g e = g e

-- a prefix operator shows only through an operand without brackets
through : (p : ℕ → Bool) (needed : Bool) (t : Tree) → any_holds p (prefixes (around needed t)) ≡ true → (needed ≡ false) × (any_holds p (prefixes t) ≡ true)
through p true t e = absurd (false≢true e)
through p false t e = (refl, e)

module _ (L R : ℕ → ℕ → Bool) where
  -- without prefix operators none shows on the right edge
  plain_shows_none : (t : Tree) → Plain (bare t) → prefixes (enclosed L R t) ≡ []
  plain_shows_none (reading a) h = refl
  plain_shows_none (bracket t) h = plain_shows_none t h
  plain_shows_none (binary o l r) h =
      by_cond (λ u. prefixes u ≡ []) (any_holds (R o) (shown_as_right_operand (enclosed L R r))) (λ _. refl) (λ _. plain_shows_none r h.1)
  plain_shows_none (prefix p t) h = absurd h

  -- If the test holds of nothing that is seen of t, and of something that is seen once t has just the brackets that it needs, then a pair was left out: there is room for one.
  abbrev Room : (Tree → List ℕ) → Tree → Type 0
  Room seen t = (p : ℕ → Bool) → any_holds p (seen t) ≡ false → any_holds p (seen (enclosed L R t)) ≡ true → Shorter (bracket (enclosed L R t)) t

  -- what is known of a conflict-free tree: its row becomes no longer, and what is newly seen has left room
  record Known (t : Tree) : Type 0 where
    short : Shorter (enclosed L R t) t
    top_room : Room on_top t
    prefix_room : Room prefixes t

  -- An operand that shows no conflict with the operator above,
  operand : (seen : Tree → List ℕ) (p : ℕ → Bool) (t : Tree) → how_many p (seen t) ≡ 0 → Shorter (enclosed L R t) t → Room seen t
      → Shorter (around (any_holds p (seen (enclosed L R t))) (enclosed L R t)) t
  operand seen p t h s room = by_cond (λ u. Shorter u t) (any_holds p (seen (enclosed L R t))) (room p (counted_none p (seen t) h)) (λ _. s)

  -- as its right or only operand, and as its left.
  on_right : (o : ℕ) (t : Tree) → how_many (R o) (shown_as_right_operand t) ≡ 0 → Known t → Shorter (right_of L R o (enclosed L R t)) t
  on_right o t h k = operand shown_as_right_operand (R o) t h k.short k.top_room

  on_left : (o : ℕ) (t : Tree) → how_many (L o) (shown_as_left_operand t) ≡ 0 → Known t → Shorter (left_of L R o (enclosed L R t)) t
  on_left o t h k =
      operand shown_as_left_operand (L o) t h k.short
      (λ p e f.
      let (a, b) = both_false (any_holds p (on_top t)) (any_holds p (prefixes t)) (sym (any_append p (on_top t) (prefixes t)) ∙ e) in
      by_either (any_holds p (on_top (enclosed L R t))) (any_holds p (prefixes (enclosed L R t))) (k.top_room p a) (k.prefix_room p b)
      (sym (any_append p (on_top (enclosed L R t)) (prefixes (enclosed L R t))) ∙ f))

  -- ---- the nodes
  known_bracket : (t : Tree) → Known t → Known (bracket t)
  known_bracket t k =
      record {
        short = bracketed (enclosed L R t) t k.short;
        top_room = λ p _ _. both_bracketed (enclosed L R t) t k.short;
        prefix_room = λ p _ _. both_bracketed (enclosed L R t) t k.short;
      }

  known_binary : (o : ℕ) (l r : Tree) → Shorter (left_of L R o (enclosed L R l)) l → Shorter (right_of L R o (enclosed L R r)) r → Room prefixes r → Known (binary o l r)
  known_binary o l r s q room =
      record {
        short = joined o l (left_of L R o (enclosed L R l)) r (right_of L R o (enclosed L R r)) s q;
        top_room = λ p e f. absurd (true≢false (sym f ∙ e));
        prefix_room = λ p e f.
            let (open-right, shows) = through p (any_holds (R o) (shown_as_right_operand (enclosed L R r))) (enclosed L R r) f in
            record {
              at_most = omega (
                arith,
                ap (λ b. length (yield (around b (enclosed L R r)))) open-right,
                s.at_most,
                (room p e shows).at_most,
                bracket_length (enclosed L R r),
                bracket_length (enclosed L R (binary o l r)),
                binary_length o l r,
                binary_length o (left_of L R o (enclosed L R l)) (right_of L R o (enclosed L R r)),
              );
              as_long = λ h _. absurd (false≢true (sym (ap (any_holds p) (plain_shows_none r h.1)) ∙ shows));
            };
      }

  known_prefix : (o : ℕ) (t : Tree) → Shorter (right_of L R o (enclosed L R t)) t → Room prefixes t → Known (prefix o t)
  known_prefix o t s room =
      record {
        short = led o t (right_of L R o (enclosed L R t)) s;
        top_room = λ p e f. absurd (true≢false (sym f ∙ e));
        prefix_room = λ p e f.
            let (a, b) = both_false (p o) (any_holds p (prefixes t)) e in
            let (open-right, shows) = through p (any_holds (R o) (shown_as_right_operand (enclosed L R t))) (enclosed L R t) (rw a at f) in
            record {
              at_most = omega (
                arith,
                ap (λ b. length (yield (around b (enclosed L R t)))) open-right,
                (room p b shows).at_most,
                bracket_length (enclosed L R t),
                bracket_length (enclosed L R (prefix o t)),
              );
              as_long = λ h _. absurd h;
            };
      }

  known : (t : Tree) → conflicts L R t ≡ 0 → Known t
  known (reading a) h = record { short = same (reading a); top_room = λ p e f. absurd (false≢true f); prefix_room = λ p e f. absurd (false≢true f) }
  known (bracket t) h = known_bracket t (known t h)
  known (binary o l r) h =
      let j = known l (omega arith) in
      let k = known r (omega arith) in
      known_binary o l r (on_left o l (omega arith) j) (on_right o r (omega arith) k) k.prefix_room
  known (prefix p t) h = let k = known t (omega arith) in known_prefix p t (on_right p t (omega arith) k) k.prefix_room

  -- Of a conflict-free tree,
  pub enclosed_shortens : (t : Tree) → conflicts L R t ≡ 0 → length (yield (enclosed L R t)) ≤ length (yield t)
  enclosed_shortens t h = (known t h).short.at_most

  -- and of every other that agrees with t once bare.
  module _ (t u : Tree) (free : conflicts L R u ≡ 0) (agree : bare t ≡ bare u) where
    one_tree_lem : enclosed L R t ≡ enclosed L R u
    one_tree_lem = sym (enclosed_bare L R t) ∙ ap (enclosed L R) agree ∙ enclosed_bare L R u

    pub fewest_tokens : length (yield (enclosed L R t)) ≤ length (yield u)
    fewest_tokens = rw one_tree_lem (enclosed_shortens u free)

    pub only_tree : Plain (bare t) → length (yield u) ≡ length (yield (enclosed L R t)) → u ≡ enclosed L R t
    only_tree h e = (known u free).short.as_long (rw agree at h) (e ∙ ap (λ v. length (yield v)) one_tree_lem) ∙ sym one_tree_lem
