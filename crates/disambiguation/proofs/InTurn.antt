-- The operators of a tree from the left, and statements about each two or three of a list, in its order. Assumes nothing.
use Prim.Native.Nat.{ℕ}
use mathlib.Core.Path.{◌≡◌, refl, ap, ap₂, sym, ◌∙◌}
use mathlib.Core.Bool.{Bool, true, false, cond}
use mathlib.Core.List.{List, [], ◌∷◌, ◌++◌, append-nil}
use Rattle.expression.specs.Lists.{selected, All}
use Rattle.expression.specs.Token.{Class, Infix, Prefix, Opening, Closing, Reading, opening, closing}
use Rattle.expression.specs.Tree.{Tree, reading, bracket, binary, prefix, yield, Over}
use Rattle.expression.proofs.Classes.{Brackets}
use Rattle.disambiguation.specs.Edges.{on_top}
use Rattle.disambiguation.proofs.Free.{all}
use Rattle.disambiguation.proofs.Conditions.{waits}

-- ---- each two, and each three
abbrev pub Pairs : (ℕ → ℕ → Type 0) → List ℕ → Type 0
Pairs P [] = Unit {0}
Pairs P (x ∷ xs) = All (P x) xs × Pairs P xs

abbrev pub Triples : (ℕ → ℕ → ℕ → Type 0) → List ℕ → Type 0
Triples P [] = Unit {0}
Triples P (x ∷ xs) = Pairs (P x) xs × Triples P xs

-- of the first part of a list, of the last, and with an element after them
module _ (P : ℕ → Type 0) where
  all_left : (xs ys : List ℕ) → All P (xs ++ ys) → All P xs
  all_left [] ys h = tt
  all_left (x ∷ xs) ys h = (h.0, all_left xs ys h.1)

  pub all_right : (xs ys : List ℕ) → All P (xs ++ ys) → All P ys
  all_right [] ys h = h
  all_right (x ∷ xs) ys h = all_right xs ys h.1

module _ (P : ℕ → ℕ → Type 0) where
  pub pairs_left : (xs ys : List ℕ) → Pairs P (xs ++ ys) → Pairs P xs
  pairs_left [] ys h = tt
  pairs_left (x ∷ xs) ys h = (all_left (P x) xs ys h.0, pairs_left xs ys h.1)

  pub pairs_right : (xs ys : List ℕ) → Pairs P (xs ++ ys) → Pairs P ys
  pairs_right [] ys h = h
  pairs_right (x ∷ xs) ys h = pairs_right xs ys h.1

  pub pairs_before : (xs : List ℕ) (o : ℕ) (ys : List ℕ) → Pairs P (xs ++ o ∷ ys) → All (λ p. P p o) xs
  pairs_before [] o ys h = tt
  pairs_before (x ∷ xs) o ys h = ((all_right (P x) xs (o ∷ ys) h.0).0, pairs_before xs o ys h.1)

  every_pair : ((x y : ℕ) → P x y) → (xs : List ℕ) → Pairs P xs
  every_pair f [] = tt
  every_pair f (x ∷ xs) = (all (f x) xs, every_pair f xs)

module _ (P : ℕ → ℕ → ℕ → Type 0) where
  pub triples_left : (xs ys : List ℕ) → Triples P (xs ++ ys) → Triples P xs
  triples_left [] ys h = tt
  triples_left (x ∷ xs) ys h = (pairs_left (P x) xs ys h.0, triples_left xs ys h.1)

  pub triples_right : (xs ys : List ℕ) → Triples P (xs ++ ys) → Triples P ys
  triples_right [] ys h = h
  triples_right (x ∷ xs) ys h = triples_right xs ys h.1

  pub triples_before : (xs : List ℕ) (o : ℕ) (ys : List ℕ) → Triples P (xs ++ o ∷ ys) → Pairs (λ p q. P p q o) xs
  triples_before [] o ys h = tt
  triples_before (x ∷ xs) o ys h = (pairs_before (P x) xs o ys h.0, triples_before xs o ys h.1)

  -- what holds of all holds of each three
  pub every_triple : ((x y z : ℕ) → P x y z) → (xs : List ℕ) → Triples P xs
  every_triple f [] = tt
  every_triple f (x ∷ xs) = (every_pair (P x) (f x) xs, every_triple f xs)

-- ---- the operators of a tree
abbrev pub in_turn : Tree → List ℕ
in_turn (reading a) = []
in_turn (bracket t) = in_turn t
in_turn (binary o l r) = in_turn l ++ o ∷ in_turn r
in_turn (prefix p t) = p ∷ in_turn t

pub on_top_lem : (P : ℕ → Type 0) (t : Tree) → All P (in_turn t) → All P (on_top t)
on_top_lem P (reading a) h = tt
on_top_lem P (bracket t) h = tt
on_top_lem P (binary o l r) h = ((all_right P (in_turn l) (o ∷ in_turn r) h).0, tt)
on_top_lem P (prefix p t) h = tt

-- they are those of its row
selected_append : (p : ℕ → Bool) (xs ys : List ℕ) → selected p (xs ++ ys) ≡ selected p xs ++ selected p ys
selected_append p [] ys = refl
selected_append p (x ∷ xs) ys = go (p x) (selected_append p xs ys)
  where
    go : (b : Bool) → selected p (xs ++ ys) ≡ selected p xs ++ selected p ys → cond b (x ∷ selected p (xs ++ ys)) (selected p (xs ++ ys)) ≡ cond b (x ∷ selected p xs) (selected p xs) ++ selected p ys
    go true e = ap (λ s. x ∷ s) e
    go false e = e

module _ (k : ℕ → Class) (brackets : Brackets k) where
  abbrev operators_of : List ℕ → List ℕ
  operators_of = selected (λ c. waits (k c))

  first_selected : (c : ℕ) (cs : List ℕ) (x : Class) → k c ≡ x → operators_of (c ∷ cs) ≡ cond (waits x) (c ∷ operators_of cs) (operators_of cs)
  first_selected c cs x e = ap (λ y. cond (waits y) (c ∷ operators_of cs) (operators_of cs)) e

  in_turn_lem : (t : Tree) → Over k t → operators_of (yield t) ≡ in_turn t
  in_turn_lem (reading a) h = first_selected a [] Reading h
  in_turn_lem (bracket t) h =
      first_selected opening (yield t ++ (closing ∷ [])) Opening brackets.opens ∙ selected_append (λ c. waits (k c)) (yield t) (closing ∷ [])
      ∙ ap (λ s. operators_of (yield t) ++ s) (first_selected closing [] Closing brackets.closes) ∙ append-nil (operators_of (yield t)) ∙ in_turn_lem t h
  in_turn_lem (binary o l r) h =
      selected_append (λ c. waits (k c)) (yield l) (o ∷ yield r)
      ∙ ap₂ ◌++◌ (in_turn_lem l h.1) (first_selected o (yield r) Infix h.0 ∙ ap (λ s. o ∷ s) (in_turn_lem r h.2))
  in_turn_lem (prefix p t) h = first_selected p (yield t) Prefix h.0 ∙ ap (λ s. p ∷ s) (in_turn_lem t h.1)

  pub same_in_turn : (t u : Tree) → Over k t → Over k u → yield t ≡ yield u → in_turn t ≡ in_turn u
  same_in_turn t u ht hu e = sym (in_turn_lem t ht) ∙ ap operators_of e ∙ in_turn_lem u hu
