-- Records and trees match one to one. Assumes nothing.
use Prim.Native.Nat.{ℕ}
use mathlib.Core.Path.{◌≡◌, refl, ap, sym, ◌∙◌}
use mathlib.Core.Option.{Option, none, some, none-ne-some, some-injective}
use mathlib.Core.List.{List, [], ◌∷◌, ◌++◌, append_assoc, append-nil}
use Rattle.expression.specs.Token.{Class, Infix, Prefix, Opening, Closing, Reading, Meaningless, opening}
use Rattle.expression.specs.Tree.{Tree, reading, bracket, binary, prefix, record_of, Over}
use Rattle.expression.specs.Decode.{and_then, wrap_top, join_tops, prepend, only, trees_of, tree_of}
use Rattle.expression.proofs.Classes.{Brackets}

-- the records of trees, one after the other
abbrev records_of : List Tree → List ℕ
records_of [] = []
records_of (t ∷ ts) = record_of t ++ records_of ts

module _ (k : ℕ → Class) where
  abbrev Overs : List Tree → Type 0
  Overs [] = Unit {0}
  Overs (t ∷ ts) = Over k t × Overs ts

  -- the bytes list these trees
  abbrev Lists : List ℕ → List Tree → Type 0
  Lists bytes ts = (records_of ts ≡ bytes) × Overs ts

  module _ (brackets : Brackets k) where
    trees_of_record : (t : Tree) → Over k t → (bytes : List ℕ) (ts : List Tree) → trees_of k bytes ≡ some ts → trees_of k (record_of t ++ bytes) ≡ some (t ∷ ts)
    trees_of_record (reading a) h bytes ts e = rw (e, h)
    trees_of_record (bracket t) h bytes ts e = rw (trees_of_record t h bytes ts e, brackets.opens)
    trees_of_record (binary o l r) h bytes ts e =
        rw (append_assoc (record_of l) (record_of r) bytes, trees_of_record l h.1 (record_of r ++ bytes) (r ∷ ts) (trees_of_record r h.2 bytes ts e), h.0)
    trees_of_record (prefix p t) h bytes ts e = rw (trees_of_record t h.1 bytes ts e, h.0)

    -- a byte that makes the first tree into another, which has the byte before its record
    wrapped : (c : ℕ) (wrap : Tree → Tree) → ((t : Tree) → Over k t → (record_of (wrap t) ≡ c ∷ record_of t) × Over k (wrap t))
        → (bytes : List ℕ) (ts us : List Tree) → Lists bytes ts → wrap_top wrap ts ≡ some us → Lists (c ∷ bytes) us
    wrapped c wrap f bytes [] us h e = absurd (none-ne-some us e)
    wrapped c wrap f bytes (t ∷ ts) us h e =
        rw (← some-injective (wrap t ∷ ts) us e)
        (ap (λ x. x ++ records_of ts) (f t h.1.0).0 ∙ ap (λ x. c ∷ x) h.0, ((f t h.1.0).1, h.1.1))

    joined : (o : ℕ) → k o ≡ Infix → (bytes : List ℕ) (ts us : List Tree) → Lists bytes ts → join_tops o ts ≡ some us → Lists (o ∷ bytes) us
    joined o ho bytes [] us h e = absurd (none-ne-some us e)
    joined o ho bytes (l ∷ []) us h e = absurd (none-ne-some us e)
    joined o ho bytes (l ∷ r ∷ ts) us h e =
        rw (← some-injective (binary o l r ∷ ts) us e)
        (ap (λ x. o ∷ x) (append_assoc (record_of l) (record_of r) (records_of ts) ∙ h.0), ((ho, h.1.0, h.1.1.0), h.1.1.1))

    prepended : (x : Class) (c : ℕ) → k c ≡ x → (bytes : List ℕ) (ts us : List Tree) → Lists bytes ts → prepend x c ts ≡ some us → Lists (c ∷ bytes) us
    prepended Infix c hc bytes ts us h e = joined c hc bytes ts us h e
    prepended Prefix c hc bytes ts us h e = wrapped c (prefix c) (λ t g. (refl, (hc, g))) bytes ts us h e
    prepended Opening c hc bytes ts us h e = rw (brackets.opening_only c hc) (wrapped opening bracket (λ t g. (refl, g)) bytes ts us h e)
    prepended Closing c hc bytes ts us h e = absurd (none-ne-some us e)
    prepended Reading c hc bytes ts us h e = rw (← some-injective (reading c ∷ ts) us e) (ap (λ x. c ∷ x) h.0, (hc, h.1))
    prepended Meaningless c hc bytes ts us h e = absurd (none-ne-some us e)

    trees_of_lists : (bytes : List ℕ) (ts : List Tree) → trees_of k bytes ≡ some ts → Lists bytes ts
    trees_of_lists [] ts e = rw (← some-injective [] ts e) (refl, tt)
    trees_of_lists (c ∷ bytes) ts e = go (trees_of k bytes) (trees_of_lists bytes) e
      where
        go : (o : Option (List Tree)) → ((us : List Tree) → o ≡ some us → Lists bytes us) → and_then o (prepend (k c) c) ≡ some ts → Lists (c ∷ bytes) ts
        go none f e = absurd (none-ne-some ts e)
        go (some us) f e = prepended (k c) c refl bytes us ts (f us refl) e

    only_lists : (bytes : List ℕ) (ts : List Tree) (t : Tree) → Lists bytes ts → only ts ≡ some t → (record_of t ≡ bytes) × Over k t
    only_lists bytes [] t h e = absurd (none-ne-some t e)
    only_lists bytes (u ∷ []) t h e = rw (← some-injective u t e) (sym (append-nil (record_of u)) ∙ h.0, h.1.0)
    only_lists bytes (u ∷ v ∷ ts) t h e = absurd (none-ne-some t e)

    -- The record of a tree over the operators is read back as that tree.
    pub tree_of_record : (t : Tree) → Over k t → tree_of k (record_of t) ≡ some t
    unfolding tree_of
    tree_of_record t h = rw (rw append-nil at (trees_of_record t h [] [] refl))

    -- Bytes that are read as a tree are the record of that tree, and it is over the operators.
    pub record_tree_of : (bytes : List ℕ) (t : Tree) → tree_of k bytes ≡ some t → (record_of t ≡ bytes) × Over k t
    unfolding tree_of
    record_tree_of bytes t e = go (trees_of k bytes) (trees_of_lists bytes) e
      where
        go : (o : Option (List Tree)) → ((us : List Tree) → o ≡ some us → Lists bytes us) → and_then o only ≡ some t → (record_of t ≡ bytes) × Over k t
        go none f e = absurd (none-ne-some t e)
        go (some us) f e = only_lists bytes us t (f us refl) e

    -- So a tree over the operators has one record, and a record one tree.
    pub record_injective : (t u : Tree) → Over k t → Over k u → record_of t ≡ record_of u → t ≡ u
    record_injective t u ht hu e = some-injective t u (sym (tree_of_record t ht) ∙ ap (tree_of k) e ∙ tree_of_record u hu)
