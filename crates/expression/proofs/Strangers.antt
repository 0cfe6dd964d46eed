-- A stranger stops the row test and the reading of a record: a row and a tree's record have none. Assumes nothing.
use Prim.Native.Nat.{ℕ}
use mathlib.Core.Path.{◌≡◌, refl, ap, sym, ◌∙◌}
use mathlib.Core.Bool.{Bool, true, false, ◌||◌, false≢true}
use mathlib.Core.Option.{Option, none, some, none-ne-some}
use mathlib.Core.List.{List, [], ◌∷◌}
use Rattle.expression.specs.Lists.{any_holds}
use Rattle.expression.specs.Token.{Class, Infix, Prefix, Opening, Closing, Reading, Meaningless}
use Rattle.expression.specs.Tree.{Tree}
use Rattle.expression.specs.RowTest.{Progress, due, done, wrong, where_due, where_done, complete, advance, scan, is_row}
use Rattle.expression.specs.Decode.{and_then, prepend, only, trees_of, tree_of}
use Rattle.expression.specs.Checks.{strange_in_row, strange_in_record}

is_not : (b : Bool) → (b ≡ true → ⊥) → b ≡ false
is_not true h = absurd (h refl)
is_not false h = refl

module _ (k : ℕ → Class) where
  strange_due : (x : Class) (d : ℕ) → strange_in_row x ≡ true → where_due x d ≡ wrong
  strange_due Infix d e = refl
  strange_due Prefix d e = absurd (false≢true e)
  strange_due Opening d e = absurd (false≢true e)
  strange_due Closing d e = refl
  strange_due Reading d e = absurd (false≢true e)
  strange_due Meaningless d e = refl

  strange_done : (x : Class) (d : ℕ) → strange_in_row x ≡ true → where_done x d ≡ wrong
  strange_done Infix d e = absurd (false≢true e)
  strange_done Prefix d e = refl
  strange_done Opening d e = refl
  strange_done Closing d e = absurd (false≢true e)
  strange_done Reading d e = refl
  strange_done Meaningless d e = refl

  advance_strange : (p : Progress) (c : ℕ) → strange_in_row (k c) ≡ true → advance k p c ≡ wrong
  advance_strange (due d) c e = strange_due (k c) d e
  advance_strange (done d) c e = strange_done (k c) d e
  advance_strange wrong c e = refl

  pub scan_wrong : (tokens : List ℕ) → scan k wrong tokens ≡ wrong
  scan_wrong [] = refl
  scan_wrong (c ∷ cs) = scan_wrong cs

  scan_strange : (tokens : List ℕ) (p : Progress) → any_holds (λ c. strange_in_row (k c)) tokens ≡ true → scan k p tokens ≡ wrong
  scan_strange [] p e = absurd (false≢true e)
  scan_strange (c ∷ cs) p e = go (strange_in_row (k c)) refl (scan_strange cs (advance k p c)) e
    where
      go : (b : Bool) → strange_in_row (k c) ≡ b → (any_holds (λ c. strange_in_row (k c)) cs ≡ true → scan k (advance k p c) cs ≡ wrong)
          → (b || any_holds (λ c. strange_in_row (k c)) cs) ≡ true → scan k (advance k p c) cs ≡ wrong
      go true h f e = ap (λ q. scan k q cs) (advance_strange p c h) ∙ scan_wrong cs
      go false h f e = f e

  prepend_strange : (x : Class) (c : ℕ) (ts : List Tree) → strange_in_record x ≡ true → prepend x c ts ≡ none
  prepend_strange Infix c ts e = absurd (false≢true e)
  prepend_strange Prefix c ts e = absurd (false≢true e)
  prepend_strange Opening c ts e = absurd (false≢true e)
  prepend_strange Closing c ts e = refl
  prepend_strange Reading c ts e = absurd (false≢true e)
  prepend_strange Meaningless c ts e = refl

  trees_of_strange : (bytes : List ℕ) → any_holds (λ c. strange_in_record (k c)) bytes ≡ true → trees_of k bytes ≡ none
  trees_of_strange [] e = absurd (false≢true e)
  trees_of_strange (c ∷ cs) e = go (strange_in_record (k c)) refl (trees_of_strange cs) (trees_of k cs) refl e
    where
      go : (b : Bool) → strange_in_record (k c) ≡ b → (any_holds (λ c. strange_in_record (k c)) cs ≡ true → trees_of k cs ≡ none)
          → (o : Option (List Tree)) → trees_of k cs ≡ o → (b || any_holds (λ c. strange_in_record (k c)) cs) ≡ true → and_then (trees_of k cs) (prepend (k c) c) ≡ none
      go true h f none q e = rw q
      go true h f (some ts) q e = rw q (prepend_strange (k c) c ts h)
      go false h f o q e = rw (f e)

  pub row_has_no_stranger : (tokens : List ℕ) → is_row k tokens ≡ true → any_holds (λ c. strange_in_row (k c)) tokens ≡ false
  unfolding is_row
  row_has_no_stranger tokens e = is_not _ (λ s. false≢true (sym (ap complete (scan_strange tokens (due 0) s)) ∙ e))

  pub record_has_no_stranger : (bytes : List ℕ) (t : Tree) → tree_of k bytes ≡ some t → any_holds (λ c. strange_in_record (k c)) bytes ≡ false
  unfolding tree_of
  record_has_no_stranger bytes t e = is_not _ (λ s. none-ne-some t (sym (ap (λ o. and_then o only) (trees_of_strange bytes s)) ∙ e))
