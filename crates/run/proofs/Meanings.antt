-- Each test of a row, a record or both decides its condition, and so a list of checks gives the number that the conditions mean. Assumes nothing.
use Prim.Native.Nat.{ℕ, ◌<◌, ◌≤◌}
use mathlib.Core.Path.{◌≡◌, refl, ap, sym, ◌∙◌}
use mathlib.Core.Bool.{Bool, true, false, not, ◌&&◌, ◌||◌, cond, true≢false, false≢true}
use mathlib.Core.Logic.{◌↔◌, ◌⊎◌, inl, inr}
use mathlib.Core.Option.{Option, none, some, none-ne-some}
use mathlib.Core.List.{List, [], ◌∷◌, ◌++◌}
use lib.Dec.{eqb, ltb}
use lib.ListN.{length}
use borrow.Author.Tests.{ltb-true, ltb-false, lt-ltb, le-ltb, eqb-true, eq-eqb, not-true, not-false}
use Rattle.expression.specs.Lists.{any_holds}
use Rattle.expression.specs.Limits.{most_tokens, most_record_bytes}
use Rattle.expression.specs.Refusal.{Check, first, accepted, oversize, stranger, no_row, no_tree, other_row, conflict}
use Rattle.expression.specs.Token.{Class, Infix, Prefix, Opening, Closing, Reading, Meaningless, class}
use Rattle.expression.specs.Tree.{Tree, yield}
use Rattle.expression.specs.Grammar.{Row}
use Rattle.expression.specs.RowTest.{is_row}
use Rattle.expression.specs.Decode.{tree_of}
use Rattle.expression.specs.Operand.{row_of}
use Rattle.expression.specs.Checks.{strange_in_row, strange_in_record, is_none, row_tokens, row_checks, record_checks}
use Rattle.expression.proofs.Classes.{brackets}
use Rattle.expression.proofs.RecordsAndTrees.{record_tree_of}
use Rattle.expression.proofs.Numbers.{read_as}
use Rattle.expression.proofs.RowTestDecides.{is_row_exactly_if_row}
use Rattle.disambiguation.specs.Conflicts.{conflict_count}
use Rattle.claims.specs.Claims.{same_bytes, claim_checks, count_by}
use Rattle.claims.proofs.SameBytes.{same_exactly_if}
use Rattle.run.specs.Book.{Book}
use Rattle.run.specs.AnswerBytes.{Records}
use Rattle.run.specs.Meaning.{When, Accepted, SomeOf, OfRow, OfRecord, OfClaim}

-- the test holds exactly if the condition does
abbrev pub Decides : Bool → Type 0 → Type 0
Decides x Condition = (x ≡ true) ↔ Condition

-- One check: where its test decides the condition, the rest has to be shown only where the test fails.
pub when : {Condition : Type 0} (Else : ℕ → Type 0) (x : Bool) (this rest : ℕ) → Decides x Condition → (x ≡ false → Else rest) → When Condition this Else (cond x this rest)
when Else true this rest d f = inl (d.0 refl, refl)
when Else false this rest d f = inr (λ c. false≢true (d.1 c), f refl)

-- ---- tests of tests
pub decides_or : {A B : Type 0} (x y : Bool) → Decides x A → Decides y B → Decides (x || y) (A ⊎ B)
decides_or true y d e = (λ _. inl (d.0 refl), λ _. refl)
decides_or {A} {B} false y d e = (λ h. inr (e.0 h), go)
  where
    go : A ⊎ B → y ≡ true
    go (inl a) = absurd (false≢true (d.1 a))
    go (inr b) = e.1 b

pub decides_and : {A B : Type 0} (x y : Bool) → Decides x A → Decides y B → Decides (x && y) (A × B)
decides_and true y d e = (λ h. (d.0 refl, e.0 h), λ h. e.1 h.1)
decides_and false y d e = (λ h. absurd (false≢true h), λ h. d.1 h.0)

pub decides_not : {A : Type 0} (x : Bool) → Decides x A → Decides (not x) (A → ⊥)
decides_not true d = (λ h. absurd (false≢true h), λ h. absurd (h (d.0 refl)))
decides_not false d = (λ _ a. false≢true (d.1 a), λ _. refl)

pub decides_less : (a b : ℕ) → Decides (ltb a b) (a < b)
decides_less a b = (ltb-true a b, lt-ltb a b)

pub decides_not_less : (a b : ℕ) → Decides (not (ltb a b)) (b ≤ a)
decides_not_less a b = (λ e. ltb-false a b (not-true (ltb a b) e), λ h. ap not (le-ltb a b h))

pub decides_some : {A : Type 0} (p : A → Bool) (P : A → Type 0) → ((x : A) → Decides (p x) (P x)) → (xs : List A) → Decides (any_holds p xs) (SomeOf P xs)
decides_some p P d [] = (λ e. absurd (false≢true e), λ h. absurd h)
decides_some p P d (x ∷ xs) = decides_or (p x) (any_holds p xs) (d x) (decides_some p P d xs)

-- ---- 3 of a row and of a record
strange_in_row_lem : (x : Class) → strange_in_row x ≡ true → x ≡ Meaningless
strange_in_row_lem Infix e = absurd (false≢true e)
strange_in_row_lem Prefix e = absurd (false≢true e)
strange_in_row_lem Opening e = absurd (false≢true e)
strange_in_row_lem Closing e = absurd (false≢true e)
strange_in_row_lem Reading e = absurd (false≢true e)
strange_in_row_lem Meaningless e = refl

strange_in_record_lem : (x : Class) → strange_in_record x ≡ true → (x ≡ Meaningless) ⊎ (x ≡ Closing)
strange_in_record_lem Infix e = absurd (false≢true e)
strange_in_record_lem Prefix e = absurd (false≢true e)
strange_in_record_lem Opening e = absurd (false≢true e)
strange_in_record_lem Closing e = inr refl
strange_in_record_lem Reading e = absurd (false≢true e)
strange_in_record_lem Meaningless e = inl refl

is_strange_in_record : (x : Class) → (x ≡ Meaningless) ⊎ (x ≡ Closing) → strange_in_record x ≡ true
is_strange_in_record x (inl e) = ap strange_in_record e
is_strange_in_record x (inr e) = ap strange_in_record e

module _ (b : Book) where
  -- 1, 3 and 6 of a row
  pub row_means : (Else : ℕ → Type 0) (row : List ℕ) (rest : List Check) → (Row b.operators row → Else (first rest))
      → OfRow b row Else (first (row_checks b.operators row ++ rest))
  row_means Else row rest f =
      when After1 (ltb most_tokens (length row)) oversize _ (decides_less most_tokens (length row))
      (λ _. when After3 (any_holds (λ c. strange_in_row (class b.operators c)) row) stranger _
      (decides_some (λ c. strange_in_row (class b.operators c)) (λ c. class b.operators c ≡ Meaningless)
      (λ c. (strange_in_row_lem (class b.operators c), λ e. ap strange_in_row e)) row)
      (λ _. when Else (not (is_row (class b.operators) row)) no_row (first rest)
      (decides_not (is_row (class b.operators) row) (is_row_exactly_if_row b.operators row))
      (λ e. f ((is_row_exactly_if_row b.operators row).0 (not-false (is_row (class b.operators) row) e)))))
    where
      After3 : ℕ → Type 0
      After3 = When (Row b.operators row → ⊥) no_row Else

      After1 : ℕ → Type 0
      After1 = When (SomeOf (λ c. class b.operators c ≡ Meaningless) row) stranger After3

  -- a record is read back as its tree, and what is read as a tree is its record
  pub reads_back : (bytes : List ℕ) (t : Tree) → Records b bytes t → tree_of (class b.operators) bytes ≡ some t
  reads_back bytes t r = read_as b.operators bytes t r.0 r.1

  read_records : (bytes : List ℕ) (t : Tree) → tree_of (class b.operators) bytes ≡ some t → Records b bytes t
  read_records bytes t e = let (r, h) = record_tree_of (class b.operators) (brackets b.operators) bytes t e in (h, r)

  decides_no_tree : (bytes : List ℕ) → Decides (is_none (tree_of (class b.operators) bytes)) ((t : Tree) → Records b bytes t → ⊥)
  decides_no_tree bytes = go (tree_of (class b.operators) bytes) refl
    where
      go : (o : Option Tree) → tree_of (class b.operators) bytes ≡ o → Decides (is_none o) ((t : Tree) → Records b bytes t → ⊥)
      go none e = (λ _ t r. none-ne-some t (sym e ∙ reads_back bytes t r), λ _. refl)
      go (some t) e = (λ h. absurd (false≢true h), λ h. absurd (h t (read_records bytes t e)))

  read_tree : (bytes : List ℕ) → is_none (tree_of (class b.operators) bytes) ≡ false → (t : Tree) × Records b bytes t
  read_tree bytes = go (tree_of (class b.operators) bytes) refl
    where
      go : (o : Option Tree) → tree_of (class b.operators) bytes ≡ o → is_none o ≡ false → (t : Tree) × Records b bytes t
      go none e h = absurd (true≢false h)
      go (some t) e h = (t, read_records bytes t e)

  -- a test of the tree that a record is of
  decides_of_tree : (bytes : List ℕ) (t : Tree) → Records b bytes t → (test : Option Tree → Bool) (Is : Tree → Type 0) → ((u : Tree) → Decides (test (some u)) (Is u))
      → Decides (test (tree_of (class b.operators) bytes)) ((u : Tree) × Records b bytes u × Is u)
  decides_of_tree bytes t r test Is d = (
    λ e. (t, r, (d t).0 (sym (ap test (reads_back bytes t r)) ∙ e)),
    λ h. let (u, s, l) = h in ap test (reads_back bytes u s) ∙ (d u).1 l,
  )

  -- 1, 3, 7 and again 1 of a record
  pub record_means : (Else : ℕ → Type 0) (bytes : List ℕ) (rest : List Check) → ((t : Tree) → Records b bytes t → Else (first rest))
      → OfRecord b bytes Else (first (record_checks b.operators bytes ++ rest))
  record_means Else bytes rest f =
      when After1 (ltb most_record_bytes (length bytes)) oversize _ (decides_less most_record_bytes (length bytes))
      (λ _. when After3 (any_holds (λ c. strange_in_record (class b.operators c)) bytes) stranger _
      (decides_some (λ c. strange_in_record (class b.operators c)) (λ c. (class b.operators c ≡ Meaningless) ⊎ (class b.operators c ≡ Closing))
      (λ c. (strange_in_record_lem (class b.operators c), is_strange_in_record (class b.operators c))) bytes)
      (λ _. when After7 (is_none (tree_of (class b.operators) bytes)) no_tree _ (decides_no_tree bytes)
      (λ e.
      let (t, r) = read_tree bytes e in
      when Else (ltb most_tokens (row_tokens (tree_of (class b.operators) bytes))) oversize (first rest)
      (decides_of_tree bytes t r (λ o. ltb most_tokens (row_tokens o)) (λ u. most_tokens < length (yield u)) (λ u. decides_less most_tokens (length (yield u)))) (λ _. f t r))))
    where
      After7 : ℕ → Type 0
      After7 = When ((t : Tree) × Records b bytes t × (most_tokens < length (yield t))) oversize Else

      After3 : ℕ → Type 0
      After3 = When ((t : Tree) → Records b bytes t → ⊥) no_tree After7

      After1 : ℕ → Type 0
      After1 = When (SomeOf (λ c. (class b.operators c ≡ Meaningless) ⊎ (class b.operators c ≡ Closing)) bytes) stranger After3

  -- 16 and 17 of a record that came with a row
  pub claim_means : (row bytes : List ℕ) (t : Tree) → Records b bytes t
      → OfClaim b row bytes (first (claim_checks (same_bytes (row_of (tree_of (class b.operators) bytes)) row) (count_by b.rules (tree_of (class b.operators) bytes))))
  claim_means row bytes t r =
      when After16 (not (same_bytes (row_of (tree_of (class b.operators) bytes)) row)) other_row _
      (decides_of_tree bytes t r (λ o. not (same_bytes (row_of o) row)) (λ u. yield u ≡ row → ⊥) (λ u. decides_not (same_bytes (yield u) row) (same_exactly_if (yield u) row)))
      (λ _. when Accepted (not (eqb (count_by b.rules (tree_of (class b.operators) bytes)) 0)) conflict accepted
      (decides_of_tree bytes t r (λ o. not (eqb (count_by b.rules o) 0)) (λ u. conflict_count b.rules u ≡ 0 → ⊥)
      (λ u. decides_not (eqb (conflict_count b.rules u) 0) (eqb-true (conflict_count b.rules u) 0, eq-eqb (conflict_count b.rules u) 0))) (λ _. refl))
    where
      After16 : ℕ → Type 0
      After16 = When ((u : Tree) × Records b bytes u × (conflict_count b.rules u ≡ 0 → ⊥)) conflict Accepted
