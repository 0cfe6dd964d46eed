-- When a row and a record are accepted, in the terms of rows and trees. Assumes nothing.
use Prim.Native.Nat.{ℕ, ◌≤◌, ◌<◌}
use native.Mathlib.Omega.{arith}
use native.Mathlib.Decide.{ℕ_discrete}
use mathlib.Core.Path.{◌≡◌, refl, ap, sym, ◌∙◌}
use mathlib.Core.Bool.{Bool, true, false, not, ◌&&◌, cond, true≢false}
use mathlib.Core.Logic.{◌↔◌}
use mathlib.Core.Option.{Option, none, some}
use mathlib.Core.List.{List, [], ◌∷◌, ◌++◌}
use lib.Dec.{eqb}
use lib.ListN.{length}
use borrow.Author.Tests.{ltb-false, lt-ltb, le-ltb, eq-eqb, not-false}
use Rattle.expression.specs.Lists.{All}
use Rattle.expression.specs.Limits.{most_tokens, most_record_bytes}
use Rattle.expression.specs.Refusal.{Check, Passed, first, accepted, short}
use Rattle.expression.specs.Token.{Operators, class}
use Rattle.expression.specs.Tree.{Tree, yield, record_of, Over}
use Rattle.expression.specs.Grammar.{Row}
use Rattle.expression.specs.RowTest.{is_row}
use Rattle.expression.specs.Decode.{tree_of}
use Rattle.expression.specs.Checks.{is_none, row_tokens, record_bytes, short_check, row_checks, record_checks, row_number, build_number, record_number, repair_number}
use Rattle.expression.proofs.Classes.{brackets}
use Rattle.expression.proofs.RecordsAndTrees.{tree_of_record, record_tree_of}
use Rattle.expression.proofs.RowTestDecides.{is_row_exactly_if_row}
use Rattle.expression.proofs.Lengths.{few_bytes}
use Rattle.expression.proofs.Strangers.{row_has_no_stranger, record_has_no_stranger}

-- no number of the list is 0
abbrev pub Numbered : List Check → Type 0
Numbered cs = All (λ c. c.1 ≡ accepted → ⊥) cs

pub first_passed : (cs : List Check) → Passed cs → first cs ≡ accepted
first_passed [] h = refl
first_passed (c ∷ cs) h = rw h.0 (first_passed cs h.1)

pub passed_first : (cs : List Check) → Numbered cs → first cs ≡ accepted → Passed cs
passed_first [] n e = tt
passed_first (c ∷ cs) n e = go c.0 refl (passed_first cs n.1) e
  where
    go : (b : Bool) → c.0 ≡ b → (first cs ≡ accepted → Passed cs) → cond b c.1 (first cs) ≡ accepted → Passed (c ∷ cs)
    go true h f e = absurd (n.0 e)
    go false h f e = (h, f e)

-- a list and what comes after it
pub first_append : (cs ds : List Check) → Passed cs → first (cs ++ ds) ≡ first ds
first_append [] ds h = refl
first_append (c ∷ cs) ds h = rw h.0 (first_append cs ds h.1)

pub first_refused : (cs ds : List Check) → (first cs ≡ accepted → ⊥) → first (cs ++ ds) ≡ first cs
first_refused [] ds n = absurd (n refl)
first_refused (c ∷ cs) ds n = go c.0 (first_refused cs ds) n
  where
    go : (b : Bool) → ((first cs ≡ accepted → ⊥) → first (cs ++ ds) ≡ first cs) → (cond b c.1 (first cs) ≡ accepted → ⊥)
        → cond b c.1 (first (cs ++ ds)) ≡ cond b c.1 (first cs)
    go true f n = refl
    go false f n = f n

-- what comes after an accepted list
pub rest_first : (cs ds : List Check) → Numbered cs → first cs ≡ accepted → first (cs ++ ds) ≡ first ds
rest_first cs ds n e = first_append cs ds (passed_first cs n e)

-- none of the checks has the number
abbrev pub lacks : ℕ → List Check → Bool
lacks n [] = true
lacks n (c ∷ cs) = not (eqb c.1 n) && lacks n cs

-- Where such checks are followed by others and the number is given, they are passed, and the others give it.
pub given_after : (n : ℕ) (cs ds : List Check) → lacks n cs ≡ true → first (cs ++ ds) ≡ n → Passed cs × (first ds ≡ n)
given_after n [] ds h e = (tt, e)
given_after n (c ∷ cs) ds h e = go c.0 (eqb c.1 n) refl refl (given_after n cs ds) h e
  where
    go : (b is : Bool) → c.0 ≡ b → eqb c.1 n ≡ is → (lacks n cs ≡ true → first (cs ++ ds) ≡ n → Passed cs × (first ds ≡ n)) → (not is && lacks n cs) ≡ true
        → cond b c.1 (first (cs ++ ds)) ≡ n → Passed (c ∷ cs) × (first ds ≡ n)
    go b true p q again h e = absurd (true≢false (sym h))
    go true false p q again h e = absurd (true≢false (sym (eq-eqb c.1 n e) ∙ q))
    go false false p q again h e = let (passed, rest) = again h e in ((p, passed), rest)

-- They do not give it, with others after them that do not where these are passed.
pub never : (n : ℕ) (cs ds : List Check) → lacks n cs ≡ true → (first cs ≡ accepted → first ds ≡ n → ⊥) → first (cs ++ ds) ≡ n → ⊥
never n cs ds h f e = let (passed, rest) = given_after n cs ds h e in f (first_passed cs passed) rest

-- the answer comes last: it is short, or the call's number is the list's
pub first_short : (cs : List Check) (answer room : ℕ) → first cs ≡ accepted → Numbered cs → room < answer → first (cs ++ (short_check answer room ∷ [])) ≡ short
first_short cs answer room e n h = rest_first cs (short_check answer room ∷ []) n e ∙ rw (lt-ltb room answer h)

pub first_roomy : (cs : List Check) (answer room : ℕ) → first cs ≡ accepted → Numbered cs → answer ≤ room → first (cs ++ (short_check answer room ∷ [])) ≡ accepted
first_roomy cs answer room e n h = rest_first cs (short_check answer room ∷ []) n e ∙ rw (le-ltb room answer h)

-- with room for every answer, 10 is never the number
pub first_enough : (cs : List Check) (answer room : ℕ) → Numbered cs → (first cs ≡ accepted → answer ≤ room) → first (cs ++ (short_check answer room ∷ [])) ≡ first cs
first_enough cs answer room n h = go (ℕ_discrete (first cs) accepted)
  where
    go : Dec (first cs ≡ accepted) → first (cs ++ (short_check answer room ∷ [])) ≡ first cs
    go (yes e) = first_roomy cs answer room e n (h e) ∙ sym e
    go (no e) = first_refused cs (short_check answer room ∷ []) e

module _ (ops : Operators) where
  pub row_numbered : (tokens : List ℕ) → Numbered (row_checks ops tokens)
  row_numbered tokens = (λ e. omega arith, (λ e. omega arith, (λ e. omega arith, tt)))

  pub record_numbered : (bytes : List ℕ) → Numbered (record_checks ops bytes)
  record_numbered bytes = (λ e. omega arith, (λ e. omega arith, (λ e. omega arith, (λ e. omega arith, tt))))

  -- A row is accepted exactly if it is within the length and is a row over the operators.
  pub row_accepted : (tokens : List ℕ) → (row_number ops tokens ≡ accepted) ↔ ((length tokens ≤ most_tokens) × Row ops tokens)
  unfolding row_number
  row_accepted tokens = (
    λ e.
        let (a, (b, (c, _))) = passed_first (row_checks ops tokens) (row_numbered tokens) e in
        (ltb-false most_tokens (length tokens) a, (is_row_exactly_if_row ops tokens).0 (not-false (is_row (class ops) tokens) c)),
    λ h.
        let e = (is_row_exactly_if_row ops tokens).1 h.1 in
        first_passed (row_checks ops tokens) (le-ltb most_tokens (length tokens) h.0, (row_has_no_stranger (class ops) tokens e, (rw e, tt))),
  )

  -- The bytes are the record of t, a tree over the operators, and it and its row are within the lengths.
  pub record Recorded (bytes : List ℕ) (t : Tree) : Type 0 where
    pub over : Over (class ops) t
    pub recorded : record_of t ≡ bytes
    pub bytes_fit : length bytes ≤ most_record_bytes
    pub tokens_fit : length (yield t) ≤ most_tokens

  -- It is read as the tree that it is of.
  pub read_as : (bytes : List ℕ) (t : Tree) → Over (class ops) t → record_of t ≡ bytes → tree_of (class ops) bytes ≡ some t
  read_as bytes t over e = ap (tree_of (class ops)) (sym e) ∙ tree_of_record (class ops) (brackets ops) t over

  pub is_some : (o : Option Tree) → is_none o ≡ false → (t : Tree) × (o ≡ some t)
  is_some none e = absurd (true≢false e)
  is_some (some t) e = (t, refl)

  -- A record is accepted exactly if it is so recorded of some tree.
  pub record_accepted : (bytes : List ℕ) → (record_number ops bytes ≡ accepted) ↔ ((t : Tree) × Recorded bytes t)
  unfolding record_number
  record_accepted bytes = (
    λ e.
        let (a, (b, (c, (d, _)))) = passed_first (record_checks ops bytes) (record_numbered bytes) e in
        let (t, q) = is_some (tree_of (class ops) bytes) c in
        let (r, h) = record_tree_of (class ops) (brackets ops) bytes t q in (
          t,
          record {
            over = h;
            recorded = r;
            bytes_fit = ltb-false most_record_bytes (length bytes) a;
            tokens_fit = rw (ap row_tokens q) at (ltb-false most_tokens (row_tokens (tree_of (class ops) bytes)) d);
          },
        ),
    λ h.
        let (t, r) = h in
        let q = read_as bytes t r.over r.recorded in
        first_passed (record_checks ops bytes) (
          le-ltb most_record_bytes (length bytes) r.bytes_fit,
          (record_has_no_stranger (class ops) bytes t q, (rw q, (rw q (le-ltb most_tokens (length (yield t)) r.tokens_fit), tt))),
        ),
  )

  -- a build and a repair with room for every record
  pub build_number_lem : (row : List ℕ) (room : ℕ) → most_record_bytes ≤ room → build_number ops row room ≡ row_number ops row
  unfolding build_number row_number
  build_number_lem row room h =
      first_enough (row_checks ops row) (record_bytes row) room (row_numbered row) (λ e. let k = ((row_accepted row).0 e).0 in omega (arith, few_bytes row))

  pub repair_number_lem : (bytes : List ℕ) (room : ℕ) → most_record_bytes ≤ room → repair_number ops bytes room ≡ record_number ops bytes
  unfolding repair_number record_number
  repair_number_lem bytes room h =
      first_enough (record_checks ops bytes) (length bytes) room (record_numbered bytes) (λ e. let (t, r) = (record_accepted bytes).0 e in omega (arith, r.bytes_fit))
