-- What each number means, in the words of docs/REFERENCE.md, section 4: the conditions of each call, in order. Assumes nothing.
use Rattle.std.specs.Prelude.{ℕ, ◌%◌, ◌<◌, ◌≤◌, ◌≡◌, ◌⊎◌, List, [], ◌∷◌, length}
use Rattle.std.proofs.Math.Option.{none, some}
use Rattle.std.proofs.Math.ListN as lists
use Rattle.expression.specs.Limits.{most_operators, most_rules, most_rule_bytes, bytes_of_rule, most_tokens, most_record_bytes}
use Rattle.expression.specs.Refusal.{accepted, oversize, torn, stranger, dead, double, no_row, no_tree, place, empty, short, in_use, nothing_staged, other_row, conflict}
use Rattle.expression.specs.Token.{Closing, Meaningless, prefix_kind, Operators, operators, kind_of, class}
use Rattle.expression.specs.Tree.{Tree}
use Rattle.expression.specs.Tree as tree
use Rattle.expression.specs.Grammar.{Row}
use Rattle.disambiguation.specs.Rules.{Rule, priority, right}
use Rattle.disambiguation.specs.Conflicts.{conflict_count}
use Rattle.disambiguation.specs.ExactlyOne.{SomeRowHasNone, EveryRowHasOne, SomeRowHasTwo}
use Rattle.disambiguation.specs.SheetChecks.{rules_in, operators_in}
use Rattle.run.specs.Places.{place_count}
use Rattle.run.specs.Call.{Question, Call, lent_before, stage, stage_list, switch, put_row, put_record, put_claim, drop, ask, fetch_record, fetch_row, image, build, repair, judge, yield, operand, shortest_row}
use Rattle.run.specs.Book.{Sheet, Book}
use Rattle.run.specs.AnswerBytes.{Records, AnswerIs}

-- Where the condition holds, the number is this one; where it does not, what follows tells the number.
abbrev pub When : Type 0 → ℕ → (ℕ → Type 0) → ℕ → Type 0
When Condition this Else number = (Condition × (number ≡ this)) ⊎ ((Condition → ⊥) × Else number)

-- none of the conditions holds
abbrev pub Accepted : ℕ → Type 0
Accepted number = number ≡ accepted

-- the statement holds of some element
abbrev pub SomeOf : {A : Type 0} → (A → Type 0) → List A → Type 0
SomeOf P [] = ⊥
SomeOf P (x ∷ xs) = P x ⊎ SomeOf P xs

-- the kind of an operator is neither 00 nor 01
abbrev pub StrangeKind : ℕ → Type 0
StrangeKind kind = prefix_kind < kind

-- the kind is not 01 to 03, or an operator is not below n
abbrev pub StrangeRule : ℕ → Rule → Type 0
StrangeRule n r = (r.kind < priority) ⊎ (right < r.kind) ⊎ (n ≤ r.first) ⊎ (n ≤ r.second)

-- A sheet: 3, an operator's kind, or a rule's kind or operators; 4, some row of any length has no conflict-free tree; 5, every row has one, and some row two.
abbrev pub OfSheet : Operators → List Rule → ℕ → Type 0
OfSheet new rules =
    When (SomeOf StrangeKind new.kinds ⊎ SomeOf (StrangeRule new.count) rules) stranger
    (When (SomeRowHasNone new rules) dead
    (When (EveryRowHasOne new rules × SomeRowHasTwo new rules) double
    Accepted))

module _ (b : Book) where
  -- 8: the place is over 15. 9: its slot is blank.
  abbrev pub AtPlace : ℕ → (ℕ → Type 0) → ℕ → Type 0
  AtPlace k = When (place_count ≤ k) place

  abbrev pub NotBlank : ℕ → (ℕ → Type 0) → ℕ → Type 0
  NotBlank k = When (b.slots k ≡ none) empty

  -- 10: the lent output is shorter than the answer.
  abbrev pub WithRoom : Question → ℕ → Type 0
  WithRoom q = When ((answer : List ℕ) × AnswerIs b q answer × (length (lent_before q) < length answer)) short Accepted

  -- A row: 1, over 255 tokens; 3, a byte without meaning (as is an operator not below n); 6, no row over the operators.
  abbrev pub OfRow : List ℕ → (ℕ → Type 0) → ℕ → Type 0
  OfRow row Else =
      When (most_tokens < length row) oversize
      (When (SomeOf (λ c. class b.operators c ≡ Meaningless) row) stranger
      (When (Row b.operators row → ⊥) no_row
      Else))

  -- A record: 1, over 255 bytes; 3, a byte without meaning, or 21; 7, the record of no tree over the operators; 1, its tree's row over 255 tokens.
  abbrev pub OfRecord : List ℕ → (ℕ → Type 0) → ℕ → Type 0
  OfRecord bytes Else =
      When (most_record_bytes < length bytes) oversize
      (When (SomeOf (λ c. (class b.operators c ≡ Meaningless) ⊎ (class b.operators c ≡ Closing)) bytes) stranger
      (When ((t : Tree) → Records b bytes t → ⊥) no_tree
      (When ((t : Tree) × Records b bytes t × (most_tokens < length (tree.yield t))) oversize
      Else)))

  -- A record that came with a row: 16, it is of another row; 17, its tree has a conflict.
  abbrev pub OfClaim : List ℕ → List ℕ → ℕ → Type 0
  OfClaim row bytes =
      When ((t : Tree) × Records b bytes t × (tree.yield t ≡ row → ⊥)) other_row
      (When ((t : Tree) × Records b bytes t × (conflict_count b.rules t ≡ 0 → ⊥)) conflict
      Accepted)

  -- 11: a slot's row uses an operator that is not below n of the new operators, or one whose kind they change.
  abbrev pub UsesOther : Operators → Type 0
  UsesOther new =
      (k : ℕ) × (row : List ℕ) × (k < place_count) × (b.slots k ≡ some row) × SomeOf (λ c. (c < most_operators) × ((new.count ≤ c) ⊎ (kind_of b.operators c ≡ kind_of new c → ⊥))) row

  abbrev pub MeansAsked : Question → ℕ → Type 0
  MeansAsked (fetch_record k out) = AtPlace k (NotBlank k (WithRoom (fetch_record k out)))
  MeansAsked (fetch_row k out) = AtPlace k (NotBlank k (WithRoom (fetch_row k out)))
  MeansAsked (image k out) = AtPlace k (WithRoom (image k out))
  MeansAsked (build row out) = OfRow row (WithRoom (build row out))
  MeansAsked (repair bytes out) = OfRecord bytes (WithRoom (repair bytes out))
  MeansAsked (judge bytes) = OfRecord bytes Accepted
  MeansAsked (yield bytes out) = OfRecord bytes (WithRoom (yield bytes out))
  MeansAsked (operand right bytes) = OfRecord bytes Accepted
  MeansAsked (shortest_row bytes out) = OfRecord bytes (WithRoom (shortest_row bytes out))

  -- The number of a call is given under its condition, and under nothing else. 1 of a sheet: n over 32, or over 2,048 rules; 2: fewer than n kinds, or bytes that end within a rule;
  -- of lists, any number of kinds but n. A switch: 15, no sheet is noted; 11 by the noted one.
  abbrev pub Means : Call → ℕ → Type 0
  Means (stage n bytes) =
      When ((most_operators < n) ⊎ (most_rule_bytes < length (lists.drop n bytes))) oversize
      (When ((length bytes < n) ⊎ (length (lists.drop n bytes) % bytes_of_rule ≡ 0 → ⊥)) torn
      (OfSheet (operators_in n bytes) (rules_in n bytes)))
  Means (stage_list n kinds rules) =
      When ((most_operators < n) ⊎ (most_rules < length rules)) oversize
      (When (length kinds ≡ n → ⊥) torn
      (OfSheet (operators n kinds) rules))
  Means switch =
      When (b.note ≡ none) nothing_staged
      (When ((s : Sheet) × (b.note ≡ some s) × UsesOther s.operators) in_use
      Accepted)
  Means (put_row k row) = AtPlace k (OfRow row Accepted)
  Means (put_record k bytes) = AtPlace k (OfRecord bytes Accepted)
  Means (put_claim k row bytes) = AtPlace k (OfRow row (OfRecord bytes (OfClaim row bytes)))
  Means (drop k) = AtPlace k (NotBlank k Accepted)
  Means (ask q) = MeansAsked q
