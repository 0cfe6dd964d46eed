-- Demands 1, 2 and 3 of the panel's calls, on one page. Assumes nothing.
--     Demand 1 speaks of every panel value and every call with any bytes: no call has a `requires`, and each is proved to end.
--     Demands 2 and 3 speak of the panel after every list of calls, refused ones included, from a fresh panel. A list has the last call first.
--     What the requests add stands in `Requests`, with the record `Kept` that has all of it.
use Rattle.std.specs.Prelude.{ℕ, ◌≤◌, ◌≡◌, ◌↔◌, ◌⊎◌, List, ◌∷◌, ◌++◌, length}
use Rattle.std.proofs.Math.Option.{some}
use Rattle.expression.specs.Limits.{most_tokens, most_record_bytes}
use Rattle.expression.specs.Refusal.{accepted, dead, double}
use Rattle.expression.specs.Token.{Operators, operators, class}
use Rattle.expression.specs.Grammar.{Row}
use Rattle.expression.specs.Tree.{Tree, record_of, Over}
use Rattle.expression.specs.Tree as tree
use Rattle.disambiguation.specs.Rules.{Rule}
use Rattle.disambiguation.specs.Conflicts.{conflict_count, ConflictFreeTree}
use Rattle.disambiguation.specs.ExactlyOne.{SomeRowHasNone, SomeRowHasTwo, EveryRowHasExactlyOne}
use Rattle.disambiguation.specs.SheetChecks.{rule_bytes, rules_in, operators_in, InOrder, ListInOrder}
use Rattle.sheet.specs.InForce.{InForce}
use Rattle.run.specs.Call.{Call, Reply, lent_to, stage, stage_list, switch, put_record, ask, build, repair, judge, yield}
use Rattle.run.specs.Panel.{Panel}
use Rattle.run.specs.Steps.{after, reply}
use Rattle.run.specs.Book.{sheet_by, book_number}
use Rattle.run.specs.Answers.{Answers}
use Rattle.run.specs.Meaning.{Means}
use Rattle.run.specs.Run.{panel_after, answer, book_after, in_force, last_put, Each, AnsweredBy, HoldsTree, Filled, RepairsTo}

-- Demand 1. A refusal changes neither the panel nor a lent buffer. (That its number is that of docs/REFERENCE.md, section 4, is `answered` below, and each
-- call's contract, which also says that every lent byte is as it was.)
pub record Demand1 (p : Panel) (c : Call) : Type 0 where
  pub unchanged : ((reply p c).number ≡ accepted → ⊥) → (after p c ≡ p) × ((reply p c).output ≡ lent_to c)

-- A tree is within the lengths if 1 doesn't apply to its record: not for its bytes, and not for its row.
abbrev pub Within : Tree → Type 0
Within t = (length (record_of t) ≤ most_record_bytes) × (length (tree.yield t) ≤ most_tokens)

-- Refused for its rules means 4 or 5.
abbrev pub ForItsRules : ℕ → Type 0
ForItsRules number = (number ≡ dead) ⊎ (number ≡ double)

-- Some row of any length has no conflict-free tree, or two or more.
abbrev pub SomeRowFails : Operators → List Rule → Type 0
SomeRowFails ops rules = SomeRowHasNone ops rules ⊎ SomeRowHasTwo ops rules

module _ (cs : List Call) where
  -- the operators and the rules of the sheet in force
  abbrev pub ops : Operators
  ops = (in_force cs).operators

  abbrev pub rules : List Rule
  rules = (in_force cs).rules

  -- Demand 2. Within the lengths, and with room for the answer,
  pub record Demand2 : Type 0 where
    -- a row is built into its conflict-free tree;
    pub built : (row : List ℕ) → Row ops row → length row ≤ most_tokens
        → (t : Tree) × ConflictFreeTree ops rules row t
        × ((out : List ℕ) → length (record_of t) ≤ length out → AnsweredBy cs (ask (build row out)) out (record_of t))
    -- a tree gives back its row;
    pub given_back : (t : Tree) → Over (class ops) t → Within t → (out : List ℕ) → length (tree.yield t) ≤ length out
        → AnsweredBy cs (ask (yield (record_of t) out)) out (tree.yield t)
    -- repair turns any tree over the sheet's operators into the conflict-free tree of the same row;
    pub repaired : (t : Tree) → Over (class ops) t → Within t
        → (u : Tree) × ConflictFreeTree ops rules (tree.yield t) u
        × ((out : List ℕ) → length (record_of u) ≤ length out → AnsweredBy cs (ask (repair (record_of t) out)) out (record_of u))
    -- a tree's conflict count is the number of excluded patterns that it shows.
    pub counted : (t : Tree) → Over (class ops) t → Within t
        → ((answer cs (ask (judge (record_of t)))).number ≡ accepted) × ((answer cs (ask (judge (record_of t)))).count ≡ conflict_count rules t)

  -- Demand 3.
  pub record Demand3 : Type 0 where
    -- The sheet in force is the one that the last accepted switch of the list found staged, or the fresh panel's: the panel's has its operators, and its
    -- relation is that of its rules.
    pub sheet : InForce (panel_after cs).sheet ops rules
    -- Every row of any length over the operators of the sheet in force has exactly one conflict-free tree.
    pub one_tree : EveryRowHasExactlyOne ops rules
    -- A place is filled exactly when a put there was accepted and no drop there was accepted since,
    pub filled : (k : ℕ) → Filled cs k ↔ ((row : List ℕ) × (last_put k cs ≡ some row))
    -- and it then holds that tree, for the row, or the record's row, of the last accepted put there.
    pub held_tree : (k : ℕ) (row : List ℕ) → last_put k cs ≡ some row → (t : Tree) × ConflictFreeTree ops rules row t × HoldsTree cs k t
    -- The book agrees with the list: its operators and rules are those of the sheet in force, its slots those of the last accepted puts;
    pub book_sheet : sheet_by (book_after cs).operators (book_after cs).rules ≡ in_force cs
    pub book_slots : (k : ℕ) → (book_after cs).slots k ≡ last_put k cs
    -- an accepted put of a record there enters the row of the tree that the record is of.
    pub record_entered : (k : ℕ) (t : Tree) → Over (class ops) t → (answer cs (put_record k (record_of t))).number ≡ accepted
        → last_put k (put_record k (record_of t) ∷ cs) ≡ some (tree.yield t)
    -- Every answer in the list is the one that the book gives after the calls before it,
    pub answered : Each (λ before c. Answers (book_after before) c (answer before c)) cs
    -- and the book gives one answer.
    pub one_answer : (c : Call) (r s : Reply) → Answers (book_after cs) c r → Answers (book_after cs) c s → r ≡ s
    -- Each number is given under its condition, and under nothing else; and so is the one by which the book finds that a call is accepted.
    pub numbers : Each (λ before c. Means (book_after before) c (answer before c).number) cs
    pub book_number_lem : (c : Call) (number : ℕ) → Means (book_after cs) c number ↔ (number ≡ book_number (book_after cs) c)
    -- A switch keeps the length of every held record.
    pub same_lengths : (k : ℕ) (t u : Tree) → HoldsTree cs k t → HoldsTree (switch ∷ cs) k u → length (record_of t) ≡ length (record_of u)
    -- A sheet in order is refused for its rules exactly when some row of any length has no conflict-free tree under it, or two or more: in bytes,
    pub refused : (m : ℕ) (bytes : List ℕ) → InOrder m bytes
        → ForItsRules (answer cs (stage m bytes)).number ↔ SomeRowFails (operators_in m bytes) (rules_in m bytes)
    -- and with its kinds and rules as lists.
    pub refused_list : (m : ℕ) (kinds : List ℕ) (given : List Rule) → ListInOrder m kinds given
        → ForItsRules (answer cs (stage_list m kinds given)).number ↔ SomeRowFails (operators m kinds) given
    -- Both forms of a staging, with as many kinds as operators, give equal answers and leave the same panel.
    pub both_forms : (m : ℕ) (kinds : List ℕ) (given : List Rule) → length kinds ≡ m
        → (answer cs (stage_list m kinds given) ≡ answer cs (stage m (kinds ++ rule_bytes given)))
        × (panel_after (stage_list m kinds given ∷ cs) ≡ panel_after (stage m (kinds ++ rule_bytes given) ∷ cs))
    -- Two trees over the operators of the sheet in force, within the lengths, repair to the same bytes exactly when their rows are the same.
    pub same_bytes : (t u : Tree) → Over (class ops) t → Over (class ops) u → Within t → Within u
        → ((bytes : List ℕ) × RepairsTo cs t bytes × RepairsTo cs u bytes) ↔ (tree.yield t ≡ tree.yield u)
