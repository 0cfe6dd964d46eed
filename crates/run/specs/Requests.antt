-- What later requests add to the demands, and all that is promised of the panel's calls in one record, `Kept`. Assumes nothing.
--     Each speaks of the panel after every list of calls, refused ones included, from a fresh panel. A list has the last call first.
use Rattle.std.specs.Prelude.{ℕ, ◌≤◌, ◌<◌, ◌≡◌, ◌↔◌, List, ◌∷◌, length}
use Rattle.std.proofs.Math.Option.{none, some}
use Rattle.expression.specs.Limits.{most_tokens, most_record_bytes}
use Rattle.expression.specs.Refusal.{accepted, short, in_use, nothing_staged, conflict}
use Rattle.expression.specs.Token.{Infix, Operators, operators, class}
use Rattle.expression.specs.Grammar.{Row}
use Rattle.expression.specs.Tree.{Tree, record_of, Over}
use Rattle.expression.specs.Tree as tree
use Rattle.disambiguation.specs.Rules.{Rule, R}
use Rattle.disambiguation.specs.Patterns.{Patterns}
use Rattle.disambiguation.specs.Conflicts.{ConflictFreeTree}
use Rattle.disambiguation.specs.ExactlyOne.{EveryRowHasExactlyOne}
use Rattle.disambiguation.specs.LeftToRight.{finish}
use Rattle.disambiguation.specs.Verdict.{verdict}
use Rattle.disambiguation.specs.OtherRules.{OtherRules}
use Rattle.disambiguation.specs.Witness.{witness_of}
use Rattle.disambiguation.specs.Shown.{FirstRow}
use Rattle.disambiguation.specs.Powers.{left_power, right_power, Ladder}
use Rattle.disambiguation.specs.ByPowers.{read_by_powers}
use Rattle.disambiguation.specs.SheetChecks.{rules_in, operators_in, InOrder, ListInOrder}
use Rattle.sheet.specs.InForce.{InForce}
use Rattle.sheet.specs.BindingPowers.{given, not_infix, powers_in}
use Rattle.record.specs.declared.Answer.{Answer}
use Rattle.witness.specs.Explaining.{most_explained, answer_of, Explains, ExplainsList, ExplainedBy}
use Rattle.parser.specs.FromTheLeft.{state, FromTheLeft}
use Rattle.brackets.specs.SameMeaning.{OfInfix, ShortestRow}
use Rattle.claims.specs.Claims.{Claimed}
use Rattle.run.specs.Places.{place_count}
use Rattle.run.specs.Call.{Call, stage, stage_list, switch, put_row, put_claim, ask, fetch_record, build, repair, shortest_row}
use Rattle.run.specs.Panel.{Panel}
use Rattle.run.specs.Book.{Sheet}
use Rattle.run.specs.Run.{panel_after, answer, book_after, last_staged, in_force, IsStaging, AnsweredBy}
use Rattle.run.specs.Promises.{Demand1, Demand2, Demand3, Within, ops, rules}

-- W4, chains of priority. Of any rules, which patterns they exclude: both where one or more priority rules lead from the one operator to the other, whatever
-- their kinds, and else by left and right as written. With W5, what an operator sees of an operand is said in `Edges`. All demands and requests speak of
-- conflicts by these patterns.
abbrev pub ChainedPatterns : Type 0
ChainedPatterns = (rules : List Rule) → Patterns rules

-- W5, prefix operators. Of any operators, other rules with a prefix operator exclude nothing. What is seen of an operand is on its edges. Rules that agree on
-- the patterns L(a,b) of an infix a and R(a,b) of an infix b give every tree the same conflict count, and a sheet the same verdict. So with prefix operators p
-- and q neither "a left p" nor "p right b" changes anything, nor does "p over q" where no chain leads on through it.
abbrev pub OtherRulesExcludeNothing : Type 0
OtherRulesExcludeNothing = (operators : Operators) → OtherRules operators

module _ (cs : List Call) where
  -- W1, rows with no spare brackets. Within the lengths, and with room for the answer,
  pub record ShortestRows : Type 0 where
    -- a record is answered by a row over the sheet's operators that is made from the inside out and means the same as its tree's row. No pair of its brackets
    -- can be dropped without altering the meaning; every row of any length that means the same has at least as many tokens, and where no token is a prefix
    -- operator one with as many is that row. It has no more tokens than the tree's row.
    pub shortened : (t : Tree) → Over (class (ops cs)) t → Within t
        → (row : List ℕ) × ShortestRow (ops cs) (rules cs) (tree.yield t) row × (length row ≤ length (tree.yield t))
        × ((out : List ℕ) → length row ≤ length out → AnsweredBy cs (ask (shortest_row (record_of t) out)) out row)

  -- W3, repair from the left. By the relation of the panel's sheet,
  pub record ReadFromTheLeft : Type 0 where
    -- wherever a beginning of a row is itself a row, closing all that waits there gives that beginning's conflict-free tree;
    pub beginnings : FromTheLeft (panel_after cs).sheet (ops cs) (rules cs)
    -- and within the lengths, and with room for the answer, build answers what closing all that waits after the row gives,
    pub builds : (row : List ℕ) → Row (ops cs) row → length row ≤ most_tokens
        → (t : Tree) × (finish (state (panel_after cs).sheet (ops cs) row) ≡ some t)
        × ((out : List ℕ) → length (record_of t) ≤ length out → AnsweredBy cs (ask (build row out)) out (record_of t))
    -- and repair what it gives after the tree's row.
    pub repairs : (t : Tree) → Over (class (ops cs)) t → Within t
        → (u : Tree) × (finish (state (panel_after cs).sheet (ops cs) (tree.yield t)) ≡ some u)
        × ((out : List ℕ) → length (record_of u) ≤ length out → AnsweredBy cs (ask (repair (record_of t) out)) out (record_of u))

  -- W6, stage, then switch. In the list and in the book the sheet of the last accepted staging is noted until a switch is accepted.
  pub record StageThenSwitch : Type 0 where
    -- The book's note is that sheet, and the panel's stage has its operators, and the relation of its rules.
    pub book_note : (book_after cs).note ≡ last_staged cs
    pub staged : (s : Sheet) → last_staged cs ≡ some s → InForce (panel_after cs).staged s.operators s.rules
    -- It is known to be good before it is switched in: every row of any length over its operators has exactly one conflict-free tree under it.
    pub one_tree : (s : Sheet) → last_staged cs ≡ some s → EveryRowHasExactlyOne s.operators s.rules
    -- A staging, accepted or refused, changes no answer of any other call but a switch, and never gives 11.
    pub unseen : (c d : Call) → IsStaging c → (d ≡ switch → ⊥) → answer (c ∷ cs) d ≡ answer cs d
    pub never_in_use : (c : Call) → IsStaging c → (answer cs c).number ≡ in_use → ⊥
    -- A switch gives 15 exactly when nothing is staged. An accepted one found a sheet staged, puts that one in force, and leaves nothing staged.
    pub nothing : ((answer cs switch).number ≡ nothing_staged) ↔ (last_staged cs ≡ none)
    pub switched : (answer cs switch).number ≡ accepted
        → (s : Sheet) × (last_staged cs ≡ some s) × (in_force (switch ∷ cs) ≡ s) × (last_staged (switch ∷ cs) ≡ none)

  -- W7, binding powers. Of the sheet in force and by its rules,
  pub record BindingPowers : Type 0 where
    -- the call answers for an infix operator its left and its right power, and for every other number 3 and no powers.
    pub given_to_infix : (a : ℕ) → class (ops cs) a ≡ Infix
        → powers_in (panel_after cs).sheet a ≡ given (left_power (ops cs) (R (rules cs)) a) (right_power (ops cs) (R (rules cs)) a)
    pub refused_else : (a : ℕ) → (class (ops cs) a ≡ Infix → ⊥) → powers_in (panel_after cs).sheet a ≡ not_infix
    -- An infix operator a closes before an infix operator b exactly if b's left power is at most a's right power; the operators of one left power are a level,
    -- of two levels one lies wholly above the other, and each is wholly left or wholly right.
    pub ladder : Ladder (ops cs) (R (rules cs))
    -- A parser by the powers that are answered reads each row of infix operators, of any length, as its conflict-free tree: within the lengths, what the panel
    -- builds.
    pub parsed : (row : List ℕ) → Row (ops cs) row → OfInfix (ops cs) row
        → (t : Tree) × ConflictFreeTree (ops cs) (rules cs) row t
        × (read_by_powers (class (ops cs)) (λ a. (powers_in (panel_after cs).sheet a).left) (λ a. (powers_in (panel_after cs).sheet a).right) row ≡ some t)

  -- W8, trees from the planning tool. A row comes with the record that is claimed for it, and a place. What the numbers mean is in `Demand3.numbers`.
  pub record ClaimedTrees : Type 0 where
    -- The pair is accepted exactly if there is such a place, the row is within the length, and the record is that of the row's conflict-free tree;
    pub accepted_exactly_if : (k : ℕ) (row bytes : List ℕ)
        → ((answer cs (put_claim k row bytes)).number ≡ accepted) ↔ ((k < place_count) × (length row ≤ most_tokens) × Claimed (ops cs) (rules cs) row bytes)
    -- at a place, exactly if building the row gives this record.
    pub as_built : (k : ℕ) (row bytes out : List ℕ) → k < place_count → most_record_bytes ≤ length out
        → ((answer cs (put_claim k row bytes)).number ≡ accepted) ↔ AnsweredBy cs (ask (build row out)) out bytes
    -- 17 is given only where the row is the record's own.
    pub same_row : (k : ℕ) (row bytes : List ℕ) → (answer cs (put_claim k row bytes)).number ≡ conflict
        → (t : Tree) × Over (class (ops cs)) t × (record_of t ≡ bytes) × (tree.yield t ≡ row)
    -- An accepted record is held as sent,
    pub as_sent : (k : ℕ) (row bytes out : List ℕ) → (answer cs (put_claim k row bytes)).number ≡ accepted → length bytes ≤ length out
        → AnsweredBy (put_claim k row bytes ∷ cs) (ask (fetch_record k out)) out bytes
    -- and the call counts as a put of the row there: the panel after it is the same.
    pub as_put : (k : ℕ) (row bytes : List ℕ) → (answer cs (put_claim k row bytes)).number ≡ accepted
        → panel_after (put_claim k row bytes ∷ cs) ≡ panel_after (put_row k row ∷ cs)

  -- Why a sheet is refused: a question that looks at no place. It was asked of a sheet in bytes, or with kinds and rules as lists; it answered r, and the lent
  -- output became `later`.
  pub record Explanations : Type 0 where
    -- A sheet that is not in order is refused by the number of its staging.
    pub refused_alike : (m : ℕ) (bytes out later : List ℕ) (r : Answer) → Explains m bytes out later r
        → (InOrder m bytes → ⊥) → r.number ≡ (answer cs (stage m bytes)).number
    pub refused_alike_list : (m : ℕ) (kinds : List ℕ) (given : List Rule) (out later : List ℕ) (r : Answer) → ExplainsList m kinds given out later r
        → (ListInOrder m kinds given → ⊥) → r.number ≡ (answer cs (stage_list m kinds given)).number
    -- Of one in order, with room for the answer, it answers the witness of the sheet's operators and rules. That shows that the verdict is 0; or that it is 4,
    -- by a row over the operators that has no conflict-free tree; or that it is 5, by a row and the different records of its two conflict-free trees.
    pub explained : (m : ℕ) (bytes out later : List ℕ) (r : Answer) → Explains m bytes out later r → InOrder m bytes
        → length (answer_of (operators_in m bytes) (rules_in m bytes)) ≤ length out → ExplainedBy (operators_in m bytes) (rules_in m bytes) out later r
    pub explained_list : (m : ℕ) (kinds : List ℕ) (given : List Rule) (out later : List ℕ) (r : Answer) → ExplainsList m kinds given out later r
        → ListInOrder m kinds given → length (answer_of (operators m kinds) given) ≤ length out → ExplainedBy (operators m kinds) given out later r
    -- 22 bytes have room for every answer. 10 is given exactly where a sheet is in order and the output is shorter than its answer.
    pub most_bytes : (o : Operators) (given : List Rule) → length (answer_of o given) ≤ most_explained
    pub too_short : (m : ℕ) (bytes out later : List ℕ) (r : Answer) → Explains m bytes out later r
        → (r.number ≡ short) ↔ (InOrder m bytes × (length out < length (answer_of (operators_in m bytes) (rules_in m bytes))))
    pub too_short_list : (m : ℕ) (kinds : List ℕ) (given : List Rule) (out later : List ℕ) (r : Answer) → ExplainsList m kinds given out later r
        → (r.number ≡ short) ↔ (ListInOrder m kinds given × (length out < length (answer_of (operators m kinds) given)))
    -- The witness has the first row that shows a fault: the first of two operators that has no conflict-free tree; where there is none, the first of two that
    -- has at least two; where there is none either, the first of three that has at least two.
    pub first_row : (m : ℕ) (bytes : List ℕ) → InOrder m bytes
        → FirstRow (operators_in m bytes) (rules_in m bytes) (witness_of (operators_in m bytes) (rules_in m bytes))
    pub first_row_list : (m : ℕ) (kinds : List ℕ) (given : List Rule) → ListInOrder m kinds given
        → FirstRow (operators m kinds) given (witness_of (operators m kinds) given)
    -- The verdict is the number of the staging.
    pub as_staged : (m : ℕ) (bytes : List ℕ) → InOrder m bytes → (answer cs (stage m bytes)).number ≡ verdict (operators_in m bytes) (rules_in m bytes)
    pub as_staged_list : (m : ℕ) (kinds : List ℕ) (given : List Rule) → ListInOrder m kinds given
        → (answer cs (stage_list m kinds given)).number ≡ verdict (operators m kinds) given

-- All that is promised of the panel's calls, after the calls of a list; demand 1 of every panel value. That it holds is `kept`, in proofs/Kept.
pub record Kept (cs : List Call) : Type 0 where
  pub demand_1 : (p : Panel) (c : Call) → Demand1 p c
  pub demand_2 : Demand2 cs
  pub demand_3 : Demand3 cs
  pub shortest_rows : ShortestRows cs
  pub read_from_the_left : ReadFromTheLeft cs
  pub chained_patterns : ChainedPatterns
  pub other_rules_exclude_nothing : OtherRulesExcludeNothing
  pub stage_then_switch : StageThenSwitch cs
  pub binding_powers : BindingPowers cs
  pub claimed_trees : ClaimedTrees cs
  pub explanations : Explanations cs
