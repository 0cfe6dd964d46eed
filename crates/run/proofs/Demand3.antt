-- Demand 3 holds of every list of calls from the fresh panel. Assumes nothing.
use Prim.Native.Nat.{ℕ, ◌≤◌}
use native.Mathlib.Omega.{arith}
use mathlib.Core.Path.{◌≡◌, refl, ap, sym, subst, ◌∙◌}
use mathlib.Core.Bool.{Bool, true, false, not, ◌&&◌, cond}
use mathlib.Core.Logic.{◌↔◌, ◌⊎◌, inl, inr}
use mathlib.Core.Option.{some}
use mathlib.Core.List.{List, [], ◌∷◌, ◌++◌, append-nil}
use lib.ListN.{length, drop_of_length-le}
use lib.ListN as lists
use borrow.Author.Tests.{eq-eqb}
use Rattle.expression.specs.Refusal.{accepted}
use Rattle.expression.specs.Token.{Operators, operators, class}
use Rattle.expression.specs.Tree.{Tree, record_of, Over}
use Rattle.expression.specs.Tree as tree
use Rattle.expression.specs.Decode.{tree_of}
use Rattle.expression.specs.Operand.{row_of}
use Rattle.expression.specs.Checks.{record_number}
use Rattle.expression.proofs.Classes.{brackets}
use Rattle.expression.proofs.RecordsAndTrees.{tree_of_record}
use Rattle.disambiguation.specs.Rules.{Rule, L, R}
use Rattle.disambiguation.specs.ExactlyOne.{SomeRowHasNone, SomeRowHasTwo}
use Rattle.disambiguation.specs.Verdict.{safe, total, level, verdict}
use Rattle.disambiguation.specs.SheetChecks.{rule_bytes, rules_in, operators_in, InOrder, ListInOrder, sheet_number}
use Rattle.disambiguation.proofs.RuleBytes.{kinds_back, rules_in_lem, list_order}
use Rattle.disambiguation.proofs.SheetNumbers.{sheet_number_verdict, sheet_dead_exactly_if, sheet_double_exactly_if, sheet_accepted_exactly_if}
use Rattle.sheet.specs.Relation.{closes_in}
use Rattle.parser.specs.Build.{built}
use Rattle.parser.proofs.InForceBuilds.{built_equal_exactly_if, built_keeps_length}
use Rattle.run.specs.Call.{Call, Reply, stage, stage_list, put_record, repair}
use Rattle.run.specs.Panel.{rebuilt}
use Rattle.run.specs.Steps.{numbered, reply_of}
use Rattle.run.specs.Book.{book_number}
use Rattle.run.specs.Answers.{Answers}
use Rattle.run.specs.Run.{last_said, panel_after, answer, book_after, last_put, Each, RepairsTo}
use Rattle.run.specs.Meaning.{Means}
use Rattle.run.specs.Promises.{Within, ForItsRules, Demand3, ops, rules}
use Rattle.run.proofs.Stands.{same_number}
use Rattle.run.proofs.Replies.{rest}
use Rattle.run.proofs.ListSheets.{as_many_in_order, list_same, list_after}
use Rattle.run.proofs.Histories.{stands, book_in_force, book_slot}
use Rattle.run.proofs.Placed.{same_ops, same_rules, sheet_in_force, exactly_one, within_accepted, answered_by, repair_accepted}
use Rattle.run.proofs.MeaningsBook.{means}
use Rattle.run.proofs.Filling.{holds_last_put, filled_exactly_if_put}
use Rattle.run.proofs.OneNumber.{means_one}
use Rattle.run.proofs.OneAnswer.{answers_same}
use Rattle.run.proofs.SameLengths.{switch_keeps_lengths}

-- a verdict is 4, 5 or 0
verdict_values : (m : Operators) (given : List Rule) → ForItsRules (verdict m given) ⊎ (verdict m given ≡ accepted)
unfolding verdict
verdict_values m given = go (safe m (L given) (R given)) (total m (L given) (R given) && level m (R given))
  where
    go : (a b : Bool) → ForItsRules (cond (not a) 4 (cond (not b) 5 0)) ⊎ (cond (not a) 4 (cond (not b) 5 0) ≡ accepted)
    go false b = inl (inl refl)
    go true false = inl (inr refl)
    go true true = inr refl

-- an answer as long as the output, or longer, is all of it
whole_output : (bytes out : List ℕ) → length out ≤ length bytes → bytes ++ lists.drop (length bytes) out ≡ bytes
whole_output bytes out h = ap (λ x. bytes ++ x) (drop_of_length-le out h) ∙ append-nil bytes

-- each answer of a list is the book's
each_answered : (cs : List Call) → Each (λ before c. Answers (book_after before) c (answer before c)) cs
each_answered [] = tt
each_answered (c ∷ cs) = (record { number = means cs c; rest = rest (panel_after cs) (book_after cs) (stands cs) c }, each_answered cs)

-- and each number has its meaning
each_means : (cs : List Call) → Each (λ before c. Means (book_after before) c (answer before c).number) cs
each_means [] = tt
each_means (c ∷ cs) = (means cs c, each_means cs)

module _ (cs : List Call) where
  record_entered : (k : ℕ) (t : Tree) → Over (class (ops cs)) t → (answer cs (put_record k (record_of t))).number ≡ accepted
      → last_put k (put_record k (record_of t) ∷ cs) ≡ some (tree.yield t)
  unfolding last_put last_said
  record_entered k t over z = rw (z, eq-eqb k k refl) (ap (λ x. some (row_of x)) (tree_of_record (class (ops cs)) (brackets (ops cs)) t over))

  book_answers_one : (c : Call) (r s : Reply) → Answers (book_after cs) c r → Answers (book_after cs) c s → r ≡ s
  book_answers_one = answers_same (book_after cs) (rw (same_ops cs, same_rules cs) (exactly_one cs))

  book_number_lem : (c : Call) (number : ℕ) → Means (book_after cs) c number ↔ (number ≡ book_number (book_after cs) c)
  book_number_lem c number =
      let e = same_number (panel_after cs) (book_after cs) (stands cs) c in
      let own = subst (Means (book_after cs) c) e (means cs c) in
      (λ m. means_one (book_after cs) c number (book_number (book_after cs) c) m own, λ q. subst (Means (book_after cs) c) (sym q) own)

  both_forms : (m : ℕ) (kinds : List ℕ) (given : List Rule) → length kinds ≡ m
      → (answer cs (stage_list m kinds given) ≡ answer cs (stage m (kinds ++ rule_bytes given)))
      × (panel_after (stage_list m kinds given ∷ cs) ≡ panel_after (stage m (kinds ++ rule_bytes given) ∷ cs))
  unfolding panel_after
  both_forms m kinds given as_many =
      (ap (λ n. reply_of (numbered n) []) (sym (list_same m kinds given as_many)), sym (list_after m kinds given as_many (panel_after cs)))

  -- ---- a sheet in order
  module _ (m : ℕ) (bytes : List ℕ) (order : InOrder m bytes) where
    abbrev new : Operators
    new = operators_in m bytes

    abbrev new_rules : List Rule
    new_rules = rules_in m bytes

    refused_exactly_if : ForItsRules (answer cs (stage m bytes)).number ↔ (SomeRowHasNone new new_rules ⊎ SomeRowHasTwo new new_rules)
    refused_exactly_if = (to, from)
      where
        to : ForItsRules (sheet_number m bytes) → SomeRowHasNone new new_rules ⊎ SomeRowHasTwo new new_rules
        to (inl f) = inl ((sheet_dead_exactly_if m bytes order).0 f)
        to (inr f) = inr ((sheet_double_exactly_if m bytes order).0 f).1

        not_accepted : (sheet_number m bytes ≡ accepted → ⊥) → ForItsRules (sheet_number m bytes)
        not_accepted h = go (verdict_values new new_rules)
          where
            go : ForItsRules (verdict new new_rules) ⊎ (verdict new new_rules ≡ accepted) → ForItsRules (sheet_number m bytes)
            go (inl f) = rw (sheet_number_verdict m bytes order) f
            go (inr e) = absurd (h (sheet_number_verdict m bytes order ∙ e))

        from : SomeRowHasNone new new_rules ⊎ SomeRowHasTwo new new_rules → ForItsRules (sheet_number m bytes)
        from (inl f) = inl ((sheet_dead_exactly_if m bytes order).1 f)
        from (inr (row, r, (t, u, ht, hu, different))) =
            not_accepted (λ e. let (v, hv, only) = (sheet_accepted_exactly_if m bytes order).0 e row r in different (only t ht ∙ sym (only u hu)))

  -- the same with lists
  refused_list_exactly_if : (m : ℕ) (kinds : List ℕ) (given : List Rule) → ListInOrder m kinds given
      → ForItsRules (answer cs (stage_list m kinds given)).number ↔ (SomeRowHasNone (operators m kinds) given ⊎ SomeRowHasTwo (operators m kinds) given)
  refused_list_exactly_if m kinds given order =
      let as_many = as_many_in_order m kinds given order in
      subst (λ (number : ℕ). ForItsRules number ↔ (SomeRowHasNone (operators m kinds) given ⊎ SomeRowHasTwo (operators m kinds) given)) (list_same m kinds given as_many)
      (subst (λ (rs : List Rule). ForItsRules (sheet_number m (kinds ++ rule_bytes given)) ↔ (SomeRowHasNone (operators m kinds) rs ⊎ SomeRowHasTwo (operators m kinds) rs)) (rules_in_lem m kinds given as_many)
      (subst (λ (ks : List ℕ). ForItsRules (sheet_number m (kinds ++ rule_bytes given))
      ↔ (SomeRowHasNone (operators m ks) (rules_in m (kinds ++ rule_bytes given)) ⊎ SomeRowHasTwo (operators m ks) (rules_in m (kinds ++ rule_bytes given)))) (kinds_back m kinds given as_many)
      (refused_exactly_if m (kinds ++ rule_bytes given) ((list_order m kinds given as_many).0 order))))

  -- ---- repair
  module _ (t : Tree) (over : Over (class (ops cs)) t) (fits : record_number (ops cs) (record_of t) ≡ accepted) where
    repaired : rebuilt (panel_after cs).sheet (record_of t) ≡ built (ops cs) (closes_in (panel_after cs).sheet) (tree.yield t)
    repaired =
        ap (λ o. built o (closes_in (panel_after cs).sheet) (row_of (tree_of (class o) (record_of t)))) (sheet_in_force cs).operators
        ∙ ap (λ x. built (ops cs) (closes_in (panel_after cs).sheet) (row_of x)) (tree_of_record (class (ops cs)) (brackets (ops cs)) t over)

    keeps_length : length (built (ops cs) (closes_in (panel_after cs).sheet) (tree.yield t)) ≡ length (record_of t)
    keeps_length = built_keeps_length (panel_after cs).sheet (ops cs) (rules cs) (sheet_in_force cs) t over

    repairs_to : RepairsTo cs t (built (ops cs) (closes_in (panel_after cs).sheet) (tree.yield t))
    repairs_to =
        record {
          accepts = repair_accepted cs t fits;
          answers = λ out z. answered_by cs (repair (record_of t) out) (built (ops cs) (closes_in (panel_after cs).sheet) (tree.yield t)) z repaired;
        }

    repairs_only_to : (bytes : List ℕ) → RepairsTo cs t bytes → bytes ≡ built (ops cs) (closes_in (panel_after cs).sheet) (tree.yield t)
    repairs_only_to bytes f =
        let z = f.accepts (record_of t) (omega arith) in
        let (_, l, o) = f.answers (record_of t) z in
        let (_, m, p) = repairs_to.answers (record_of t) z in
        sym (whole_output bytes (record_of t) (omega (arith, l, m, keeps_length))) ∙ sym o ∙ p
        ∙ whole_output (built (ops cs) (closes_in (panel_after cs).sheet) (tree.yield t)) (record_of t) (omega (arith, keeps_length))

  same_bytes_exactly_if : (t u : Tree) → Over (class (ops cs)) t → Over (class (ops cs)) u → Within t → Within u
      → ((bytes : List ℕ) × RepairsTo cs t bytes × RepairsTo cs u bytes) ↔ (tree.yield t ≡ tree.yield u)
  same_bytes_exactly_if t u ot ou wt wu = (
    λ f.
        let (bytes, p, q) = f in
        equal.0 (sym (repairs_only_to t ot (within_accepted cs t ot wt) bytes p) ∙ repairs_only_to u ou (within_accepted cs u ou wu) bytes q),
    λ e.
        (built (ops cs) (closes_in (panel_after cs).sheet) (tree.yield t), repairs_to t ot (within_accepted cs t ot wt), rw (equal.1 e) (repairs_to u ou (within_accepted cs u ou wu))),
  )
    where
      equal : (built (ops cs) (closes_in (panel_after cs).sheet) (tree.yield t) ≡ built (ops cs) (closes_in (panel_after cs).sheet) (tree.yield u)) ↔ (tree.yield t ≡ tree.yield u)
      equal = built_equal_exactly_if (panel_after cs).sheet (ops cs) (rules cs) (sheet_in_force cs) t u ot ou

pub demand_3 : (cs : List Call) → Demand3 cs
demand_3 cs =
    record {
      sheet = sheet_in_force cs;
      one_tree = exactly_one cs;
      filled = filled_exactly_if_put cs;
      held_tree = holds_last_put cs;
      book_sheet = book_in_force cs;
      book_slots = λ k. book_slot k cs;
      record_entered = record_entered cs;
      answered = each_answered cs;
      one_answer = book_answers_one cs;
      numbers = each_means cs;
      same_lengths = switch_keeps_lengths cs;
      refused = refused_exactly_if cs;
      refused_list = refused_list_exactly_if cs;
      book_number_lem = book_number_lem cs;
      both_forms = both_forms cs;
      same_bytes = same_bytes_exactly_if cs;
    }
