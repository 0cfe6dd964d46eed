-- Demand 2 holds of every list of calls from the fresh panel. Assumes nothing.
use Prim.Native.Nat.{ℕ, ◌≤◌}
use native.Mathlib.Omega.{arith}
use mathlib.Core.Path.{◌≡◌, ap, sym, subst, ◌∙◌}
use mathlib.Core.Option.{some}
use mathlib.Core.List.{List}
use lib.ListN.{length}
use Rattle.expression.specs.Refusal.{accepted}
use Rattle.expression.specs.Limits.{most_tokens}
use Rattle.expression.specs.Token.{class}
use Rattle.expression.specs.Grammar.{Row}
use Rattle.expression.specs.Tree.{Tree, record_of, Over}
use Rattle.expression.specs.Tree as tree
use Rattle.expression.specs.Decode.{tree_of}
use Rattle.expression.specs.Operand.{row_of}
use Rattle.expression.specs.Checks.{record_bytes, row_tokens, row_checks, record_checks, row_number, record_number, build_number, yield_number}
use Rattle.expression.proofs.Classes.{brackets}
use Rattle.expression.proofs.RecordsAndTrees.{tree_of_record, record_injective}
use Rattle.expression.proofs.Lengths.{same_row_same_length}
use Rattle.expression.proofs.Numbers.{first_roomy, row_numbered, record_numbered, row_accepted}
use Rattle.disambiguation.specs.Conflicts.{conflict_count, ConflictFreeTree}
use Rattle.sheet.specs.Relation.{closes_in}
use Rattle.parser.specs.Build.{built}
use Rattle.run.specs.Call.{Call, ask, build, repair, judge, yield}
use Rattle.run.specs.Panel.{rebuilt}
use Rattle.run.specs.Steps as steps
use Rattle.run.specs.AnswerBytes.{Records}
use Rattle.run.specs.Run.{panel_after, answer, book_after, AnsweredBy}
use Rattle.run.specs.Promises.{Within, Demand2, ops, rules}
use Rattle.run.proofs.Slots.{HeldTree, bytes_long, put_row_holds, put_record_holds}
use Rattle.run.proofs.Replies.{rest}
use Rattle.run.proofs.Histories.{stands}
use Rattle.run.proofs.Placed.{same_ops, same_rules, sheet_in_force, within_accepted, answered_by, repair_accepted}

module _ (cs : List Call) where
  same_operators : steps.ops (panel_after cs) ≡ ops cs
  same_operators = (sheet_in_force cs).operators

  built_tree : (row : List ℕ) → Row (ops cs) row → length row ≤ most_tokens
      → (t : Tree) × ConflictFreeTree (ops cs) (rules cs) row t × ((out : List ℕ) → length (record_of t) ≤ length out → AnsweredBy cs (ask (build row out)) out (record_of t))
  unfolding build_number row_number
  built_tree row r l =
      let e = (row_accepted (ops cs) row).1 (l, r) in
      let (t, g) = put_row_holds (panel_after cs).sheet (ops cs) (rules cs) (sheet_in_force cs) row e in
      (t, g.tree, λ out room. answered t g e out room)
    where
      answered : (t : Tree) (g : HeldTree (ops cs) (rules cs) row (built (steps.ops (panel_after cs)) (closes_in (panel_after cs).sheet) row) t) → row_number (ops cs) row ≡ accepted → (out : List ℕ) → length (record_of t) ≤ length out
          → AnsweredBy cs (ask (build row out)) out (record_of t)
      answered t g e out room =
          let z : (answer cs (ask (build row out))).number ≡ accepted =
          ap (λ m. build_number m row (length out)) same_operators
          ∙ first_roomy (row_checks (ops cs) row) (record_bytes row) (length out) e (row_numbered (ops cs) row) (omega (arith, bytes_long g, ap length g.recorded)) in
          answered_by cs (build row out) (record_of t) z g.recorded

  module _ (t : Tree) (over : Over (class (ops cs)) t) (within : Within t) where
    fits : record_number (ops cs) (record_of t) ≡ accepted
    fits = within_accepted cs t over within

    read_back : tree_of (class (ops cs)) (record_of t) ≡ some t
    read_back = tree_of_record (class (ops cs)) (brackets (ops cs)) t over

    given_back : (out : List ℕ) → length (tree.yield t) ≤ length out → AnsweredBy cs (ask (yield (record_of t) out)) out (tree.yield t)
    unfolding yield_number record_number
    given_back out room =
        let z : (answer cs (ask (yield (record_of t) out))).number ≡ accepted =
        ap (λ m. yield_number m (record_of t) (length out)) same_operators
        ∙ first_roomy (record_checks (ops cs) (record_of t)) (row_tokens (tree_of (class (ops cs)) (record_of t))) (length out) fits (record_numbered (ops cs) (record_of t))
        (omega (arith, ap row_tokens read_back)) in
        answered_by cs (yield (record_of t) out) (tree.yield t) z (ap (λ m. row_of (tree_of (class m) (record_of t))) same_operators ∙ ap row_of read_back)

    repaired_tree : (u : Tree) × ConflictFreeTree (ops cs) (rules cs) (tree.yield t) u
        × ((out : List ℕ) → length (record_of u) ≤ length out → AnsweredBy cs (ask (repair (record_of t) out)) out (record_of u))
    repaired_tree =
        let (u, g) = put_record_holds (panel_after cs).sheet (ops cs) (rules cs) (sheet_in_force cs) (record_of t) fits in
        (u, free u g.tree, λ out room. answered u (free u g.tree) g.recorded out room)
      where
        free : (u : Tree) → ConflictFreeTree (ops cs) (rules cs) (row_of (tree_of (class (ops cs)) (record_of t))) u → ConflictFreeTree (ops cs) (rules cs) (tree.yield t) u
        free u h = subst (λ row. ConflictFreeTree (ops cs) (rules cs) row u) (ap row_of read_back) h

        answered : (u : Tree) → ConflictFreeTree (ops cs) (rules cs) (tree.yield t) u → rebuilt (panel_after cs).sheet (record_of t) ≡ record_of u
            → (out : List ℕ) → length (record_of u) ≤ length out → AnsweredBy cs (ask (repair (record_of t) out)) out (record_of u)
        answered u h e out room =
            let z = repair_accepted cs t fits out (omega (arith, same_row_same_length (class (ops cs)) (brackets (ops cs)) t u over h.over (sym h.yields))) in
            answered_by cs (repair (record_of t) out) (record_of u) z e

    counted : ((answer cs (ask (judge (record_of t)))).number ≡ accepted) × ((answer cs (ask (judge (record_of t)))).count ≡ conflict_count (rules cs) t)
    counted = (number, same ((rest (panel_after cs) (book_after cs) (stands cs) (ask (judge (record_of t)))).count.accepted number))
      where
        number : (answer cs (ask (judge (record_of t)))).number ≡ accepted
        number = ap (λ m. record_number m (record_of t)) same_operators ∙ fits

        same : (v : Tree) × Records (book_after cs) (record_of t) v × ((answer cs (ask (judge (record_of t)))).count ≡ conflict_count (book_after cs).rules v)
            → (answer cs (ask (judge (record_of t)))).count ≡ conflict_count (rules cs) t
        same (v, r, e) =
            e ∙ ap (λ given. conflict_count given v) (same_rules cs)
            ∙ ap (conflict_count (rules cs)) (record_injective (class (ops cs)) (brackets (ops cs)) v t (subst (λ m. Over (class m) v) (same_ops cs) r.0) over r.1)

pub demand_2 : (cs : List Call) → Demand2 cs
demand_2 cs = record { built = built_tree cs; given_back = given_back cs; repaired = repaired_tree cs; counted = counted cs }
