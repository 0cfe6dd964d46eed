-- W8 holds of every list of calls from the fresh panel. Assumes nothing.
use Prim.Native.Nat.{ℕ, ◌≤◌, ◌<◌}
use native.Mathlib.Omega.{arith}
use mathlib.Core.Path.{◌≡◌, refl, ap, ap₂, sym, subst, ◌∙◌}
use mathlib.Core.Bool.{Bool, true, false, cond}
use mathlib.Core.Logic.{◌↔◌}
use mathlib.Core.Option.{some}
use mathlib.Core.List.{List, ◌∷◌}
use lib.ListN.{length, take}
use lib.ListN as lists
use lib.Seq.{take_at}
use borrow.Author.Tests.{lt-ltb, eq-eqb}
use Rattle.expression.specs.Limits.{most_tokens, most_record_bytes}
use Rattle.expression.specs.Refusal.{accepted, place, conflict}
use Rattle.expression.specs.Token.{class}
use Rattle.expression.specs.Grammar.{Row}
use Rattle.expression.specs.Tree.{Tree, record_of, Over}
use Rattle.expression.specs.Tree as tree
use Rattle.expression.specs.Checks.{row_number, build_number}
use Rattle.expression.proofs.Numbers.{row_accepted, build_number_lem}
use Rattle.sheet.specs.Relation.{closes_in}
use Rattle.parser.specs.Build.{built}
use Rattle.parser.proofs.InForceBuilds.{one_tree_lem}
use Rattle.claims.specs.Claims.{Claimed, pair_checks_by, claim_number}
use Rattle.claims.proofs.Accepting.{accepted_exactly_if, conflict_in_row}
use Rattle.claims.proofs.InForceClaims.{claimed_exactly_if_built}
use Rattle.run.specs.Promises.{ops, rules}
use Rattle.expression.proofs.Cond.{by_cond}
use Rattle.disambiguation.specs.Conflicts.{ConflictFreeTree}
use Rattle.run.specs.Book.{Sheet}
use Rattle.run.specs.Places.{place_count, stored}
use Rattle.run.specs.Call.{Call, put_row, put_claim, ask, fetch_record, build}
use Rattle.run.specs.Panel.{place_check}
use Rattle.run.specs.Steps.{put_row_number, places_after_row, places_after_claim, with_places}
use Rattle.run.specs.Steps as steps
use Rattle.run.specs.Run.{is_accepted, last_said, panel_after, answer, book_after, in_force, last_put, AnsweredBy}
use Rattle.run.specs.Requests.{ClaimedTrees}
use Rattle.run.proofs.Stands.{same_number}
use Rattle.run.proofs.Replies.{place_passed}
use Rattle.run.proofs.Histories.{stands}
use Rattle.run.proofs.Placed.{same_ops, same_rules, sheet_in_force, answered_by}
use Rattle.run.proofs.Filling.{holds_last_put}

module _ (cs : List Call) (k : ℕ) (row bytes : List ℕ) where
  abbrev claim : Call
  claim = put_claim k row bytes

  -- the number by the rules in force
  number_is : (answer cs claim).number ≡ cond (place_check k).0 place (claim_number (ops cs) (rules cs) row bytes)
  unfolding claim_number
  number_is =
      same_number (panel_after cs) (book_after cs) (stands cs) claim
      ∙ ap₂ (λ o r. cond (place_check k).0 place (claim_number o r row bytes)) (same_ops cs) (same_rules cs)

  claimed_exactly_if : ((answer cs claim).number ≡ accepted) ↔ ((k < place_count) × (length row ≤ most_tokens) × Claimed (ops cs) (rules cs) row bytes)
  unfolding claim_number
  claimed_exactly_if = (
    λ z.
        let (h, f) = place_passed k (pair_checks_by (ops cs) (rules cs) row bytes) (sym number_is ∙ z) in
        let (fits, claimed) = (accepted_exactly_if (ops cs) (rules cs) row bytes).0 f in
        (h, fits, claimed),
    λ h. let (l, fits, claimed) = h in number_is ∙ rw (lt-ltb k place_count l) ((accepted_exactly_if (ops cs) (rules cs) row bytes).1 (fits, claimed)),
  )

  conflict_of_row : (answer cs claim).number ≡ conflict → (t : Tree) × Over (class (ops cs)) t × (record_of t ≡ bytes) × (tree.yield t ≡ row)
  conflict_of_row z = conflict_in_row (ops cs) (rules cs) row bytes (go (place_check k).0 (sym number_is ∙ z))
    where
      go : (x : Bool) → cond x place (claim_number (ops cs) (rules cs) row bytes) ≡ conflict → claim_number (ops cs) (rules cs) row bytes ≡ conflict
      go true e = absurd (omega arith)
      go false e = e

  -- ---- what is built of the row
  abbrev made : List ℕ
  made = built (steps.ops (panel_after cs)) (closes_in (panel_after cs).sheet) row

  made_exactly_if : Claimed (ops cs) (rules cs) row bytes ↔ (Row (ops cs) row × (made ≡ bytes))
  made_exactly_if =
      subst (λ o. Claimed (ops cs) (rules cs) row bytes ↔ (Row (ops cs) row × (built o (closes_in (panel_after cs).sheet) row ≡ bytes))) (sym (sheet_in_force cs).operators)
      (claimed_exactly_if_built (panel_after cs).sheet (ops cs) (rules cs) (sheet_in_force cs) row bytes)

  module _ (out : List ℕ) (room : most_record_bytes ≤ length out) where
    build_number_is : (answer cs (ask (build row out))).number ≡ row_number (ops cs) row
    build_number_is = ap (λ o. build_number o row (length out)) (sheet_in_force cs).operators ∙ build_number_lem (ops cs) row (length out) room

    built_exactly_if : k < place_count → ((answer cs claim).number ≡ accepted) ↔ AnsweredBy cs (ask (build row out)) out bytes
    built_exactly_if h = (to, from)
      where
        to : (answer cs claim).number ≡ accepted → AnsweredBy cs (ask (build row out)) out bytes
        to z =
            let (_, fits, claimed) = claimed_exactly_if.0 z in
            let (r, e) = made_exactly_if.0 claimed in
            answered_by cs (build row out) bytes (build_number_is ∙ (row_accepted (ops cs) row).1 (fits, r)) e

        from : AnsweredBy cs (ask (build row out)) out bytes → (answer cs claim).number ≡ accepted
        from (z, l, o) =
            let (fits, r) = (row_accepted (ops cs) row).0 (sym build_number_is ∙ z) in
            let (_, m, p) = answered_by cs (build row out) made z refl in
            let same : made ≡ bytes =
            sym (take_at made (lists.drop (length made) out) (length bytes) (sym m ∙ l)) ∙ ap (take (length bytes)) (sym p ∙ o) ∙ take_at bytes (lists.drop (length bytes) out) (length bytes) refl in
            claimed_exactly_if.1 (h, fits, made_exactly_if.1 (r, same))

  -- ---- an accepted claim
  module _ (z : (answer cs claim).number ≡ accepted) where
    last_put_lem : last_put k (claim ∷ cs) ≡ some row
    unfolding last_put last_said
    last_put_lem = rw (z, eq-eqb k k refl) refl

    same_sheet : in_force (claim ∷ cs) ≡ in_force cs
    unfolding in_force last_said
    same_sheet = by_cond (λ (s : Sheet). s ≡ in_force cs) (is_accepted cs claim) (λ _. refl) (λ _. refl)

    held_as_sent : (out : List ℕ) → length bytes ≤ length out → AnsweredBy (claim ∷ cs) (ask (fetch_record k out)) out bytes
    held_as_sent out l =
        let (_, _, (u, d, e)) = claimed_exactly_if.0 z in
        let (t, there, h) = holds_last_put (claim ∷ cs) k row last_put_lem in
        let c = subst (λ (s : Sheet). ConflictFreeTree s.operators s.rules row t) same_sheet there in
        let same : record_of t ≡ bytes = ap record_of (one_tree_lem (panel_after cs).sheet (ops cs) (rules cs) (sheet_in_force cs) row t u c d) ∙ e in
        subst (AnsweredBy (claim ∷ cs) (ask (fetch_record k out)) out) same (h.fetches_record out (omega (arith, ap length same)))

    put_passes : put_row_number (panel_after cs) k row ≡ accepted
    unfolding put_row_number row_number
    put_passes =
        let (l, fits, claimed) = claimed_exactly_if.0 z in
        let (r, _) = made_exactly_if.0 claimed in
        rw (lt-ltb k place_count l, (sheet_in_force cs).operators) ((row_accepted (ops cs) row).1 (fits, r))

    same_as_put : panel_after (claim ∷ cs) ≡ panel_after (put_row k row ∷ cs)
    unfolding panel_after places_after_claim places_after_row
    same_as_put =
        let (_, _, claimed) = claimed_exactly_if.0 z in
        let (_, e) = made_exactly_if.0 claimed in
        rw (z, put_passes) (ap (λ x. with_places (panel_after cs) (stored (panel_after cs).places k x)) (sym e))

pub claimed_trees : (cs : List Call) → ClaimedTrees cs
claimed_trees cs =
    record {
      accepted_exactly_if = claimed_exactly_if cs;
      as_built = λ k row bytes out h room. built_exactly_if cs k row bytes out room h;
      same_row = conflict_of_row cs;
      as_sent = λ k row bytes out z l. held_as_sent cs k row bytes z out l;
      as_put = same_as_put cs;
    }
