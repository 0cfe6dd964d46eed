-- Under rules by which a row has one conflict-free tree at most, the row of the tree with just the brackets that it needs is the shortest that means the same. Assumes nothing.
use Prim.Native.Nat.{ℕ, ◌+◌, ◌≤◌}
use native.Mathlib.Omega.{arith}
use mathlib.Core.Path.{◌≡◌, refl, ap, sym, ◌∙◌}
use mathlib.Core.Option.{some}
use mathlib.Core.List.{List, ◌∷◌, ◌++◌}
use lib.ListN.{length, length-append}
use Rattle.expression.specs.Token.{opening, closing, Operators, class}
use Rattle.expression.specs.Refusal.{accepted}
use Rattle.expression.specs.Tree.{Tree, reading, bracket, binary, prefix, yield, Over}
use Rattle.expression.proofs.RowsAndTrees.{row_exactly_if_yielded}
use Rattle.disambiguation.specs.Rules.{Rule, L, R}
use Rattle.disambiguation.specs.Conflicts.{ConflictFreeTree}
use Rattle.disambiguation.specs.Verdict.{verdict}
use Rattle.disambiguation.specs.Repair.{repair}
use Rattle.disambiguation.proofs.Accepted.{Passes, accepted_passes, repair_is, only_one}
use Rattle.disambiguation.proofs.Plain.{Plain, plain_of_row}
use Rattle.brackets.specs.SameMeaning.{bare, MeanTheSame, OfInfix, ShortestRow}
use Rattle.brackets.specs.Enclosed.{enclosed}
use Rattle.brackets.specs.Shortest.{shortest_by}
use Rattle.brackets.proofs.Enclosing.{bare_enclosed, over_enclosed, enclosed_free}
use Rattle.brackets.proofs.Fewest.{fewest_tokens, only_tree}

-- a tree without prefix operators has none once its brackets are taken out
plain_bare : (t : Tree) → Plain t → Plain (bare t)
plain_bare (reading a) h = tt
plain_bare (bracket t) h = plain_bare t h
plain_bare (binary o l r) h = (plain_bare l h.0, plain_bare r h.1)
plain_bare (prefix p t) h = h

-- a row without a pair of its brackets is two tokens shorter
dropped_length : (before inner after : List ℕ) → length (before ++ opening ∷ inner ++ closing ∷ after) ≡ length (before ++ inner ++ after) + 2
dropped_length before inner after =
    omega (
      arith,
      length-append (before ++ opening ∷ inner) (closing ∷ after),
      length-append before (opening ∷ inner),
      length-append (before ++ inner) after,
      length-append before inner,
    )

module _ (ops : Operators) (rules : List Rule) (one_tree_lem : (row : List ℕ) (t u : Tree) → ConflictFreeTree ops rules row t → ConflictFreeTree ops rules row u → t ≡ u) where
  module _ (row : List ℕ) (t : Tree) (c : ConflictFreeTree ops rules row t) where
    abbrev answer : Tree
    answer = enclosed (L rules) (R rules) t

    answer_free : ConflictFreeTree ops rules (yield answer) answer
    answer_free = record { over = over_enclosed (L rules) (R rules) (class ops) t c.over; yields = refl; free = enclosed_free (L rules) (R rules) t }

    -- the tree of a row that means the same agrees with t
    other_tree : (other : List ℕ) → MeanTheSame ops rules row other → (u : Tree) × ConflictFreeTree ops rules other u × (bare t ≡ bare u)
    other_tree other m = let (v, u, d, e, same) = m in (u, e, ap bare (one_tree_lem row t v c d) ∙ same)

    fewest_of_row : (other : List ℕ) → MeanTheSame ops rules row other → length (yield answer) ≤ length other
    fewest_of_row other m =
        let (u, d, same) = other_tree other m in
        omega (arith, fewest_tokens (L rules) (R rules) t u d.free same, ap length d.yields)

    only_of_row : OfInfix ops row → (other : List ℕ) → MeanTheSame ops rules row other → length other ≡ length (yield answer) → other ≡ yield answer
    only_of_row f other m e =
        let (u, d, same) = other_tree other m in
        let plain = plain_bare t (plain_of_row (class ops) t c.over (rw (← c.yields) at f)) in
        sym d.yields ∙ ap yield (only_tree (L rules) (R rules) t u d.free same plain (ap length d.yields ∙ e))

    -- With a pair of brackets dropped it would be shorter still, so it means something else.
    pub shortest_row_lem : ShortestRow ops rules row (yield answer)
    shortest_row_lem =
        record {
          tree = t;
          conflict_free = c;
          made = refl;
          is_row = (row_exactly_if_yielded ops (yield answer)).1 (answer, answer_free.over, refl);
          means_same = (t, answer, c, answer_free, sym (bare_enclosed (L rules) (R rules) t));
          none_spare = λ before inner after e _ m. omega (arith, fewest_of_row (before ++ inner ++ after) m, ap length e, dropped_length before inner after);
          fewest = fewest_of_row;
          only = only_of_row;
        }

-- For every accepted sheet, and every tree over its operators:
module _ (ops : Operators) (rules : List Rule) (accepts : verdict ops rules ≡ accepted) (t : Tree) (h : Over (class ops) t) where
  passes : Passes ops rules
  passes = accepted_passes ops rules accepts

  -- the row of fewest tokens that means the same as the tree's row;
  pub shortest_of_tree : ShortestRow ops rules (yield t) (shortest_by ops rules (some t))
  shortest_of_tree = shortest_row_lem ops rules (only_one ops rules passes) (yield t) (repair ops (R rules) t) (repair_is ops rules passes t h)

  -- the tree's row means the same as itself.
  pub shortest_fits : length (shortest_by ops rules (some t)) ≤ length (yield t)
  shortest_fits = let c = repair_is ops rules passes t h in shortest_of_tree.fewest (yield t) (repair ops (R rules) t, repair ops (R rules) t, c, c, refl)
