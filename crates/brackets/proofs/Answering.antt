-- What each way through `shortest_row` gives. Assumes nothing.
use Prim.Native.Nat.{ℕ, ◌≤◌, ◌<◌}
use native.Mathlib.Omega.{arith}
use mathlib.Core.Path.{◌≡◌, refl, ap, sym, subst, ◌∙◌}
use mathlib.Core.Bool.{Bool, true}
use mathlib.Core.List.{List, [], ◌∷◌, ◌++◌}
use lib.ListN.{length, drop}
use lib.Seq.{drop-append_seam}
use borrow.Author.Rules.{rules}
use borrow.Author.Tests.{ne_eqb}
use Rattle.expression.specs.Limits.{most_tokens, most_record_bytes}
use Rattle.expression.specs.Refusal.{accepted, short}
use Rattle.expression.specs.Lent.{output_after, length_after}
use Rattle.expression.specs.Token.{Operators, class}
use Rattle.expression.specs.Tree.{Tree, record_of}
use Rattle.expression.specs.Decode.{tree_of}
use Rattle.expression.specs.Operand.{row_of}
use Rattle.expression.specs.Checks.{record_bytes, short_check, record_checks, record_number}
use Rattle.expression.proofs.Classes.{brackets}
use Rattle.expression.proofs.RecordsAndTrees.{tree_of_record}
use Rattle.expression.proofs.Lengths.{record_length}
use Rattle.expression.proofs.Numbers.{first_refused, first_short, first_roomy, record_numbered, record_accepted, repair_number_lem}
use Rattle.sheet.specs.Layout.{operators_of}
use Rattle.sheet.specs.Relation.{closes_in}
use Rattle.record.specs.TreeAt.{TreeAt}
use Rattle.record.specs.Counts.{excluded_left}
use Rattle.record.specs.declared.Answer.{Answer}
use Rattle.parser.specs.Build.{built}
use Rattle.parser.specs.Answers.{AnswersRepair}
use Rattle.parser.proofs.BuildLaws.{BuiltTree, built_tree}
use Rattle.parser.proofs.RepairWays.{Accepted, accepted_record}
use Rattle.brackets.specs.Shortest.{shortened, shortest_of, shortest_number, AnswersShortest}
use Rattle.brackets.specs.Edges.{Marked, Fills}
use Rattle.brackets.specs.Walk.{row_under, StandsWithRoom, Shortens}
use Rattle.brackets.specs.declared.walk.Side.TheVariants.{Right}
use Rattle.std.specs.Prelude.{None}
use Rattle.brackets.proofs.Fewest.{enclosed_shortens}
use Rattle.brackets.proofs.OperandRows.{plain_row}

-- the record was repaired into a buffer with room for every record
module _ (sheet bytes out zeros : List ℕ) {whole : List ℕ} {y : Answer} (room : most_record_bytes ≤ length zeros) (repairs : AnswersRepair sheet bytes zeros whole y) where
  abbrev ops : Operators
  ops = operators_of sheet

  abbrev row : List ℕ
  row = row_of (tree_of (class ops) bytes)

  number_is : y.number ≡ record_number ops bytes
  number_is = repairs.numbered ∙ repair_number_lem ops bytes (length zeros) room

  pub shortest_refused : (y.number ≡ 0 → ⊥) → AnswersShortest sheet bytes out out (record { number = y.number; length = 0 })
  unfolding record_number shortest_number
  shortest_refused h =
      record {
        numbered = number_is ∙ sym (first_refused (record_checks ops bytes) (short_check (length (shortest_of sheet bytes)) (length out) ∷ []) (λ f. h (number_is ∙ f)));
        measured = rw (ne_eqb y.number 0 h);
        output = rw (ne_eqb y.number 0 h);
      }

  module _ (zero : y.number ≡ 0) where
    known : Accepted ops bytes
    known = accepted_record ops bytes (sym number_is ∙ zero)

    -- what is built of the record's row is a tree without a conflict
    made : (t : Tree) × BuiltTree (closes_in sheet) ops row t
    made = built_tree (closes_in sheet) ops row known.is_row

    abbrev tree : Tree
    tree = made.0

    answer_is : shortest_of sheet bytes ≡ row_under sheet None true tree
    unfolding shortest_of
    answer_is =
        ap (shortened sheet) (ap (tree_of (class ops)) made.1.recorded ∙ tree_of_record (class ops) (brackets ops) tree made.1.over)
        ∙ sym (plain_row sheet tree)

    bytes_fit : length bytes ≤ most_record_bytes
    bytes_fit = let (t, r) = (record_accepted ops bytes).0 (sym number_is ∙ zero) in r.bytes_fit

    -- its shortest row has room
    fits : length (row_under sheet None true tree) ≤ most_tokens
    fits =
        omega (
          arith,
          ap length (plain_row sheet tree),
          enclosed_shortens (excluded_left sheet) (closes_in sheet) tree made.1.free,
          ap length made.1.yields_row,
          known.fits,
        )

    held_is : whole ≡ record_of tree ++ drop (length (record_of tree)) zeros
    held_is = repairs.output ∙ ap (λ n. output_after n (built ops (closes_in sheet) row) zeros) zero ∙ ap (λ s. s ++ drop (length s) zeros) made.1.recorded

    at_front : TreeAt ops whole 0 tree (length (record_of tree))
    at_front =
        record {
          over = made.1.over;
          ends = omega arith;
          stands =
              held_is ∙ ap (λ s. record_of tree ++ s)
              (sym (ap (drop (length (record_of tree))) held_is ∙ drop-append_seam (record_of tree) (drop (length (record_of tree)) zeros)));
        }

    -- it fills as many bytes as the repair says
    size_is : y.length ≡ length (record_of tree)
    size_is = repairs.measured ∙ ap (λ n. length_after n (built ops (closes_in sheet) row)) zero ∙ ap length made.1.recorded

    fills : TreeAt ops whole 0 tree y.length
    fills = subst (TreeAt ops whole 0 tree) (sym size_is) at_front

    size_fits : y.length ≤ most_record_bytes
    size_fits = omega (arith, size_is, record_length (class ops) (brackets ops) tree made.1.over, ap record_bytes made.1.yields_row, known.same_length, bytes_fit)

    pub front_fills : Fills sheet whole y.length
    front_fills = record { tree = tree; stands = fills; within = size_fits }

    pub front_stands : {marks : List Bool} {none : List ℕ} → Marked sheet whole marks 0 y.length → none ≡ [] → StandsWithRoom sheet whole marks 0 None Right none
    front_stands m empty =
        record { tree = tree; to = y.length; stands = fills; within = size_fits; marked = m; sided = refl; room = omega (arith, fits, ap length empty) }

    -- the walk wrote it
    module _ {written tokens : List ℕ} {end : ℕ} {none : List ℕ} (empty : none ≡ []) (walked : Shortens sheet whole 0 None Right none written end) (lent : tokens ≡ written) where
      tokens_are : tokens ≡ shortest_of sheet bytes
      tokens_are = lent ∙ (walked.wrote tree (length (record_of tree)) at_front).1 ∙ ap (λ d. d ++ row_under sheet None true tree) empty ∙ sym answer_is

      pub shortest_short : length out < length tokens → AnswersShortest sheet bytes out out (record { number = short; length = 0 })
      unfolding record_number shortest_number
      shortest_short l =
          record {
            numbered =
                sym (first_short (record_checks ops bytes) (length (shortest_of sheet bytes)) (length out) (sym number_is ∙ zero) (record_numbered ops bytes)
                (omega (arith, ap length tokens_are)));
            measured = refl;
            output = refl;
          }

      pub shortest_done : {after : List ℕ} → length tokens ≤ length out → after ≡ tokens ++ drop (length tokens) out
          → AnswersShortest sheet bytes out after (record { number = accepted; length = length tokens })
      unfolding record_number shortest_number
      shortest_done enough copied =
          record {
            numbered =
                sym (first_roomy (record_checks ops bytes) (length (shortest_of sheet bytes)) (length out) (sym number_is ∙ zero) (record_numbered ops bytes)
                (omega (arith, ap length tokens_are)));
            measured = ap length tokens_are;
            output = copied ∙ ap (λ d. d ++ drop (length d) out) tokens_are;
          }

pub ruleset shortest_ways = (shortest_refused, front_fills, front_stands, shortest_short, shortest_done, rules)
