-- What each call makes of a panel value, and what it answers: the calls' contracts are these definitions. Assumes nothing.
use Rattle.std.specs.Prelude.{ℕ, List, [], ◌∷◌, ◌++◌, length}
use Rattle.expression.specs.Refusal.{first}
use Rattle.expression.specs.Lent.{output_after, length_after}
use Rattle.expression.specs.Token.{Operators, class}
use Rattle.expression.specs.Decode.{tree_of}
use Rattle.expression.specs.Operand.{row_of, operand_part}
use Rattle.expression.specs.Checks.{short_check, row_tokens, row_checks, record_checks, record_number, build_number, repair_number, yield_number}
use Rattle.disambiguation.specs.Rules.{Rule}
use Rattle.disambiguation.specs.SheetChecks.{kinds_in, rules_in, sheet_number, list_number}
use Rattle.sheet.specs.Layout.{operators_of}
use Rattle.sheet.specs.Relation.{closes_in}
use Rattle.sheet.specs.Loading.{sheet_of}
use Rattle.record.specs.Answers.{judgement}
use Rattle.parser.specs.Build.{built}
use Rattle.brackets.specs.Shortest.{shortest_of, shortest_number}
use Rattle.claims.specs.Claims.{pair_checks_in}
use Rattle.run.specs.Image.{image_bytes, image_of}
use Rattle.run.specs.Places.{place_count, held, stored}
use Rattle.run.specs.Call.{Question, Call, lent_to, stage, stage_list, switch, put_row, put_record, put_claim, drop, ask, fetch_record, fetch_row, image, build, repair, judge, yield, operand, shortest_row, Reply}
use Rattle.run.specs.Panel.{Panel, panel, none_staged, place_check, empty_check, in_use_check, staged_check, if_accepted, rebuilt, rebuilt_to}

-- What a call gives: its number; accepted, the bytes that it writes into its lent output; a judge's count; an operand's part.
pub record Outcome : Type 0 where
  pub number : ℕ
  pub answer : List ℕ
  pub count : ℕ
  pub part : List ℕ

abbrev pub numbered : ℕ → Outcome
numbered number = record { number = number; answer = []; count = 0; part = [] }

abbrev pub answered : ℕ → List ℕ → Outcome
answered number answer = record { number = number; answer = answer; count = 0; part = [] }

-- The reply, where this was lent: the output past the answer's bytes, and after a refusal all of it, is as before.
abbrev pub reply_of : Outcome → List ℕ → Reply
reply_of o before =
    record {
      number = o.number;
      length = length_after o.number o.answer;
      output = output_after o.number o.answer before;
      count = o.count;
      part = o.part;
    }

module _ (p : Panel) where
  abbrev pub ops : Operators
  ops = operators_of p.sheet

  -- The numbers. A staging's is the sheet's own: it looks at nothing of the panel.
  unfoldable pub switch_number : ℕ
  switch_number = first (staged_check p.staged ∷ in_use_check ops (operators_of p.staged) (held p.places) ∷ [])

  unfoldable pub put_row_number : ℕ → List ℕ → ℕ
  put_row_number k row = first (place_check k ∷ row_checks ops row)

  unfoldable pub put_record_number : ℕ → List ℕ → ℕ
  put_record_number k bytes = first (place_check k ∷ record_checks ops bytes)

  unfoldable pub put_claim_number : ℕ → List ℕ → List ℕ → ℕ
  put_claim_number k row bytes = first (place_check k ∷ pair_checks_in p.sheet row bytes)

  unfoldable pub drop_number : ℕ → ℕ
  drop_number k = first (place_check k ∷ empty_check (held p.places k) ∷ [])

  unfoldable pub fetch_record_number : ℕ → ℕ → ℕ
  fetch_record_number k room = first (place_check k ∷ empty_check (held p.places k) ∷ short_check (length (held p.places k)) room ∷ [])

  unfoldable pub fetch_row_number : ℕ → ℕ → ℕ
  fetch_row_number k room =
      first (place_check k ∷ empty_check (held p.places k) ∷ record_checks ops (held p.places k)
      ++ (short_check (row_tokens (tree_of (class ops) (held p.places k))) room ∷ []))

  unfoldable pub image_number : ℕ → ℕ → ℕ
  image_number k room = first (place_check k ∷ short_check image_bytes room ∷ [])

  -- The panel after a call that changes it.
  unfoldable pub staged_after : ℕ → ℕ → List ℕ → List Rule → List ℕ
  staged_after number n kinds rules = if_accepted number (sheet_of n kinds rules) p.staged

  unfoldable pub after_switch : Panel
  after_switch = if_accepted switch_number (panel p.staged none_staged (rebuilt_to p.staged place_count p.places)) p

  unfoldable pub places_after_row : ℕ → List ℕ → List (List ℕ)
  places_after_row k row = if_accepted (put_row_number k row) (stored p.places k (built ops (closes_in p.sheet) row)) p.places

  unfoldable pub places_after_record : ℕ → List ℕ → List (List ℕ)
  places_after_record k bytes = if_accepted (put_record_number k bytes) (stored p.places k (rebuilt p.sheet bytes)) p.places

  -- A claimed record is held as sent.
  unfoldable pub places_after_claim : ℕ → List ℕ → List ℕ → List (List ℕ)
  places_after_claim k row bytes = if_accepted (put_claim_number k row bytes) (stored p.places k bytes) p.places

  unfoldable pub places_after_drop : ℕ → List (List ℕ)
  places_after_drop k = if_accepted (drop_number k) (stored p.places k []) p.places

  abbrev pub with_staged : List ℕ → Panel
  with_staged staged = panel p.sheet staged p.places

  abbrev pub with_places : List (List ℕ) → Panel
  with_places places = panel p.sheet p.staged places

  -- A question changes nothing.
  abbrev pub after : Call → Panel
  after (stage n bytes) = with_staged (staged_after (sheet_number n bytes) n (kinds_in n bytes) (rules_in n bytes))
  after (stage_list n kinds rules) = with_staged (staged_after (list_number n kinds rules) n kinds rules)
  after switch = after_switch
  after (put_row k row) = with_places (places_after_row k row)
  after (put_record k bytes) = with_places (places_after_record k bytes)
  after (put_claim k row bytes) = with_places (places_after_claim k row bytes)
  after (drop k) = with_places (places_after_drop k)
  after (ask q) = p

  -- The answers to the questions,
  abbrev pub asked_outcome : Question → Outcome
  asked_outcome (fetch_record k out) = answered (fetch_record_number k (length out)) (held p.places k)
  asked_outcome (fetch_row k out) = answered (fetch_row_number k (length out)) (row_of (tree_of (class ops) (held p.places k)))
  asked_outcome (image k out) = answered (image_number k (length out)) (image_of (held p.places k))
  asked_outcome (build row out) = answered (build_number ops row (length out)) (built ops (closes_in p.sheet) row)
  asked_outcome (repair bytes out) = answered (repair_number ops bytes (length out)) (rebuilt p.sheet bytes)
  asked_outcome (judge bytes) = record { number = record_number ops bytes; answer = []; count = (judgement p.sheet bytes).count; part = [] }
  asked_outcome (yield bytes out) = answered (yield_number ops bytes (length out)) (row_of (tree_of (class ops) bytes))
  asked_outcome (operand right bytes) = record { number = record_number ops bytes; answer = []; count = 0; part = operand_part ops right bytes }
  asked_outcome (shortest_row bytes out) = answered (shortest_number ops bytes (shortest_of p.sheet bytes) (length out)) (shortest_of p.sheet bytes)

  -- and to all calls.
  abbrev pub outcome : Call → Outcome
  outcome (stage n bytes) = numbered (sheet_number n bytes)
  outcome (stage_list n kinds rules) = numbered (list_number n kinds rules)
  outcome switch = numbered switch_number
  outcome (put_row k row) = numbered (put_row_number k row)
  outcome (put_record k bytes) = numbered (put_record_number k bytes)
  outcome (put_claim k row bytes) = numbered (put_claim_number k row bytes)
  outcome (drop k) = numbered (drop_number k)
  outcome (ask q) = asked_outcome q

  abbrev pub reply : Call → Reply
  reply c = reply_of (outcome c) (lent_to c)
