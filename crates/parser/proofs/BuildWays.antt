-- What each way through `of_row` and `build_into` gives, from what is known on it. Assumes nothing.
use mathlib.Core.Path.{◌≡◌, refl, sym, ap, subst, ◌∙◌}
use mathlib.Core.Bool.{Bool}
use mathlib.Core.Option.{some}
use mathlib.Core.List.{List, [], ◌∷◌, ◌++◌, append-nil, append_assoc}
use Prim.Native.Nat.{ℕ, suc, ◌+◌, ◌<◌, ◌≤◌}
use native.Mathlib.Omega.{arith}
use native.Mathlib.Numerals.{add-one}
use lib.ListN.{length, get_or, take, drop}
use lib.Seq.{take-suc, take_all, split_at}
use borrow.Author.Rules.{rules}
use Rattle.expression.specs.Limits.{most_tokens}
use Rattle.expression.specs.Token.{Operators, class}
use Rattle.expression.specs.Tree.{Tree, record_of}
use Rattle.expression.specs.Checks.{record_bytes}
use Rattle.disambiguation.specs.LeftToRight.{bottom, State, due, have, stuck, finish, run, state_after, parse, made}
use Rattle.disambiguation.proofs.LeftToRight.{run_append}
use Rattle.parser.specs.Build.{record_in, built}
use Rattle.parser.specs.Notes.{notes_of, laid_out, Inside}
use Rattle.parser.specs.Reading.{next, Goes, Held, Noted, Takeable, Takes, Buildable, Beginning, Reads}
use Rattle.parser.proofs.Shares.{share_small}
use Rattle.parser.proofs.NoteLaws.{length_notes_of}
use Rattle.parser.proofs.Closing.{finished_notes}
use Rattle.parser.proofs.Laying.{enough_words, words_inside, words_laid}
use Rattle.parser.proofs.OperandWays.{count_is}

-- ---- the machine on a row that it makes a tree of
module _ (ops : Operators) (closes : ℕ → ℕ → Bool) where
  abbrev after : List ℕ → State
  after = state_after closes (class ops)

  run_stuck : (tokens : List ℕ) → run closes (class ops) tokens stuck ≡ stuck
  run_stuck [] = refl
  run_stuck (c ∷ tokens) = run_stuck tokens

  goes_on : (m : State) (rest : List ℕ) (t : Tree) → finish (run closes (class ops) rest m) ≡ some t → Goes m
  goes_on (due s) rest t e = tt
  goes_on (have s u) rest t e = tt
  goes_on stuck rest t e = let none-is-some = ap finish (sym (run_stuck rest)) ∙ e in let clash : ◌≡◌ {A = ℕ} 0 1 = cc in omega arith

  made_finishes : (row : List ℕ) (t : Tree) → made ops closes row ≡ some t → finish (after row) ≡ some t
  unfolding made parse
  made_finishes row t e = e

-- ---- of_row
module _ (ops : Operators) (closes : ℕ → ℕ → Bool) (row : List ℕ) where
  -- the tokens before i are taken
  pub record Reading (h : Held) (i : ℕ) : Type 0 where
    pub stands : Noted ops h (after ops closes (take i row))
    pub few : h.count ≤ i
    pub inside : i ≤ length row

  pub reading_starts : (words : List ℕ) → length words ≡ most_tokens → Reading (record { words = words; count = 0; first = 0 }) 0
  reading_starts words full =
      record {
        stands = record { noted = refl; begins = tt; over = tt; held = record { ordered = omega arith; inside = omega arith; full = full } };
        few = omega arith;
        inside = omega arith;
      }

  one_more : (i : ℕ) → i < length row → after ops closes (take (i + 1) row) ≡ next ops closes (get_or row i 0) (after ops closes (take i row))
  one_more i h = ap (after ops closes) (ap (λ k. take k row) (add-one i) ∙ take-suc row i 0 h)
      ∙ run_append closes (class ops) (take i row) (get_or row i 0 ∷ []) (due bottom)

  -- the state after a token of a beginning is one from which the row's other tokens lead to a tree
  goes : (i : ℕ) → i < length row → Beginning ops closes row → Goes (next ops closes (get_or row i 0) (after ops closes (take i row)))
  goes i h b =
      let ahead = drop (suc i) row ++ b.rest in
      let split : row ++ b.rest ≡ take i row ++ (get_or row i 0 ∷ ahead) =
      ap (λ tokens. tokens ++ b.rest) (split_at row i 0 h) ∙ append_assoc (take i row) (get_or row i 0 ∷ drop (suc i) row) b.rest in
      goes_on ops closes (next ops closes (get_or row i 0) (after ops closes (take i row))) ahead b.tree
      (sym (ap (λ tokens. finish (after ops closes tokens)) split
      ∙ ap finish (run_append closes (class ops) (take i row) (get_or row i 0 ∷ ahead) (due bottom)))
      ∙ made_finishes ops closes (row ++ b.rest) b.tree b.makes)

  module _ {h : Held} {i : ℕ} (r : Reading h i) where
    pub token_takeable : i < length row → Beginning ops closes row → Takeable ops closes (get_or row i 0) h
    token_takeable l b = record { state = after ops closes (take i row); stands = r.stands; goes = goes i l b }

    pub token_room : i < length row → length row ≤ most_tokens → h.count < most_tokens
    token_room l few = omega (arith, r.few)

    pub reading_more : {h' : Held} → i < length row → Beginning ops closes row → Takes ops closes (get_or row i 0) h h' → Reading h' (i + 1)
    reading_more {h'} l b t =
        record {
          stands = subst (λ m. Noted ops h' m) (sym (one_more i l)) (t.taken (after ops closes (take i row)) r.stands (goes i l b));
          few = omega (arith, t.counted, r.few, share_small (get_or row i 0));
          inside = omega arith;
        }

    pub reading_done : length row ≤ i → Reads ops closes row h
    reading_done l = record { stands = subst (λ tokens. Noted ops h (after ops closes tokens)) (take_all i row l) r.stands }

pub ruleset read_ways = (reading_starts, token_takeable, token_room, reading_more, reading_done, rules)

-- ---- build_into
-- a row is a beginning of itself
pub whole_begins : {ops : Operators} {closes : ℕ → ℕ → Bool} {row : List ℕ} → Buildable ops closes row → Beginning ops closes row
whole_begins {ops} {closes} {row} b = record { rest = []; tree = b.tree; makes = ap (made ops closes) (append-nil row) ∙ b.makes }

module _ (ops : Operators) (closes : ℕ → ℕ → Bool) (row out : List ℕ) (b : Buildable ops closes row) (size : length out ≡ record_bytes row) where
  fills : length (record_of b.tree) ≡ length out
  fills = b.measured ∙ sym size

  module _ {h : Held} (r : Reads ops closes row h) where
    -- what waits at the end closes there, and the notes are those of the tree
    counted : take h.count h.words ≡ notes_of 0 b.tree
    counted = r.stands.noted ∙ finished_notes (after ops closes row) b.tree (made_finishes ops closes row b.tree b.makes)

    long : h.count ≡ length (record_of b.tree)
    long = count_is r.stands ∙ ap length (sym r.stands.noted ∙ counted) ∙ length_notes_of 0 b.tree

    noted : take (length (record_of b.tree)) h.words ≡ notes_of 0 b.tree
    noted = ap (λ n. take n h.words) (sym long) ∙ counted

    few : length (record_of b.tree) ≤ most_tokens
    few = omega (arith, long, r.stands.held.inside)

    pub out_few : length out ≤ most_tokens
    out_few = omega (arith, few, fills)

    pub out_enough : length out ≤ length h.words
    out_enough = enough_words ops b.tree b.over few h.words (length (record_of b.tree)) noted out fills

    pub out_inside : Inside (length out) (take (length out) h.words) 0
    out_inside = words_inside ops b.tree b.over few h.words (length (record_of b.tree)) noted out fills

    pub out_built : {out' : List ℕ} → out' ≡ laid_out (take (length out) h.words) 0 out → out' ≡ built ops closes row
    unfolding built
    out_built e = e ∙ words_laid ops b.tree b.over few h.words (length (record_of b.tree)) noted out fills ∙ sym (ap record_in b.makes)

pub ruleset build_ways = (whole_begins, out_few, out_enough, out_inside, out_built, rules)
