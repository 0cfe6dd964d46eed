-- What each way through the calls of the parser gives, from what is known on it. Assumes nothing.
use mathlib.Core.Path.{◌≡◌, refl, sym, ap, ap₂, ◌∙◌}
use mathlib.Core.Bool.{not}
use mathlib.Core.List.{List, [], ◌∷◌, ◌++◌}
use Prim.Native.Nat.{ℕ, ◌+◌, ◌-◌, ◌<◌, ◌≤◌}
use native.Mathlib.Omega.{arith}
use native.Mathlib.Numerals.{add-one}
use mir.Val.{Fits}
use mir.Syntax.{w16}
use lib.Dec.{eqb}
use lib.ListN.{length, get_or, take, drop}
use lib.Seq.{take-suc, take_all, length-take-le}
use borrow.Author.Tests.{ne_eqb}
use borrow.Author.Rules.{rules}
use Rattle.expression.specs.Limits.{most_tokens}
use Rattle.expression.specs.Refusal.{accepted, short}
use Rattle.expression.specs.Outcome.{number_of}
use Rattle.expression.specs.declared.refusal.Refusal.{Refusal}
use Rattle.expression.specs.Token.{closing}
use Rattle.expression.specs.Checks.{record_bytes, short_check, row_checks, row_number, build_number}
use Rattle.expression.proofs.Lengths.{count_append}
use Rattle.expression.proofs.Numbers.{first_refused, first_short, first_roomy, row_numbered, row_accepted}
use Rattle.sheet.specs.Layout.{operators_of}
use Rattle.sheet.specs.Relation.{closes_in}
use Rattle.parser.specs.Build.{built}
use Rattle.parser.specs.Reading.{share, Buildable}
use Rattle.parser.specs.Answers.{AnswersBuild}
use Rattle.expression.proofs.Outcomes.{not_accepted}
use Rattle.parser.proofs.BuildLaws.{built_length_accepted, accepted_buildable}
use Rattle.parser.proofs.Shares.{share_small}

-- ---- record_bytes
module _ (row : List ℕ) where
  -- so many bytes for the tokens before the place
  pub record Counted (counted i : ℕ) : Type 0 where
    pub counts : counted ≡ record_bytes (take i row)
    pub small : counted ≤ i
    pub inside : i ≤ length row

  pub counted_none : Counted 0 0
  counted_none = record { counts = refl; small = omega arith; inside = omega arith }

  pub counted_more : {counted i c : ℕ} → Counted counted i → i < length row → c ≡ share (get_or row i 0) → Counted (counted + c) (i + 1)
  unfolding share
  counted_more {counted} {i} {c} k h e =
      record {
        counts =
            ap₂ ◌+◌ k.counts e
            ∙ sym (ap (λ x. record_bytes (take x row)) (add-one i) ∙ ap record_bytes (take-suc row i 0 h)
            ∙ count_append (λ c. not (eqb c closing)) (take i row) (get_or row i 0 ∷ []) ∙ omega arith);
        small = omega (arith, k.small, e, share_small (get_or row i 0));
        inside = omega arith;
      }

  pub counted_fits : {counted i c : ℕ} → length row ≤ most_tokens → Counted counted i → i < length row → c ≡ share (get_or row i 0) → Fits w16 (counted + c)
  counted_fits {i = i} l k h e = omega (arith, k.small, e, share_small (get_or row i 0))

  pub counted_all : {counted i : ℕ} → Counted counted i → length row ≤ i → counted ≡ record_bytes row
  counted_all {counted} {i} k h = k.counts ∙ ap record_bytes (take_all i row h)

pub ruleset bytes_ways = (counted_none, counted_more, counted_fits, counted_all, rules)

-- ---- build_row
module _ (sheet row out : List ℕ) where
  pub build_refused : (r : Refusal) → number_of r ≡ row_number (operators_of sheet) row
      → AnswersBuild sheet row out out (record { number = number_of r; length = 0 })
  unfolding row_number build_number
  build_refused r e =
      record {
        numbered = e ∙ sym (first_refused (row_checks (operators_of sheet) row) (short_check (record_bytes row) (length out) ∷ [])
            (λ f. not_accepted r (e ∙ f)));
        measured = rw (ne_eqb (number_of r) accepted (not_accepted r));
        output = rw (ne_eqb (number_of r) accepted (not_accepted r));
      }

  module _ {m : ℕ} (e : accepted ≡ row_number (operators_of sheet) row) (b : m ≡ record_bytes row) where
    pub build_short : length out < m → AnswersBuild sheet row out out (record { number = short; length = 0 })
    unfolding row_number build_number
    build_short h =
        record {
          numbered = sym (first_short (row_checks (operators_of sheet) row) (record_bytes row) (length out) (sym e)
              (row_numbered (operators_of sheet) row) (omega arith));
          measured = refl;
          output = refl;
        }

    -- the whole part is the record, and what lies past it is as before
    pub build_done : {part : List ℕ} → m ≤ length out → part ≡ built (operators_of sheet) (closes_in sheet) row
        → AnswersBuild sheet row out (part ++ drop (m - 0) out) (record { number = accepted; length = m })
    unfolding row_number build_number
    build_done h same =
        let long : length (built (operators_of sheet) (closes_in sheet) row) ≡ m = built_length_accepted (closes_in sheet) (operators_of sheet) row
        (sym e) ∙ sym b in
        let ends : m - 0 ≡ length (built (operators_of sheet) (closes_in sheet) row) = omega (arith, long) in
        record {
          numbered = sym (first_roomy (row_checks (operators_of sheet) row) (record_bytes row) (length out) (sym e)
              (row_numbered (operators_of sheet) row) (omega arith));
          measured = sym long;
          output = ap₂ ◌++◌ same (ap (λ x. drop x out) ends);
        }

  pub few_tokens : accepted ≡ row_number (operators_of sheet) row → length row ≤ most_tokens
  few_tokens e = ((row_accepted (operators_of sheet) row).0 (sym e)).0

  pub can_build : accepted ≡ row_number (operators_of sheet) row → Buildable (operators_of sheet) (closes_in sheet) row
  can_build e = accepted_buildable (closes_in sheet) (operators_of sheet) row (sym e)

pub room_for_record : (row out : List ℕ) {m : ℕ} → m ≡ record_bytes row → m ≤ length out → length (take (m - 0) out) ≡ record_bytes row
room_for_record row out {m} b h = length-take-le (m - 0) out (omega arith) ∙ omega (arith, b)

pub ruleset build_row_ways = (build_short, build_done, few_tokens, can_build, room_for_record, rules)
