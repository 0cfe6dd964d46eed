-- What each way through explaining a sheet gives, from what is known on it. Assumes nothing.
use mathlib.Core.Path.{◌≡◌, refl, sym, ap, ap₂, ◌∙◌}
use mathlib.Core.List.{List, [], ◌∷◌, ◌++◌}
use Prim.Native.Nat.{ℕ, ◌<◌, ◌≤◌}
use native.Mathlib.Omega.{arith}
use borrow.Author.Tests.{ne_eqb}
use lib.ListN.{length, drop}
use Rattle.std.specs.Prelude.{Err}
use Rattle.expression.specs.Outcome.{number_of}
use Rattle.expression.specs.declared.refusal.Refusal.{Refusal}
use Rattle.expression.specs.Checks.{short_check}
use Rattle.expression.specs.Refusal.{first, accepted, short}
use Rattle.expression.proofs.Numbers.{first_refused, first_short, first_roomy}
use Rattle.disambiguation.specs.Rules.{L, R}
use Rattle.disambiguation.specs.SheetChecks.{rules_in, operators_in, order_checks}
use Rattle.disambiguation.specs.Witness.{witness, witness_of, witness_bytes}
use Rattle.relation.specs.Relation.{closes_in, turned}
use Rattle.relation.specs.Words.{operators_by}
use Rattle.relation.specs.Relating.{closes_words, yields_words}
use Rattle.sheet.specs.Loading.{ReadsSheet}
use Rattle.sheet.proofs.Ordered.{Ordered, order_numbered, operators_read, closes_read, yields_read}
use Rattle.sheet.proofs.Loading.{known, refusal_told}
use Rattle.record.specs.Outcome.{answer_of}
use Rattle.witness.specs.Explaining.{explained, Explains}
use Rattle.witness.proofs.SameWitness.{witness_same}

-- refused before anything is told
pub explain_order : (n : ℕ) (bytes out : List ℕ) (e : Refusal) → number_of e ≡ first (order_checks n bytes) → Explains n bytes out out (answer_of (Err e))
explain_order n bytes out e q =
    record {
      numbered = q ∙ sym (first_refused (order_checks n bytes) (short_check (length (explained n bytes)) (length out) ∷ []) (λ z. refusal_told e (q ∙ z)));
      measured = rw (ne_eqb (number_of e) accepted (refusal_told e));
      output = rw (ne_eqb (number_of e) accepted (refusal_told e));
    }

module _ (n : ℕ) (bytes t u out : List ℕ) {word m : ℕ} (count : m ≡ n) (reads : ReadsSheet n bytes 0 word t u) where
  order : Ordered n bytes
  order = known n bytes t u reads

  witness_is : witness (operators_by m word) (turned (closes_in u)) (closes_in t) ≡ witness_of (operators_in n bytes) (rules_in n bytes)
  witness_is =
      ap (λ k. witness (operators_by k word) (turned (closes_in u)) (closes_in t)) count
      ∙ ap₂ (λ (v x : List ℕ). witness (operators_by n word) (turned (closes_in v)) (closes_in x)) (reads.yields_is refl) (reads.closes_is refl)
      ∙ witness_same (operators_by n word) (turned (closes_in (yields_words n (rules_in n bytes)))) (L (rules_in n bytes))
      (closes_in (closes_words n (rules_in n bytes))) (R (rules_in n bytes))
      (yields_read n bytes order) (closes_read n bytes order)
      ∙ ap (λ ops. witness ops (L (rules_in n bytes)) (R (rules_in n bytes))) (ap (operators_by n) (reads.word_is refl) ∙ operators_read n bytes order)

  module _ {text told : List ℕ} (tells : text ≡ witness_bytes (witness (operators_by m word) (turned (closes_in u)) (closes_in t))) (shows : told ≡ text) where
    told_is : told ≡ explained n bytes
    unfolding explained
    told_is = shows ∙ tells ∙ ap witness_bytes witness_is

    pub explain_short : length out < length told → Explains n bytes out out (record { number = short; length = 0 })
    explain_short h =
        record {
          numbered =
              sym (first_short (order_checks n bytes) (length (explained n bytes)) (length out) (sym reads.number) (order_numbered n bytes)
              (omega (arith, ap length told_is)));
          measured = refl;
          output = refl;
        }

    pub explain_done : {after : List ℕ} → length told ≤ length out → after ≡ told ++ drop (length told) out
        → Explains n bytes out after (record { number = accepted; length = length told })
    explain_done enough copied =
        record {
          numbered =
              sym (first_roomy (order_checks n bytes) (length (explained n bytes)) (length out) (sym reads.number) (order_numbered n bytes)
              (omega (arith, ap length told_is)));
          measured = ap length told_is;
          output = copied ∙ ap (λ d. d ++ drop (length d) out) told_is;
        }
