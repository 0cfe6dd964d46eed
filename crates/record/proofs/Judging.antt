-- What each way through `judge` gives. Assumes nothing.
use Prim.Native.Nat.{ℕ, ◌≤◌, ◌<◌}
use native.Mathlib.Omega.{arith}
use Rattle.std.specs.Prelude.{Option, Some, None}
use mathlib.Core.Path.{◌≡◌, refl, ap, sym, ◌∙◌}
use mathlib.Core.Option.{some}
use mathlib.Core.List.{List}
use lib.ListN.{length}
use borrow.Author.Rules.{rules}
use borrow.Author.Tests.{ne_eqb}
use Rattle.expression.specs.Limits.{most_tokens, most_record_bytes}
use Rattle.expression.specs.Refusal.{accepted, oversize}
use Rattle.expression.specs.Outcome.{number_of}
use Rattle.expression.specs.Token.{class}
use Rattle.expression.specs.Tree.{Tree}
use Rattle.expression.specs.Decode.{tree_of}
use Rattle.expression.specs.Checks.{record_number}
use Rattle.expression.specs.declared.refusal.Refusal.{Refusal}
use Rattle.expression.specs.declared.refusal.Refusal.TheVariants.{Oversize}
use Rattle.sheet.specs.Layout.{operators_of}
use Rattle.record.specs.Front.{front}
use Rattle.record.specs.Checks.{row_length}
use Rattle.record.specs.Counts.{conflicts_in, Counts}
use Rattle.record.specs.Answers.{judgement}
use Rattle.record.proofs.Standing.{read_back}
use Rattle.record.proofs.Numbering as numbering
use Rattle.record.proofs.Holding.{front_all}
use Rattle.record.proofs.Accepted.{accepted_tree}
use Rattle.record.proofs.Counting.{alone}

module _ (sheet bytes : List ℕ) where
  refused : {n : ℕ} → n ≡ record_number (operators_of sheet) bytes → (n ≡ accepted → ⊥) → record { number = n; count = 0 } ≡ judgement sheet bytes
  unfolding judgement
  refused {n} known h = rw (← known, ne_eqb n accepted h)

  pub too_long : {r : Refusal} → (r ≡ Oversize) × (most_record_bytes < length bytes) → record { number = number_of r; count = 0 } ≡ judgement sheet bytes
  too_long (e, h) = rw e (refused (numbering.too_long (operators_of sheet) bytes h) (λ z. omega arith))

  module _ {r : Option ℕ} {count : ℕ} (h : Counts sheet (front (length bytes) bytes) 0 None None 0 r count) where
    on_bytes : Counts sheet bytes 0 None None 0 r count
    on_bytes = rw (front_all bytes) at h

    pub not_accepted : (r ≡ Some (length bytes) → ⊥) → record_number (operators_of sheet) bytes ≡ accepted → ⊥
    not_accepted n e = let (t, a) = accepted_tree (operators_of sheet) bytes e in n (on_bytes.counted t (length bytes) a.stands).0

    pub flawed : {n : ℕ} → (r ≡ Some (length bytes) → ⊥) → n ≡ record_number (operators_of sheet) bytes → record { number = n; count = 0 } ≡ judgement sheet bytes
    flawed n e = refused e (λ z. not_accepted n (sym e ∙ z))

    module _ (fits : length bytes ≤ most_record_bytes) {tokens : ℕ} (all : r ≡ Some (length bytes)) (row : tokens ≡ row_length bytes) where
      the_tree : (t : Tree) × (tree_of (class (operators_of sheet)) bytes ≡ some t)
      the_tree = let (t, x) = on_bytes.found (length bytes) all in (t, read_back (operators_of sheet) bytes t x refl)

      pub row_too_long : most_tokens < tokens → record { number = oversize; count = 0 } ≡ judgement sheet bytes
      row_too_long l = let (t, read) = the_tree in refused (numbering.long_number (operators_of sheet) bytes fits t read row l) (λ z. omega arith)

      pub judged : tokens ≤ most_tokens → record { number = accepted; count = count } ≡ judgement sheet bytes
      unfolding judgement
      judged l =
          let (t, x) = on_bytes.found (length bytes) all in
          let read = read_back (operators_of sheet) bytes t x refl in
          let known = numbering.read_number (operators_of sheet) bytes fits t read row l in
          let c : count ≡ conflicts_in sheet t = omega (arith, (on_bytes.counted t (length bytes) x).1, alone sheet t) in
          rw (sym known, read) (ap (λ n. record { number = accepted; count = n }) c)

pub ruleset judge_ways = (too_long, not_accepted, flawed, row_too_long, judged, rules)
