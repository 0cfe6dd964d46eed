-- What each way through the readers of expressions and operands gives, from what is known on it. Assumes nothing.
use mathlib.Core.Path.{◌≡◌, sym, ap, ◌∙◌}
use mathlib.Core.List.{List}
use Prim.Native.Nat.{ℕ, suc, ◌+◌, ◌<◌, ◌≤◌}
use native.Mathlib.Omega.{arith}
use mir.Val.{Fits}
use mir.Syntax.{w8}
use lib.ListN.{length, get_or, drop}
use Rattle.std.specs.Prelude.{None, Some}
use Rattle.expression.specs.Token.{first_reading, Operators, class}
use Rattle.expression.specs.RowTest.{due, done, where_due, where_done, complete, scan}
use Rattle.parser.specs.Rows.{token_at, Passes, Continues, Refuses, Ends, ReadsOperand}
use Rattle.parser.specs.declared.row.Token.{Token}
use Rattle.parser.specs.declared.row.Token.TheVariants.{Operator, Prefix, Opening, Closing, Reading}
use Rattle.parser.proofs.TokenWays.{is_reading, is_token}
use Rattle.parser.proofs.RowTokens.{found, scan_found, none_begins, open_ends}

module _ (ops : Operators) (row : List ℕ) where
  pub token_inside : (at : ℕ) {t : Token} → token_at ops row at ≡ Some t → at < length row
  token_inside at e = (found ops row at e).inside

  pub here_is : (at : ℕ) {t u : Token} → Some t ≡ token_at ops row at → t ≡ u → token_at ops row at ≡ Some u
  here_is at e f = sym e ∙ ap Some f

  -- ---- operand_end
  module _ (at : ℕ) where
    pub none_read : None ≡ token_at ops row at → ReadsOperand ops row at None
    none_read e p = none_begins ops row at (λ r. let clash = e ∙ r in cc) (λ o. let clash = e ∙ o in cc) p

    pub other_read : {t : Token} → Some t ≡ token_at ops row at → (t ≡ Reading → ⊥) → (t ≡ Opening → ⊥) → ReadsOperand ops row at None
    other_read {t} e r o p =
        none_begins ops row at (λ q. let same : Some t ≡ Some Reading = e ∙ q in r (cc)) (λ q. let same : Some t ≡ Some Opening = e ∙ q in o (cc)) p

    pub operand_reading : token_at ops row at ≡ Some Reading → Passes ops row at (at + 1)
    operand_reading e =
        let g = found ops row at e in
        record {
          onward = omega arith;
          inside = omega (arith, g.inside);
          same = λ d. scan_found ops row at g (due d) ∙ ap (λ x. scan (class ops) (where_due x d) (drop (at + 1) row)) g.class_is;
        }

    module _ (e : token_at ops row at ≡ Some Opening) where
      -- into the bracket
      enters : (d : ℕ) → scan (class ops) (due d) (drop at row) ≡ scan (class ops) (due (suc d)) (drop (at + 1) row)
      enters d = let g = found ops row at e in scan_found ops row at g (due d) ∙ ap (λ x. scan (class ops) (where_due x d) (drop (at + 1) row)) g.class_is

      pub inner_refused : Refuses ops row (at + 1) → Refuses ops row at
      inner_refused r = record { refused = λ d. ap complete (enters d) ∙ r.refused (suc d) }

      pub operand_closed : {next : ℕ} → Ends ops row (at + 1) next → token_at ops row next ≡ Some Closing → Passes ops row at (next + 1)
      operand_closed {next} h c =
          let k = found ops row next c in
          record {
            onward = omega (arith, h.passes.onward);
            inside = omega (arith, k.inside);
            same = λ d.
                enters d ∙ h.passes.same (suc d) ∙ scan_found ops row next k (done (suc d))
                ∙ ap (λ x. scan (class ops) (where_done x (suc d)) (drop (next + 1) row)) k.class_is;
          }

      pub operand_unclosed : {next : ℕ} → Ends ops row (at + 1) next → (token_at ops row next ≡ Some Closing → ⊥) → Refuses ops row at
      operand_unclosed {next} h c = record { refused = λ d. ap complete (enters d ∙ h.passes.same (suc d)) ∙ open_ends ops row next h.stops c d }

  -- ---- pairs_end
  pub led : {at from next : ℕ} → Continues ops row at from → Continues ops row from next → Continues ops row at next
  led l k = record { onward = omega (arith, l.onward, k.onward); inside = k.inside; same = λ d. l.same d ∙ k.same d }

  -- past a prefix operator
  past_prefix : (at : ℕ) → token_at ops row at ≡ Some Prefix → Continues ops row at (at + 1)
  past_prefix at e =
      let g = found ops row at e in
      record {
        onward = omega arith;
        inside = omega (arith, g.inside);
        same = λ d. scan_found ops row at g (due d) ∙ ap (λ x. scan (class ops) (where_due x d) (drop (at + 1) row)) g.class_is;
      }

  -- past an operand and the infix operator that follows
  past_operator : (at : ℕ) {next : ℕ} → Passes ops row at next → token_at ops row next ≡ Some Operator → Continues ops row at (next + 1)
  past_operator at {next} p e =
      let k = found ops row next e in
      record {
        onward = omega (arith, p.onward);
        inside = omega (arith, k.inside);
        same = λ d. p.same d ∙ scan_found ops row next k (done d) ∙ ap (λ x. scan (class ops) (where_done x d) (drop (next + 1) row)) k.class_is;
      }

  pub pair_led : {at next : ℕ} → Continues ops row at next → Fits w8 (get_or row next 0) → next + 1 < length row → first_reading ≤ get_or row next 0
      → token_at ops row (next + 1) ≡ Some Operator → Continues ops row at (next + 2)
  pair_led {at} {next} l fits h reads e =
      let inside : next < length row = omega arith in
      let reading = sym (is_token ops row next inside (is_reading ops (get_or row next 0) fits reads)) in
      let two : next + 1 + 1 ≡ next + 2 = omega arith in
      led l (rw two at (past_operator next (operand_reading next reading) e))

  -- ---- expression_end, from a place that the pairs lead on to
  module _ {at from : ℕ} (l : Continues ops row at from) where
    pub prefix_led : token_at ops row from ≡ Some Prefix → Continues ops row at (from + 1)
    prefix_led e = led l (past_prefix from e)

    pub operator_led : {next : ℕ} → Passes ops row from next → token_at ops row next ≡ Some Operator → Continues ops row at (next + 1)
    operator_led p e = led l (past_operator from p e)
