-- What each way through `token_of` and `token_at` gives, from what is known on it. Assumes nothing.
use mathlib.Core.Path.{◌≡◌, sym, ap, subst, ◌∙◌}
use mathlib.Core.Bool.{Bool, true, false, cond, true≢false}
use mathlib.Core.List.{List}
use Prim.Native.Nat.{ℕ, ◌<◌, ◌≤◌}
use native.Mathlib.Omega.{arith}
use native.Mathlib.Decide.{dec_lt, ℕ_discrete}
use mir.Val.{Fits}
use mir.Syntax.{w8}
use lib.ListN.{length, get_or}
use lib.Dec.{ltb}
use borrow.Author.Tests.{lt-ltb, le-ltb, ltb-true, ne_eqb}
use Rattle.std.proofs.lemmas.List.{get_or_default}
use borrow.Author.Rules.{rules}
use Rattle.std.specs.Prelude.{Some, None}
use Rattle.expression.specs.Limits.{most_operators}
use Rattle.expression.specs.Token.{Infix, Prefix, opening, closing, first_reading, last_reading, Operators, class}
use Rattle.expression.specs.Checks.{strange_in_row}
use Rattle.expression.proofs.Tests.{none_at}
use Rattle.sheet.specs.Layout.{operators_of, prefix_in}
use Rattle.sheet.proofs.Laws.{class_in}
use Rattle.parser.specs.Rows.{token_of, token_at, stranger_in_row}
use Rattle.parser.specs.declared.row.Token.{Token}
use Rattle.parser.specs.declared.row.Token.TheVariants as token
use Rattle.parser.specs.declared.row.Token.TheVariants.{Operator, Opening, Closing, Reading}

module _ (ops : Operators) (c : ℕ) where
  pub is_reading : Fits w8 c → first_reading ≤ c → Some Reading ≡ token_of (class ops c)
  unfolding class
  is_reading f h =
      simp (
        le-ltb c most_operators (omega arith),
        ne_eqb c opening (λ e. omega arith),
        ne_eqb c closing
            (λ e. omega arith),
        le-ltb c first_reading h,
        le-ltb last_reading c (omega arith),
      )

  -- an operator that is no stranger is below n
  known_below : strange_in_row (class ops c) ≡ false → c < most_operators → c < ops.count
  unfolding class
  known_below known h = go (dec_lt c ops.count)
    where
      go : Dec (c < ops.count) → c < ops.count
      go (yes g) = g
      go (no g) = absurd (true≢false (sym (simp (lt-ltb c most_operators h, le-ltb c ops.count (omega arith))) ∙ known))

  pub is_opening_lem : c ≡ opening → Some Opening ≡ token_of (class ops c)
  unfolding class
  is_opening_lem h = rw h

  -- what else is no stranger is a closing bracket
  pub is_closing_lem : strange_in_row (class ops c) ≡ false → c < first_reading → most_operators ≤ c → (c ≡ opening → ⊥) → Some Closing ≡ token_of (class ops c)
  unfolding class
  is_closing_lem known h g o = go (ℕ_discrete c closing)
    where
      go : Dec (c ≡ closing) → Some Closing ≡ token_of (class ops c)
      go (yes s) = rw s
      go (no s) = absurd (true≢false (sym (simp (le-ltb c most_operators g, ne_eqb c opening o, ne_eqb c closing s, lt-ltb c first_reading h)) ∙ known))

-- an operator of a sheet, infix or prefix
module _ (sheet : List ℕ) (c : ℕ) {p : Bool} (known : strange_in_row (class (operators_of sheet) c) ≡ false)
    (h : c < most_operators) (kind : p ≡ prefix_in sheet c) where
  of_kind : class (operators_of sheet) c ≡ cond p Prefix Infix
  of_kind = class_in sheet c h (known_below (operators_of sheet) c known h) ∙ ap (λ q. cond q Prefix Infix) (sym kind)

  pub is_prefix_lem : p ≡ true → Some token.Prefix ≡ token_of (class (operators_of sheet) c)
  is_prefix_lem z = sym (ap token_of (of_kind ∙ ap (λ q. cond q Prefix Infix) z))

  pub is_operator_lem : p ≡ false → Some Operator ≡ token_of (class (operators_of sheet) c)
  is_operator_lem z = sym (ap token_of (of_kind ∙ ap (λ q. cond q Prefix Infix) z))

pub ruleset token_of_ways = (is_reading, is_prefix_lem, is_operator_lem, is_opening_lem, is_closing_lem, rules)

module _ (ops : Operators) (row : List ℕ) (at : ℕ) where
  pub is_end_lem : length row ≤ at → None ≡ token_at ops row at
  unfolding token_at
  is_end_lem h = simp (le-ltb at (length row) h)

  pub is_token : {t : Token} → at < length row → Some t ≡ token_of (class ops (get_or row at 0)) → Some t ≡ token_at ops row at
  unfolding token_at
  is_token h e = e ∙ simp (lt-ltb at (length row) h)

pub token_known : (ops : Operators) (row : List ℕ) (at : ℕ) → stranger_in_row ops row ≡ false → at < length row
    → strange_in_row (class ops (get_or row at 0)) ≡ false
unfolding stranger_in_row
token_known ops row at known h = none_at (λ c. strange_in_row (class ops c)) row known at h

-- the same of what is read at a place
pub read_known : (ops : Operators) (row : List ℕ) (at : ℕ) {x : ℕ} → stranger_in_row ops row ≡ false → true ≡ ltb at (length row)
    → x ≡ get_or row at x → strange_in_row (class ops x) ≡ false
read_known ops row at {x} known inside is =
    let here : at < length row = ltb-true at (length row) (sym inside) in
    subst (λ c. strange_in_row (class ops c) ≡ false) (sym (is ∙ get_or_default row at x 0 here)) (token_known ops row at known here)

pub ruleset token_at_ways = (is_end_lem, is_token, token_known, rules)
