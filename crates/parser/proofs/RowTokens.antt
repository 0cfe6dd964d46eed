-- The token at a place of a row, and the scan over it. Assumes nothing.
use mathlib.Core.Path.{◌≡◌, refl, ap, ◌∙◌}
use mathlib.Core.Bool.{false}
use mathlib.Core.List.{List, ◌∷◌}
use Prim.Native.Nat.{ℕ, suc, ◌+◌, ◌<◌, ◌≤◌}
use native.Mathlib.Omega.{arith}
use native.Mathlib.Decide.{dec_lt}
use native.Mathlib.Numerals.{add-one}
use lib.ListN.{length, get_or, drop, drop_of_length-le}
use lib.Seq.{drop-cons}
use borrow.Author.Tests.{lt-ltb, le-ltb}
use Rattle.std.specs.Prelude.{Some, None}
use Rattle.expression.specs.Token.{Class, Operators, class}
use Rattle.expression.specs.Token as token
use Rattle.expression.specs.RowTest.{Progress, due, done, wrong, where_due, where_done, complete, advance, scan}
use Rattle.expression.proofs.Strangers.{scan_wrong}
use Rattle.parser.specs.Rows.{token_of, token_at, Refuses}
use Rattle.parser.specs.declared.row.Token.{Token}
use Rattle.parser.specs.declared.row.Token.TheVariants.{Operator, Prefix, Opening, Closing, Reading}

-- the class that a token is of
abbrev pub class_of : Token → Class
class_of Operator = token.Infix
class_of Prefix = token.Prefix
class_of Opening = token.Opening
class_of Closing = token.Closing
class_of Reading = token.Reading

is_class : (x : Class) (t : Token) → token_of x ≡ Some t → x ≡ class_of t
is_class token.Infix t e = let same : Operator ≡ t = cc in ap class_of same
is_class token.Prefix t e = let same : Prefix ≡ t = cc in ap class_of same
is_class token.Opening t e = let same : Opening ≡ t = cc in ap class_of same
is_class token.Closing t e = let same : Closing ≡ t = cc in ap class_of same
is_class token.Reading t e = let same : Reading ≡ t = cc in ap class_of same
is_class token.Meaningless t e = cc

module _ (ops : Operators) (row : List ℕ) (at : ℕ) where
  -- What stands at a place: a token of its class, before the rest of the row.
  pub record Found (t : Token) : Type 0 where
    pub inside : at < length row
    pub class_is : class ops (get_or row at 0) ≡ class_of t
    pub splits : drop at row ≡ get_or row at 0 ∷ drop (at + 1) row

  rest : at < length row → drop at row ≡ get_or row at 0 ∷ drop (at + 1) row
  rest h = rw (drop-cons row at 0 h, add-one)

  pub found : {t : Token} → token_at ops row at ≡ Some t → Found t
  unfolding token_at
  found {t} e = go (dec_lt at (length row))
    where
      go : Dec (at < length row) → Found t
      go (yes h) = record { inside = h; class_is = is_class (class ops (get_or row at 0)) t (rw (lt-ltb at (length row) h) at e); splits = rest h }
      go (no h) = let none : None ≡ Some t = rw (le-ltb at (length row) (omega arith)) at e in cc

  -- a token of that class stands there
  pub stands : (t : Token) → at < length row → class ops (get_or row at 0) ≡ class_of t → token_of (class_of t) ≡ Some t → token_at ops row at ≡ Some t
  unfolding token_at
  stands t h e q = rw (lt-ltb at (length row) h) (ap token_of e ∙ q)

  -- the scan over the token at a place
  pub scan_on : at < length row → (p : Progress) → scan (class ops) p (drop at row)
      ≡ scan (class ops) (advance (class ops) p (get_or row at 0)) (drop (at + 1) row)
  scan_on h p = ap (scan (class ops) p) (rest h)

  pub scan_found : {t : Token} → Found t → (p : Progress) → scan (class ops) p (drop at row)
      ≡ scan (class ops) (advance (class ops) p (get_or row at 0)) (drop (at + 1) row)
  scan_found f p = scan_on f.inside p

  -- a token where none such may stand
  goes_wrong : at < length row → (p : Progress) → advance (class ops) p (get_or row at 0) ≡ wrong → complete (scan (class ops) p (drop at row)) ≡ false
  goes_wrong h p e =
      ap complete (scan_on h p ∙ ap (λ q. scan (class ops) q (drop (at + 1) row)) e ∙ scan_wrong (class ops) (drop (at + 1) row))

  -- an operand begins with a reading, an opening bracket or a prefix operator
  pub none_begins : (token_at ops row at ≡ Some Reading → ⊥) → (token_at ops row at ≡ Some Opening → ⊥) → (token_at ops row at ≡ Some Prefix → ⊥)
      → Refuses ops row at
  none_begins r o p = record { refused = λ d. go d (dec_lt at (length row)) }
    where
      wrong_here : (d : ℕ) → at < length row → (k : Class) → class ops (get_or row at 0) ≡ k → complete (scan (class ops) (due d) (drop at row)) ≡ false
      wrong_here d h token.Infix e = goes_wrong h (due d) (ap (λ x. where_due x d) e)
      wrong_here d h token.Prefix e = absurd (p (stands Prefix h e refl))
      wrong_here d h token.Opening e = absurd (o (stands Opening h e refl))
      wrong_here d h token.Closing e = goes_wrong h (due d) (ap (λ x. where_due x d) e)
      wrong_here d h token.Reading e = absurd (r (stands Reading h e refl))
      wrong_here d h token.Meaningless e = goes_wrong h (due d) (ap (λ x. where_due x d) e)

      go : (d : ℕ) → Dec (at < length row) → complete (scan (class ops) (due d) (drop at row)) ≡ false
      go d (yes h) = wrong_here d h (class ops (get_or row at 0)) refl
      go d (no h) = let past : length row ≤ at = omega arith in rw (drop_of_length-le row past)

  -- inside a bracket, a row goes on with an operator or a closing bracket
  pub open_ends : (token_at ops row at ≡ Some Operator → ⊥) → (token_at ops row at ≡ Some Closing → ⊥) → (d : ℕ)
      → complete (scan (class ops) (done (suc d)) (drop at row)) ≡ false
  open_ends o c d = go (dec_lt at (length row))
    where
      wrong_here : at < length row → (k : Class) → class ops (get_or row at 0) ≡ k → complete (scan (class ops) (done (suc d)) (drop at row)) ≡ false
      wrong_here h token.Infix e = absurd (o (stands Operator h e refl))
      wrong_here h token.Prefix e = goes_wrong h (done (suc d)) (ap (λ x. where_done x (suc d)) e)
      wrong_here h token.Opening e = goes_wrong h (done (suc d)) (ap (λ x. where_done x (suc d)) e)
      wrong_here h token.Closing e = absurd (c (stands Closing h e refl))
      wrong_here h token.Reading e = goes_wrong h (done (suc d)) (ap (λ x. where_done x (suc d)) e)
      wrong_here h token.Meaningless e = goes_wrong h (done (suc d)) (ap (λ x. where_done x (suc d)) e)

      go : Dec (at < length row) → complete (scan (class ops) (done (suc d)) (drop at row)) ≡ false
      go (yes h) = wrong_here h (class ops (get_or row at 0)) refl
      go (no h) = let past : length row ≤ at = omega arith in rw (drop_of_length-le row past)

  -- outside of brackets it ends, or goes on with an operator
  pub row_ends : (token_at ops row at ≡ Some Operator → ⊥) → at < length row → complete (scan (class ops) (done 0) (drop at row)) ≡ false
  row_ends o h = go (class ops (get_or row at 0)) refl
    where
      go : (k : Class) → class ops (get_or row at 0) ≡ k → complete (scan (class ops) (done 0) (drop at row)) ≡ false
      go token.Infix e = absurd (o (stands Operator h e refl))
      go token.Prefix e = goes_wrong h (done 0) (ap (λ x. where_done x 0) e)
      go token.Opening e = goes_wrong h (done 0) (ap (λ x. where_done x 0) e)
      go token.Closing e = goes_wrong h (done 0) (ap (λ x. where_done x 0) e)
      go token.Reading e = goes_wrong h (done 0) (ap (λ x. where_done x 0) e)
      go token.Meaningless e = goes_wrong h (done 0) (ap (λ x. where_done x 0) e)
