-- What each way through the walk gives, by the byte that it reads. Assumes nothing.
use Prim.Native.Nat.{ℕ, ◌+◌, ◌-◌, ◌*◌, ◌≤◌, ◌<◌}
use native.Mathlib.Decide.{dec_lt}
use native.Mathlib.Omega.{arith}
use mathlib.Core.Path.{◌≡◌, ap, ap₂, sym, ◌∙◌}
use mathlib.Core.Bool.{false}
use mathlib.Core.List.{List}
use mathlib.Core.Option.{Option, none, some}
use lib.IntN.{ℤ, pos}
use lib.ListN.{length, get_or, get_or-eq_default}
use borrow.Author.Rules.{rules}
use borrow.Author.Tests.{leb-false}
use mir.Syntax.{w32, w64}
use mir.Val.{Fits, SFits, to_z, of_z}
use mir.Facts.{to_z-of_z}
use Rattle.expression.specs.Token.{opening, first_reading, Operators}
use Rattle.expression.specs.Tree.{Tree, binary}
use Rattle.expression.proofs.Tests.{both_false}
use Rattle.record.specs.TreeAt.{TreeAt}
use Rattle.record.proofs.Trees.{ends_within}
use Rattle.record.proofs.Standing.{onward}
use Rattle.meanings.specs.Meanings.{Meaning, PrefixMeaning, meant, prefix_meant, applied_to, worked, worked_on}
use Rattle.evaluator.specs.Value.{value, lacks_meaning, lacks_reading}
use Rattle.evaluator.specs.Walk.{Evaluable, Values, IsValue}
use Rattle.evaluator.proofs.TreeByByte.{operands_meant, operand_meant, small_byte, is_leaf, is_bracket_lem, is_numbered, is_infix_lem, is_prefix_lem}

-- a number as it is read back from its bits
abbrev read : ℤ → ℤ
read z = to_z w32 (of_z w32 z)

-- what falls: the bytes from a place on, twice, since a node may be entered as an operand first
abbrev pub node_due : List ℕ → ℕ → ℕ
node_due bytes from = 2 * (length bytes - from)

abbrev pub operand_due : List ℕ → ℕ → ℕ
operand_due bytes from = 2 * (length bytes - from) + 1

module _ {bytes lent : List ℕ} {readings : List ℤ} {from : ℕ} (p : Evaluable bytes lent readings from) where
  pub inside : from < length bytes
  inside = omega (arith, ends_within p.ops bytes from p.tree p.to p.stands, onward p.ops bytes from p.tree p.stands)

  pub next_fits : Fits w64 (from + 1)
  next_fits = omega (arith, inside, p.short)

  pub node_falls : {t : ℕ} → operand_due bytes from ≡ t → node_due bytes from < t
  node_falls e = omega arith

  pub next_falls : {t : ℕ} → node_due bytes from ≡ t → operand_due bytes (from + 1) < t
  next_falls e = omega (arith, inside)

  pub byte_fits : Fits w64 (get_or bytes from 0)
  byte_fits = omega (arith, small_byte p.ops bytes from p.tree p.stands)

  -- a reading
  module _ (h : first_reading ≤ get_or bytes from 0) where
    pub index_fits : Fits w64 (get_or bytes from 0 - first_reading)
    index_fits = omega (arith, small_byte p.ops bytes from p.tree p.stands)

    pub offset_fits : Fits w64 ((get_or bytes from 0 - first_reading) * 4)
    offset_fits = omega (arith, small_byte p.ops bytes from p.tree p.stands)

    pub index_inside : get_or bytes from 0 - first_reading < length readings
    index_inside =
        let (e, _) = is_leaf p.ops bytes from h p.tree p.stands in
        leb-false (length readings) (get_or bytes from 0 - first_reading) (ap (lacks_reading readings) (sym e) ∙ p.read)

    pub leaf_value : {r : ℤ} → r ≡ get_or readings (get_or bytes from 0 - first_reading) (pos 0) → Values bytes lent readings from (from + 1) r
    leaf_value e =
        record {
          valued = λ ops t end x _.
              let (u, q) = is_leaf ops bytes from h t x in
              (sym q, e ∙ ap (value lent readings) (sym u));
        }

  -- a node, entered as an operand
  pub node_value : {to : ℕ} {r : ℤ} → SFits w32 r → Values bytes lent readings from to r → Values bytes lent readings from to (read r)
  node_value f v = record { valued = λ ops t end x m. let (a, b) = v.valued ops t end x m in (a, to_z-of_z f ∙ b) }

  -- a bracket
  module _ (h : get_or bytes from 0 ≡ opening) where
    pub inner_evaluable : Evaluable bytes lent readings (from + 1)
    inner_evaluable =
        let (u, e, x) = is_bracket_lem p.ops bytes from h p.tree p.stands in
        record {
          short = p.short;
          ops = p.ops;
          tree = u;
          to = p.to;
          stands = x;
          meant = ap (lacks_meaning lent) (sym e) ∙ p.meant;
          read = ap (lacks_reading readings) (sym e) ∙ p.read;
        }

    pub inner_value : {to : ℕ} {r : ℤ} → SFits w32 r → Values bytes lent readings (from + 1) to r → Values bytes lent readings from to (read r)
    inner_value {to} {r} f v =
        record {
          valued = λ ops t end x m.
              let (u, e, y) = is_bracket_lem ops bytes from h t x in
              let (a, b) = v.valued ops u end y (ap (lacks_meaning lent) (sym e) ∙ m) in
              (a, to_z-of_z f ∙ b ∙ ap (value lent readings) (sym e));
        }

  -- an operator
  module _ (h : get_or bytes from 0 < first_reading) (n : get_or bytes from 0 ≡ opening → ⊥) where
    pub operator_inside : get_or bytes from 0 < length lent
    operator_inside = go (dec_lt (get_or bytes from 0) (length lent))
      where
        go : Dec (get_or bytes from 0 < length lent) → get_or bytes from 0 < length lent
        go (yes l) = l
        go (no l) = absurd (omega (arith, is_numbered p.ops bytes from h n lent p.tree p.stands p.meant, get_or-eq_default lent 0 {n = get_or bytes from 0} (omega arith)))

    -- a prefix operator, and the operand behind it
    module _ {said : PrefixMeaning} (k : prefix_meant (get_or lent (get_or bytes from 0) 0) ≡ some said) where
      pub operand_evaluable : Evaluable bytes lent readings (from + 1)
      operand_evaluable =
          let (u, e, x) = is_prefix_lem p.ops bytes from h n lent k p.tree p.stands p.meant in
          record {
            short = p.short;
            ops = p.ops;
            tree = u;
            to = p.to;
            stands = x;
            meant = (operand_meant lent (get_or bytes from 0) u (ap (lacks_meaning lent) (sym e) ∙ p.meant)).1;
            read = ap (lacks_reading readings) (sym e) ∙ p.read;
          }

      pub prefix_value : {to : ℕ} {v r : ℤ} → Values bytes lent readings (from + 1) to v → SFits w32 v → SFits w32 r
          → r ≡ applied_to said (read v) → Values bytes lent readings from to (read r)
      prefix_value {to} {v} {r} first fv fr q =
          record {
            valued = λ ops t end x m.
                let (u, e, y) = is_prefix_lem ops bytes from h n lent k t x m in
                let (i, j) = first.valued ops u end y (operand_meant lent (get_or bytes from 0) u (ap (lacks_meaning lent) (sym e) ∙ m)).1 in
                (i, to_z-of_z fr ∙ q ∙ ap (applied_to said) (to_z-of_z fv ∙ j) ∙ ap (λ w. worked_on w (value lent readings u)) (sym k) ∙ ap (value lent readings) (sym e));
          }

    -- an infix operator, and the operands behind it
    module _ (k : prefix_meant (get_or lent (get_or bytes from 0) 0) ≡ none) where
      pub left_evaluable : Evaluable bytes lent readings (from + 1)
      left_evaluable =
          let (l, r, mid, e, x, y) = is_infix_lem p.ops bytes from h n lent k p.tree p.stands p.meant in
          let (_, a, _) = operands_meant lent (get_or bytes from 0) l r (ap (lacks_meaning lent) (sym e) ∙ p.meant) in
          let (b, _) = both_false (lacks_reading readings l) (lacks_reading readings r) (ap (lacks_reading readings) (sym e) ∙ p.read) in
          record { short = p.short; ops = p.ops; tree = l; to = mid; stands = x; meant = a; read = b }

      module _ {mid : ℕ} {v : ℤ} (first : Values bytes lent readings (from + 1) mid v) where
        -- the place after the left operand
        after_left : (ops : Operators) (l r : Tree) {m : ℕ} → lacks_meaning lent (binary (get_or bytes from 0) l r) ≡ false → TreeAt ops bytes (from + 1) l m
            → (mid ≡ m) × (v ≡ value lent readings l)
        after_left ops l r {m} lacks x = first.valued ops l m x (operands_meant lent (get_or bytes from 0) l r lacks).1

        pub right_falls : {t : ℕ} → node_due bytes from ≡ t → operand_due bytes mid < t
        right_falls q =
            let (l, r, m, e, x, y) = is_infix_lem p.ops bytes from h n lent k p.tree p.stands p.meant in
            omega (arith, inside, (after_left p.ops l r (ap (lacks_meaning lent) (sym e) ∙ p.meant) x).0, onward p.ops bytes (from + 1) l x)

        pub right_evaluable : Evaluable bytes lent readings mid
        right_evaluable =
            let (l, r, m, e, x, y) = is_infix_lem p.ops bytes from h n lent k p.tree p.stands p.meant in
            let lacks = ap (lacks_meaning lent) (sym e) ∙ p.meant in
            let (_, _, a) = operands_meant lent (get_or bytes from 0) l r lacks in
            let (_, b) = both_false (lacks_reading readings l) (lacks_reading readings r) (ap (lacks_reading readings) (sym e) ∙ p.read) in
            record { short = p.short; ops = p.ops; tree = r; to = p.to; stands = rw (sym (after_left p.ops l r lacks x).0) at y; meant = a; read = b }

        pub infix_value : {to : ℕ} {w r : ℤ} → Values bytes lent readings mid to w → SFits w32 v → SFits w32 w → SFits w32 r
            → {said : Option Meaning} → meant (get_or lent (get_or bytes from 0) 0) ≡ said → r ≡ worked said (read v) (read w) → Values bytes lent readings from to (read r)
        infix_value {to} {w} {r} second fv fw fr {said} s q =
            record {
              valued = λ ops t end x lacks.
                  let (l, i, m, e, a, b) = is_infix_lem ops bytes from h n lent k t x lacks in
                  let none = ap (lacks_meaning lent) (sym e) ∙ lacks in
                  let (c, d) = after_left ops l i none a in
                  let (c2, d2) = second.valued ops i end (rw (sym c) at b) (operands_meant lent (get_or bytes from 0) l i none).2 in
                  (c2, to_z-of_z fr ∙ q ∙ ap₂ (worked said) (to_z-of_z fv ∙ d) (to_z-of_z fw ∙ d2) ∙ ap (λ w. worked w (value lent readings l) (value lent readings i)) (sym s) ∙ ap (value lent readings) (sym e));
            }

-- ---- the whole record
pub leaf_is : {bytes lent : List ℕ} {readings : List ℤ} {r : ℤ} → Evaluable bytes lent readings 0 → first_reading ≤ get_or bytes 0 0
    → r ≡ get_or readings (get_or bytes 0 0 - first_reading) (pos 0) → IsValue bytes lent readings r
leaf_is p h e = record { valued = λ ops t end x m. ((leaf_value p h e).valued ops t end x m).1 }

pub node_is : {bytes lent : List ℕ} {readings : List ℤ} {to : ℕ} {r : ℤ} → SFits w32 r → Values bytes lent readings 0 to r → IsValue bytes lent readings (read r)
node_is f v = record { valued = λ ops t end x m. to_z-of_z f ∙ (v.valued ops t end x m).1 }

pub ruleset whole_ways = (inside, index_fits, offset_fits, index_inside, leaf_is, node_is, rules)

pub ruleset walk_ways =
    (inside, next_fits, node_falls, next_falls, byte_fits, index_fits, offset_fits, index_inside, leaf_value, node_value, inner_evaluable, inner_value, operator_inside, operand_evaluable, prefix_value, left_evaluable, right_falls, right_evaluable, infix_value, rules)
