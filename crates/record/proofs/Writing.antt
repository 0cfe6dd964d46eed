-- What each step of `write_row` gives. Assumes nothing.
use Prim.Native.Nat.{ℕ, suc, ◌+◌, ◌-◌, ◌<◌, ◌≤◌}
use native.Mathlib.Omega.{arith}
use Rattle.std.specs.Prelude.{Option, Some, None}
use mathlib.Core.Path.{◌≡◌, refl, ap, sym, ◌∙◌}
use mathlib.Core.List.{List, [], ◌∷◌, ◌++◌, append_assoc}
use lib.ListN.{length, length-append}
use borrow.Author.Rules.{rules}
use Rattle.expression.specs.Limits.{most_tokens}
use Rattle.expression.specs.Token.{opening, closing, Operators}
use Rattle.expression.specs.Tree.{Tree, reading, bracket, binary, prefix, yield}
use Rattle.record.specs.Front.{front}
use Rattle.record.specs.Node.{node_at}
use Rattle.record.specs.TreeAt.{TreeAt}
use Rattle.record.specs.Rows.{Writes}
use Rattle.record.specs.declared.Node.{Node}
use Rattle.record.specs.declared.Node.TheVariants as node
use Rattle.record.proofs.Trees.{a_reading, a_bracket, a_prefix, no_tree_lem}
use Rattle.record.proofs.Standing.{leaf_at, bracket_at, prefix_at_lem, onward, operands_in, joined_in}

pub yield_positive : (t : Tree) → 1 ≤ length (yield t)
yield_positive (reading a) = omega arith
yield_positive (bracket t) = omega arith
yield_positive (binary o l r) = rw length-append (omega arith)
yield_positive (prefix p t) = omega arith

bracket_tokens : (u : Tree) → length (yield (bracket u)) ≡ suc (length (yield u) + 1)
bracket_tokens u = ap suc (length-append (yield u) (closing ∷ []))

operator_tokens : (o : ℕ) (l r : Tree) → length (yield (binary o l r)) ≡ length (yield l) + suc (length (yield r))
operator_tokens o l r = length-append (yield l) (o ∷ yield r)

one_more : (xs : List ℕ) (x : ℕ) → length (xs ++ x ∷ []) ≡ length xs + 1
one_more xs x = length-append xs (x ∷ [])

-- no end is given where no tree stands with room
none_here : {ops : Operators} {bytes : List ℕ} {from : ℕ} (before after : List ℕ)
    → ((t : Tree) (to : ℕ) → TreeAt ops bytes from t to → length before + length (yield t) ≤ most_tokens → ⊥) → Writes ops bytes from before after None
none_here before after never = record { wrote = λ t to k room. absurd (never t to k room); found = λ to e. cc }

-- What is written from the later place on is what is written from the earlier one.
pub record Leads (ops : Operators) (bytes : List ℕ) (from : ℕ) (before : List ℕ) (at : ℕ) (row : List ℕ) : Type 0 where
  pub forward : from ≤ at
  pub on : (after : List ℕ) (r : Option ℕ) → Writes ops bytes at row after r → Writes ops bytes from before after r

pub starts : (ops : Operators) (bytes : List ℕ) (from : ℕ) (before : List ℕ) → Leads ops bytes from before from before
starts ops bytes from before = record { forward = omega arith; on = λ after r h. h }

module _ {ops : Operators} {bytes : List ℕ} {from : ℕ} {before : List ℕ} {at : ℕ} {row : List ℕ} (lead : Leads ops bytes from before at row) where
  pub no_node : None ≡ node_at ops bytes at → Writes ops bytes from before row None
  no_node e = lead.on row None (none_here row row (λ t to k room. no_tree_lem ops bytes at e t k))

  pub full : most_tokens ≤ length row → Writes ops bytes from before row None
  full h = lead.on row None (none_here row row (λ t to k room. omega (arith, yield_positive t)))

  module _ {x : Node} (found : Some x ≡ node_at ops bytes at) where
    pub a_leaf : {a : ℕ} {after : List ℕ} → x ≡ node.Reading a → length after ≤ most_tokens → after ≡ row ++ a ∷ [] → Writes ops bytes from before after (Some (at + 1))
    a_leaf {a} {after} is room e =
        lead.on after (Some (at + 1)) (record {
          wrote = λ t to h _.
              let u = a_reading ops bytes at found is t h in
              (ap Some (sym u.1), e ∙ ap (λ v. row ++ yield v) (sym u.0));
          found = λ to q.
              let z : at + 1 ≡ to = cc in
              (reading a, rw z at (leaf_at ops bytes at found is), omega (arith, ap length e, one_more row a));
        })

    pub a_prefixed : {p : ℕ} {next : List ℕ} → x ≡ node.Prefix p → next ≡ row ++ p ∷ [] → Leads ops bytes from before (at + 1) next
    a_prefixed {p} {next} is e =
        let long : length next ≡ length row + 1 = ap length e ∙ one_more row p in
        record {
          forward = omega (arith, lead.forward);
          on = λ after r h. lead.on after r (record {
            wrote = λ t to k room.
                let (u, q, y) = a_prefix ops bytes at found is t k in
                let (a, b) = h.wrote u to y (omega (arith, ap (λ v. length (yield v)) q)) in
                (a, b ∙ ap (λ d. d ++ yield u) e ∙ append_assoc row (p ∷ []) (yield u) ∙ ap (λ v. row ++ yield v) (sym q));
            found = λ to q. let (u, y, room) = h.found to q in (prefix p u, prefix_at_lem ops bytes at found is u y, omega arith);
          });
        }

    -- a bracket: the tokens once it is opened, those with what is inside it, and those once it is closed
    module _ {opened : List ℕ} (is : x ≡ node.Bracket) (e : opened ≡ row ++ opening ∷ []) where
      long : length opened ≡ length row + 1
      long = ap length e ∙ one_more row opening

      pub inner_refused : {inner : List ℕ} → Writes ops bytes (at + 1) opened inner None → Writes ops bytes from before inner None
      inner_refused {inner} h =
          lead.on inner None (none_here row inner λ t to k room.
          let (u, q, y) = a_bracket ops bytes at found is t k in
          let z : None ≡ Some to = (h.wrote u to y (omega (arith, bracket_tokens u, long, ap (λ v. length (yield v)) q))).0 in
          cc)

      module _ {inner : List ℕ} {end : ℕ} (h : Writes ops bytes (at + 1) opened inner (Some end)) where
        pub inner_full : most_tokens ≤ length inner → Writes ops bytes from before inner None
        inner_full over =
            lead.on inner None (none_here row inner λ t to k room.
            let (u, q, y) = a_bracket ops bytes at found is t k in
            let m = ap (λ v. length (yield v)) q in
            let (_, w) = h.wrote u to y (omega (arith, bracket_tokens u, long)) in
            omega (arith, bracket_tokens u, long, ap length w, length-append opened (yield u)))

        pub a_bracketed : {closed : List ℕ} → length closed ≤ most_tokens → closed ≡ inner ++ closing ∷ [] → Writes ops bytes from before closed (Some end)
        a_bracketed {closed} low c =
            lead.on closed (Some end) (record {
              wrote = λ t to k room.
                  let (u, q, y) = a_bracket ops bytes at found is t k in
                  let m = ap (λ v. length (yield v)) q in
                  let (a, w) = h.wrote u to y (omega (arith, bracket_tokens u, long)) in (
                    a,
                    c ∙ ap (λ d. d ++ closing ∷ []) (w ∙ ap (λ d. d ++ yield u) e ∙ append_assoc row (opening ∷ []) (yield u))
                        ∙ append_assoc row (opening ∷ yield u) (closing ∷ []) ∙ ap (λ v. row ++ yield v) (sym q),
                  );
              found = λ to q.
                  let (u, y, room) = h.found to q in
                  let (_, w) = h.wrote u to y room in (
                    bracket u,
                    bracket_at ops bytes at found is u y,
                    omega (arith, bracket_tokens u, long, ap length c, one_more inner closing, ap length w, length-append opened (yield u)),
                  );
            })

-- a left operand that is a reading, two places on: no call is made for it
pub left_leaf : {ops : Operators} {bytes : List ℕ} (at : ℕ) {row left : List ℕ} {a : ℕ} {y : Node} → Some y ≡ node_at ops bytes (at + 1) → y ≡ node.Reading a → length left ≤ most_tokens
    → left ≡ row ++ a ∷ [] → Writes ops bytes (at + 1) row left (Some (at + 2))
left_leaf {ops} {bytes} at {row} {left} next leaf room e =
    let two : at + 1 + 1 ≡ at + 2 = omega arith in
    rw two at (a_leaf (starts ops bytes (at + 1) row) next leaf room e)

-- the two tokens of a left operand that is a reading and of the operator behind it
module _ (row : List ℕ) (a o : ℕ) {next : List ℕ} (e : next ≡ row ++ a ∷ o ∷ []) where
  pub two_on : next ≡ (row ++ a ∷ []) ++ o ∷ []
  two_on = e ∙ sym (append_assoc row (a ∷ []) (o ∷ []))

  pub one_fits : length next ≤ most_tokens → length (row ++ a ∷ []) ≤ most_tokens
  one_fits h = omega (arith, ap length two_on, one_more (row ++ a ∷ []) o)

-- The left operand is written within a byte less.
module _ (ops : Operators) (size : ℕ) (whole : List ℕ) {from : ℕ} {before : List ℕ} {at : ℕ} {row : List ℕ} (lead : Leads ops (front size whole) from before at row) {x : Node}
    (found : Some x ≡ node_at ops (front size whole) at) {o : ℕ} (is : x ≡ node.Operator o) where
  -- no room for a left operand and the operator
  pub two_full : most_tokens < length row + 2 → Writes ops (front size whole) from before row None
  two_full over =
      lead.on row None (none_here row row λ t to k room.
      let (l, r, mid, q, a, b) = operands_in ops size whole at found is t k in
      omega (arith, operator_tokens o l r, ap (λ v. length (yield v)) q, yield_positive l, yield_positive r))

  pub left_refused : {left : List ℕ} → Writes ops (front (size - 1) whole) (at + 1) row left None → Writes ops (front size whole) from before left None
  left_refused {left} h =
      lead.on left None (none_here row left λ t to k room.
      let (l, r, mid, q, a, b) = operands_in ops size whole at found is t k in
      let m = ap (λ v. length (yield v)) q in
      let z : None ≡ Some mid = (h.wrote l mid a (omega (arith, operator_tokens o l r))).0 in
      cc)

  module _ {left : List ℕ} {mid : ℕ} (h : Writes ops (front (size - 1) whole) (at + 1) row left (Some mid)) where
    pub left_full : most_tokens ≤ length left → Writes ops (front size whole) from before left None
    left_full over =
        lead.on left None (none_here row left λ t to k room.
        let (l, r, seam, q, a, b) = operands_in ops size whole at found is t k in
        let m = ap (λ v. length (yield v)) q in
        let (_, w) = h.wrote l seam a (omega (arith, operator_tokens o l r)) in
        omega (arith, operator_tokens o l r, ap length w, length-append row (yield l)))

    pub an_infix : {next : List ℕ} → next ≡ left ++ o ∷ [] → Leads ops (front size whole) from before mid next
    an_infix {next} e =
        let long : length next ≡ length left + 1 = ap length e ∙ one_more left o in
        record {
          forward = let (u, a, _) = h.found mid refl in omega (arith, lead.forward, onward ops (front (size - 1) whole) (at + 1) u a);
          on = λ after r g. lead.on after r (record {
            wrote = λ t to k room.
                let (l, v, seam, q, a, b) = operands_in ops size whole at found is t k in
                let m = ap (λ v. length (yield v)) q in
                let (z, w) = h.wrote l seam a (omega (arith, operator_tokens o l v)) in
                let s : seam ≡ mid = cc in
                let n = ap length w ∙ length-append row (yield l) in
                let (y, d) = g.wrote v to (rw s at b) (omega (arith, operator_tokens o l v)) in (
                  y,
                  d ∙ ap (λ d. d ++ yield v) (e ∙ ap (λ d. d ++ o ∷ []) w) ∙ append_assoc (row ++ yield l) (o ∷ []) (yield v) ∙ append_assoc row (yield l) (o ∷ yield v)
                      ∙ ap (λ v. row ++ yield v) (sym q),
                );
            found = λ to q.
                let (u, a, room) = h.found mid refl in
                let (v, b, more) = g.found to q in
                let w = (h.wrote u mid a room).1 in
                (binary o u v, joined_in ops size whole at found is u v a b, omega (arith, operator_tokens o u v, ap length w, length-append row (yield u)));
          });
        }

pub ruleset write_row_ways = (starts, no_node, full, a_leaf, a_prefixed, inner_refused, inner_full, a_bracketed, left_refused, left_full, an_infix, rules)
