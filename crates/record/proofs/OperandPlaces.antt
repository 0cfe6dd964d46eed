-- What each way through `operand_place` gives. Assumes nothing.
use Prim.Native.Nat.{ℕ, ◌-◌, ◌≤◌, ◌<◌}
use native.Mathlib.Omega.{arith}
use native.Mathlib.Decide.{ℕ_discrete}
use Rattle.std.specs.Prelude.{Some, None}
use mathlib.Core.Path.{◌≡◌, refl, ap, sym, subst, ◌∙◌}
use mathlib.Core.Bool.{Bool, true, false, cond, true≢false}
use mathlib.Core.Logic.{◌⊎◌, ⊎_elim}
use mathlib.Core.Option.{some}
use mathlib.Core.List.{List, []}
use lib.ListN.{length, take, drop}
use lib.Seq.{take_at}
use borrow.Author.Rules.{rules}
use borrow.Author.Tests.{ne_eqb}
use Rattle.expression.specs.Limits.{most_tokens, most_record_bytes}
use Rattle.expression.specs.Refusal.{accepted}
use Rattle.expression.specs.Token.{Operators, class}
use Rattle.expression.specs.Tree.{Tree, bracket, binary, prefix, record_of}
use Rattle.expression.specs.Decode.{tree_of}
use Rattle.expression.specs.Checks.{record_number}
use Rattle.expression.specs.Operand.{operand_record, operand_part}
use Rattle.record.specs.Front.{front}
use Rattle.record.specs.Node.{node_at}
use Rattle.record.specs.TreeAt.{TreeAt}
use Rattle.record.specs.Checks.{row_length}
use Rattle.record.specs.Reach.{Reaches}
use Rattle.record.specs.Operands.{OperandAt}
use Rattle.record.specs.declared.Node.{Node}
use Rattle.record.specs.declared.Node.TheVariants as node
use Rattle.record.proofs.Holding.{front_all}
use Rattle.record.proofs.Trees.{a_reading, a_bracket, a_prefix, ends_within, no_tree_lem}
use Rattle.record.proofs.Standing.{read_back, bracket_at, prefix_at_lem, operands_in, widened, joined_in}
use Rattle.record.proofs.Accepted.{Accepted, accepted_tree}
use Rattle.record.proofs.Numbering.{read_number}

module _ (ops : Operators) (right : Bool) (bytes : List ℕ) where
  part_of_tree : (t : Tree) → record_number ops bytes ≡ accepted → tree_of (class ops) bytes ≡ some t → operand_part ops right bytes ≡ operand_record right t
  unfolding operand_part
  part_of_tree t e read = rw (e, read)

  part_refused : (record_number ops bytes ≡ accepted → ⊥) → operand_part ops right bytes ≡ []
  unfolding operand_part
  part_refused n = rw (ne_eqb (record_number ops bytes) accepted n)

  -- no part: an accepted record has no such operand
  no_part : ((t : Tree) → Accepted ops bytes t → operand_record right t ≡ []) → OperandAt ops right bytes (record { from = 0; to = 0 })
  no_part none =
      record {
        ordered = omega arith;
        within = omega arith;
        stands = sym (go (ℕ_discrete (record_number ops bytes) accepted));
        left_place = λ r l. omega arith;
        right_place = λ r l. omega arith;
      }
    where
      go : Dec (record_number ops bytes ≡ accepted) → operand_part ops right bytes ≡ []
      go (yes e) = let (t, a) = accepted_tree ops bytes e in part_of_tree t e a.read ∙ none t a
      go (no n) = part_refused n

  pub too_long : most_record_bytes < length bytes → OperandAt ops right bytes (record { from = 0; to = 0 })
  too_long h = no_part (λ t a. absurd (omega (arith, a.bytes_fit)))

  pub row_too_long : {v : ℕ} → v ≡ row_length bytes → most_tokens < v → OperandAt ops right bytes (record { from = 0; to = 0 })
  row_too_long v l = no_part (λ t a. absurd (omega (arith, a.row_is, a.row_fits)))

  -- the part where a tree stands, in a record whose tree is found by the walks
  module _ {v : ℕ} (fits : length bytes ≤ most_record_bytes) (row : v ≡ row_length bytes) (row_fits : v ≤ most_tokens) where
    standing : (t u : Tree) (from to : ℕ) → TreeAt ops bytes 0 t (length bytes) → TreeAt ops bytes from u to → operand_record right t ≡ record_of u
        → (right ≡ false → from ≡ 1) → (right ≡ true → to ≡ length bytes) → OperandAt ops right bytes (record { from = from; to = to })
    standing t u from to a x q left_at right_at =
        let read = read_back ops bytes t a refl in
        record {
          ordered = omega (arith, x.ends);
          within = ends_within ops bytes from u to x;
          stands = ap (take (to - from)) x.stands ∙ take_at (record_of u) (drop to bytes) (to - from) (omega (arith, x.ends))
              ∙ sym (part_of_tree t (sym (read_number ops bytes fits t read row row_fits)) read ∙ q);
          left_place = λ r l. left_at r;
          right_place = λ r l. right_at r;
        }

  same : front (length bytes) bytes ≡ bytes
  same = front_all bytes

  pub no_node : None ≡ node_at ops (front (length bytes) bytes) 0 → OperandAt ops right bytes (record { from = 0; to = 0 })
  no_node e = no_part (λ t a. no_tree_lem ops bytes 0 (e ∙ ap (λ b. node_at ops b 0) same) t a.stands)

  module _ {x : Node} (seen : Some x ≡ node_at ops (front (length bytes) bytes) 0) where
    found : Some x ≡ node_at ops bytes 0
    found = seen ∙ ap (λ b. node_at ops b 0) same

    pub a_reading_alone : {a : ℕ} → x ≡ node.Reading a → OperandAt ops right bytes (record { from = 0; to = 0 })
    a_reading_alone is = no_part (λ t a. ap (operand_record right) (a_reading ops bytes 0 found is t a.stands).0)

    -- a node with one tree: a bracket or a prefix operator
    record OneTree : Type 0 where
      wrap : Tree → Tree
      only : (t : Tree) → TreeAt ops bytes 0 t (length bytes) → (u : Tree) × (t ≡ wrap u) × TreeAt ops bytes 1 u (length bytes)
      made : (u : Tree) → TreeAt ops bytes 1 u (length bytes) → TreeAt ops bytes 0 (wrap u) (length bytes)
      part : (u : Tree) → operand_record right (wrap u) ≡ cond right [] (record_of u)

    module _ (is : (x ≡ node.Bracket) ⊎ ((p : ℕ) × (x ≡ node.Prefix p))) where
      one : OneTree
      one =
          ⊎_elim
          (λ b. record { wrap = bracket; only = λ t k. a_bracket ops bytes 0 found b t k; made = λ u k. bracket_at ops bytes 0 found b u k; part = λ u. refl })
          (λ q. record { wrap = prefix q.0; only = λ t k. a_prefix ops bytes 0 found q.1 t k; made = λ u k. prefix_at_lem ops bytes 0 found q.1 u k; part = λ u. refl })
          is

      pub only_right : right ≡ true → OperandAt ops right bytes (record { from = 0; to = 0 })
      only_right r = no_part (λ t a. let (u, e, y) = one.only t a.stands in ap (operand_record right) e ∙ one.part u ∙ rw r)

      pub only_refused : Reaches ops (front (length bytes) bytes) 1 None → OperandAt ops right bytes (record { from = 0; to = 0 })
      only_refused walked =
          let inside : Reaches ops bytes 1 None = rw same at walked in
          no_part (λ t a. let (u, e, y) = one.only t a.stands in let z : None ≡ Some (length bytes) = inside.reached u (length bytes) y in cc)

      module _ {end : ℕ} (walked : Reaches ops (front (length bytes) bytes) 1 (Some end)) where
        inside : Reaches ops bytes 1 (Some end)
        inside = rw same at walked

        pub only_cut : (end ≡ length bytes → ⊥) → OperandAt ops right bytes (record { from = 0; to = 0 })
        only_cut n =
            no_part (λ t a. let (u, e, y) = one.only t a.stands in let z : Some end ≡ Some (length bytes) = inside.reached u (length bytes) y in let q : end ≡ length bytes = cc in absurd (n q))

        pub only_left : {v : ℕ} → length bytes ≤ most_record_bytes → v ≡ row_length bytes → v ≤ most_tokens → right ≡ false → end ≡ length bytes
            → OperandAt ops right bytes (record { from = 1; to = length bytes })
        only_left fits row row_fits r e =
            let (u, a) = inside.found (length bytes) (ap Some e) in
            standing fits row row_fits (one.wrap u) u 1 (length bytes) (one.made u a) a (one.part u ∙ ap (λ (b : Bool). cond b [] (record_of u)) r) (λ f. refl) (λ f. refl)

    module _ {o : ℕ} (is : x ≡ node.Operator o) where
      -- the operands of an accepted record, as the walks find them
      operands : (t : Tree) → Accepted ops bytes t
          → (m : Tree) × (r : Tree) × (mid : ℕ) × (t ≡ binary o m r) × TreeAt ops (front (length bytes - 1) bytes) 1 m mid × TreeAt ops (front (length bytes) bytes) mid r (length bytes)
      operands t a = operands_in ops (length bytes) bytes 0 seen is t (subst (λ b. TreeAt ops b 0 t (length bytes)) (sym same) a.stands)

      pub left_cut : Reaches ops (front (length bytes - 1) bytes) 1 None → OperandAt ops right bytes (record { from = 0; to = 0 })
      left_cut left = no_part (λ t a. let u = operands t a in let z : None ≡ Some u.2 = left.reached u.0 u.2 u.4 in cc)

      module _ {mid : ℕ} (left : Reaches ops (front (length bytes - 1) bytes) 1 (Some mid)) where
        pub right_refused : Reaches ops (front (length bytes) bytes) mid None → OperandAt ops right bytes (record { from = 0; to = 0 })
        right_refused walked =
            no_part (λ t a.
            let u = operands t a in
            let z : Some mid ≡ Some u.2 = left.reached u.0 u.2 u.4 in
            let e : u.2 ≡ mid = cc in
            let y : None ≡ Some (length bytes) = walked.reached u.1 (length bytes) (rw e at u.5) in
            cc)

        pub right_cut : {end : ℕ} → Reaches ops (front (length bytes) bytes) mid (Some end) → (end ≡ length bytes → ⊥) → OperandAt ops right bytes (record { from = 0; to = 0 })
        right_cut {end} walked n =
            no_part (λ t a.
            let u = operands t a in
            let z : Some mid ≡ Some u.2 = left.reached u.0 u.2 u.4 in
            let e : u.2 ≡ mid = cc in
            let y : Some end ≡ Some (length bytes) = walked.reached u.1 (length bytes) (rw e at u.5) in
            let q : end ≡ length bytes = cc in
            absurd (n q))

        module _ {v end : ℕ} (walked : Reaches ops (front (length bytes) bytes) mid (Some end)) (fits : length bytes ≤ most_record_bytes) (row : v ≡ row_length bytes) (row_fits : v ≤ most_tokens)
            (e : end ≡ length bytes) where
          both : (m : Tree) × (r : Tree) × TreeAt ops bytes 0 (binary o m r) (length bytes) × TreeAt ops bytes 1 m mid × TreeAt ops bytes mid r (length bytes)
          both =
              let (m, a) = left.found mid refl in
              let (r, b) = walked.found (length bytes) (ap Some e) in
              (m, r, rw same at (joined_in ops (length bytes) bytes 0 seen is m r a b), rw same at (widened ops (length bytes) bytes 0 seen is m a), rw same at b)

          pub operator_right : right ≡ true → OperandAt ops right bytes (record { from = mid; to = length bytes })
          operator_right r =
              let (m, n, a, b, c) = both in
              standing fits row row_fits (binary o m n) n mid (length bytes) a c (rw r) (λ f. absurd (true≢false (sym r ∙ f))) (λ f. refl)

          pub operator_left : right ≡ false → OperandAt ops right bytes (record { from = 1; to = mid })
          operator_left r =
              let (m, n, a, b, c) = both in
              standing fits row row_fits (binary o m n) m 1 mid a b (rw r) (λ f. refl) (λ f. absurd (true≢false (sym f ∙ r)))

pub ruleset operand_place_ways = (too_long, rules)

pub ruleset operand_ways = (row_too_long, no_node, a_reading_alone, only_right, only_refused, only_cut, only_left, left_cut, right_refused, right_cut, operator_right, operator_left, rules)
