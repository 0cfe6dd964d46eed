-- Rules of which none is strange exclude patterns of operators below n alone. Assumes nothing.
use mathlib.Core.Path.{◌≡◌, sym}
use mathlib.Core.Bool.{true, false, not, ◌||◌, false≢true}
use mathlib.Core.Logic.{◌⊎◌, inl, inr}
use mathlib.Core.List.{List, [], ◌∷◌}
use Prim.Native.Nat.{ℕ, ◌<◌, ◌≤◌}
use borrow.Author.Tests.{eqb-true, ltb-true, ltb-false, not-false}
use lib.Dec.{eqb, ltb}
use Rattle.expression.specs.Lists.{any_holds}
use Rattle.expression.proofs.Tests.{both_false}
use Rattle.disambiguation.specs.Rules.{Rule, priority, left, right, says, written, Leads, R}
use Rattle.disambiguation.specs.Chains.{one, more}
use Rattle.disambiguation.specs.SheetChecks.{strange_rule}
use Rattle.disambiguation.proofs.BelowLaws.{and_true, or_either}
use Rattle.disambiguation.proofs.LeadsDecided.{patterns}

-- the kind and the operators of a rule that is not strange
module _ (n : ℕ) (r : Rule) (plain : strange_rule n r ≡ false) where
  kind_and_first : (((ltb r.kind priority || ltb right r.kind) || not (ltb r.first n)) ≡ false) × (not (ltb r.second n) ≡ false)
  kind_and_first = both_false (ltb r.kind priority || ltb right r.kind || not (ltb r.first n)) (not (ltb r.second n)) plain

  both_kinds : ((ltb r.kind priority || ltb right r.kind) ≡ false) × (not (ltb r.first n) ≡ false)
  both_kinds = both_false (ltb r.kind priority || ltb right r.kind) (not (ltb r.first n)) kind_and_first.0

  pub known_kind : r.kind ≤ right
  known_kind = ltb-false right r.kind (both_false (ltb r.kind priority) (ltb right r.kind) both_kinds.0).1

  pub first_operator : r.first < n
  first_operator = ltb-true r.first n (not-false (ltb r.first n) both_kinds.1)

  pub second_operator : r.second < n
  second_operator = ltb-true r.second n (not-false (ltb r.second n) kind_and_first.1)

-- what rules of a kind name
pub written_below : (kind n : ℕ) (rules : List Rule) (a b : ℕ) → any_holds (strange_rule n) rules ≡ false → written kind rules a b ≡ true → (a < n) × (b < n)
written_below kind n [] a b s e = absurd (false≢true e)
written_below kind n (r ∷ rs) a b s e =
    let (plain, others) = both_false (strange_rule n r) (any_holds (strange_rule n) rs) s in
    go plain (or_either (says kind a b r) (written kind rs a b) e) (written_below kind n rs a b others)
  where
    go : strange_rule n r ≡ false → (says kind a b r ≡ true) ⊎ (written kind rs a b ≡ true) → (written kind rs a b ≡ true → (a < n) × (b < n)) → (a < n) × (b < n)
    go plain (inl q) later =
        let (x, y) = and_true (eqb r.first a) (eqb r.second b) (and_true (eqb r.kind kind) _ q).1 in
        (rw (sym (eqb-true r.first a x)) (first_operator n r plain), rw (sym (eqb-true r.second b y)) (second_operator n r plain))
    go plain (inr q) later = later q

-- where priority leads
pub leads_below : (n : ℕ) (rules : List Rule) {a b : ℕ} → any_holds (strange_rule n) rules ≡ false → Leads rules a b → (a < n) × (b < n)
leads_below n rules s (one a b e) = written_below priority n rules a b s e
leads_below n rules s (more a x b e k) = ((written_below priority n rules a x s e).0, (leads_below n rules s k).1)

pub R_below : (n : ℕ) (rules : List Rule) (a b : ℕ) → any_holds (strange_rule n) rules ≡ false → R rules a b ≡ true → (a < n) × (b < n)
R_below n rules a b s e = go (((patterns rules).in_right_operand a b).0 e)
  where
    go : Leads rules a b ⊎ (written left rules a b ≡ true) → (a < n) × (b < n)
    go (inl k) = leads_below n rules s k
    go (inr q) = written_below left n rules a b s q
