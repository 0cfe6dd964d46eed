-- Under an accepted sheet one relation decides everything: the conflict count, and repair, need only R. Assumes nothing.
use Prim.Native.Nat.{ℕ, ◌<◌}
use native.Mathlib.Omega.{arith}
use mathlib.Core.Path.{◌≡◌, refl, ap, sym, ◌∙◌}
use mathlib.Core.Bool.{Bool, true, false, not, ◌&&◌, ◌||◌, cond, false≢true}
use mathlib.Core.List.{List}
use Rattle.expression.specs.Refusal.{accepted}
use Rattle.expression.specs.Token.{Infix, Operators, class}
use Rattle.expression.specs.Tree.{Tree, yield, Over}
use Rattle.disambiguation.specs.Rules.{Rule, L, R}
use Rattle.disambiguation.specs.Conflicts.{conflicts, conflict_count, ConflictFreeTree}
use Rattle.disambiguation.specs.Verdict.{comes, comers, safe, total, level, verdict}
use Rattle.disambiguation.specs.Repair.{repair}
use Rattle.disambiguation.proofs.BelowLaws.{and_true, all_pairs_at}
use Rattle.disambiguation.proofs.TestsDecide.{waits_below, infix_below, infix_comes, safe_safe}
use Rattle.disambiguation.proofs.Repaired.{repair_makes, yield_repair, repair_safe}
use Rattle.disambiguation.proofs.Agreement.{conflicts_agree}
use Rattle.disambiguation.proofs.VerdictDecides.{tests_unique}

module _ (ops : Operators) (rules : List Rule) where
  -- What an accepted sheet has passed.
  pub record Passes : Type 0 where
    pub is_safe : safe ops (L rules) (R rules) ≡ true
    pub is_total : total ops (L rules) (R rules) ≡ true
    pub is_level : level ops (R rules) ≡ true

  pub accepted_passes : verdict ops rules ≡ accepted → Passes
  unfolding verdict
  accepted_passes e = go (safe ops (L rules) (R rules)) refl (total ops (L rules) (R rules) && level ops (R rules)) refl e
    where
      go : (a : Bool) → safe ops (L rules) (R rules) ≡ a → (b : Bool) → (total ops (L rules) (R rules) && level ops (R rules)) ≡ b
          → cond (not a) 4 (cond (not b) 5 0) ≡ accepted → Passes
      go false s b f e = absurd (omega arith)
      go true s false f e = absurd (omega arith)
      go true s true f e =
          let (p, q) = and_true (total ops (L rules) (R rules)) (level ops (R rules)) f in
          record { is_safe = s; is_total = p; is_level = q }

  -- one way exactly
  exclusive : (r l c : Bool) → not ((r && c) && l) ≡ true → ((r || not c) || l) ≡ true → c ≡ true → l ≡ not r
  exclusive true true true e f g = sym e
  exclusive true false true e f g = refl
  exclusive false l true e f g = f
  exclusive r l false e f g = absurd (false≢true g)

  module _ (passes : Passes) where
    -- L(b,a) is excluded exactly where R(a,b) is not, for an infix operator b
    pub opposite : (a b : ℕ) → a < ops.count → class ops b ≡ Infix → L rules b a ≡ not (R rules a b)
    unfolding safe total
    opposite a b ha hb =
        exclusive (R rules a b) (L rules b a) (comes ops b)
        (all_pairs_at ops.count (λ a b. not (comers ops (R rules a) b && L rules b a)) passes.is_safe a b ha (infix_below ops b hb))
        (all_pairs_at ops.count (λ a b. (R rules a b || not (comes ops b)) || L rules b a) passes.is_total a b ha (infix_below ops b hb))
        (infix_comes ops b hb)

    -- the conflict count from a relation that agrees with R on the operators
    pub count_by_closes : (closes : ℕ → ℕ → Bool) → ((a b : ℕ) → a < ops.count → b < ops.count → closes a b ≡ R rules a b) → (t : Tree) → Over (class ops) t
        → conflict_count rules t ≡ conflicts (λ b a. not (closes a b)) closes t
    count_by_closes closes h =
        conflicts_agree (class ops) (L rules) (R rules) (λ b a. not (closes a b)) closes
        (λ b a hb ha. opposite a b (waits_below ops a ha) hb ∙ ap not (sym (h a b (waits_below ops a ha) (infix_below ops b hb))))
        (λ a b ha hb. sym (h a b (waits_below ops a ha) (infix_below ops b hb)))

    -- Repair makes the conflict-free tree of the tree's row,
    pub repair_is : (t : Tree) → Over (class ops) t → ConflictFreeTree ops rules (yield t) (repair ops (R rules) t)
    repair_is t h =
        record {
          over = (repair_makes (R rules) ops t h).over;
          yields = yield_repair (R rules) ops t h;
          free = repair_safe (R rules) ops t h (L rules) (safe_safe ops (L rules) (R rules) passes.is_safe);
        }

    -- which is the only one.
    pub only_one : (row : List ℕ) (t u : Tree) → ConflictFreeTree ops rules row t → ConflictFreeTree ops rules row u → t ≡ u
    only_one = tests_unique ops rules passes.is_total passes.is_level
