-- Going through the rules decides whether priority leads from one operator to another; so the patterns are those that chains give. Assumes nothing.
use Prim.Native.Nat.{ℕ}
use mathlib.Core.Path.{◌≡◌, refl, sym, subst}
use mathlib.Core.Bool.{true, ◌&&◌, ◌||◌, or-true, false≢true}
use mathlib.Core.Logic.{◌↔◌, ◌⊎◌, inl, inr}
use mathlib.Core.List.{List, [], ◌∷◌}
use borrow.Author.Tests.{eqb-true, eq-eqb}
use lib.Dec.{eqb}
use Rattle.disambiguation.specs.Chains.{one, more}
use Rattle.disambiguation.specs.Rules.{Rule, priority, left, right, says, written, Leads, leads, L, R}
use Rattle.disambiguation.specs.Patterns.{Patterns}
use Rattle.disambiguation.proofs.BelowLaws.{and_true, or_either}
use Rattle.disambiguation.proofs.Chains.{chain_on, chain_within}

-- With a rule before others.
module _ (r : Rule) (rs : List Rule) where
  -- the others lead there, or one is there
  abbrev Reaches : ℕ → ℕ → Type 0
  Reaches x y = (x ≡ y) ⊎ (leads rs x y ≡ true)

  -- by the first rule
  record ByFirst (a c : ℕ) : Type 0 where
    kind : r.kind ≡ priority
    to : Reaches a r.first
    on : Reaches r.second c

  reaches : (x y : ℕ) → (eqb x y || leads rs x y) ≡ true → Reaches x y
  reaches x y e = go (or_either (eqb x y) (leads rs x y) e)
    where
      go : (eqb x y ≡ true) ⊎ (leads rs x y ≡ true) → Reaches x y
      go (inl q) = inl (eqb-true x y q)
      go (inr q) = inr q

  reached : (x y : ℕ) → Reaches x y → (eqb x y || leads rs x y) ≡ true
  reached x y (inl e) = rw (eq-eqb x y e)
  reached x y (inr e) = rw (e, or-true (eqb x y))

  leads_by : (a c : ℕ) → leads (r ∷ rs) a c ≡ true → (leads rs a c ≡ true) ⊎ ByFirst a c
  leads_by a c e = go (or_either (leads rs a c) _ e)
    where
      go : (leads rs a c ≡ true) ⊎ ((eqb r.kind priority && ((eqb a r.first || leads rs a r.first) && (eqb r.second c || leads rs r.second c))) ≡ true)
          → (leads rs a c ≡ true) ⊎ ByFirst a c
      go (inl q) = inl q
      go (inr q) =
          let (k, both) = and_true (eqb r.kind priority) _ q in
          let (to, on) = and_true (eqb a r.first || leads rs a r.first) (eqb r.second c || leads rs r.second c) both in
          inr (record { kind = eqb-true r.kind priority k; to = reaches a r.first to; on = reaches r.second c on })

  by_others : (a c : ℕ) → leads rs a c ≡ true → leads (r ∷ rs) a c ≡ true
  by_others a c e = rw e

  by_first : (a c : ℕ) → ByFirst a c → leads (r ∷ rs) a c ≡ true
  by_first a c b = rw (eq-eqb r.kind priority b.kind, reached a r.first b.to, reached r.second c b.on, or-true (leads rs a c))

  module _ (others_on : (a b c : ℕ) → leads rs a b ≡ true → leads rs b c ≡ true → leads rs a c ≡ true) where
    before : (a b c : ℕ) → leads rs a b ≡ true → Reaches b c → Reaches a c
    before a b c p (inl e) = inr (subst (λ x. leads rs a x ≡ true) e p)
    before a b c p (inr q) = inr (others_on a b c p q)

    behind : (a b c : ℕ) → Reaches a b → leads rs b c ≡ true → Reaches a c
    behind a b c (inl e) q = inr (subst (λ x. leads rs x c ≡ true) (sym e) q)
    behind a b c (inr p) q = inr (others_on a b c p q)

    first_on : (a b c : ℕ) → leads (r ∷ rs) a b ≡ true → leads (r ∷ rs) b c ≡ true → leads (r ∷ rs) a c ≡ true
    first_on a b c p q = go (leads_by a b p) (leads_by b c q)
      where
        go : (leads rs a b ≡ true) ⊎ ByFirst a b → (leads rs b c ≡ true) ⊎ ByFirst b c → leads (r ∷ rs) a c ≡ true
        go (inl x) (inl y) = by_others a c (others_on a b c x y)
        go (inl x) (inr y) = by_first a c (record { kind = y.kind; to = before a b r.first x y.to; on = y.on })
        go (inr x) (inl y) = by_first a c (record { kind = x.kind; to = x.to; on = behind r.second b c x.on y })
        go (inr x) (inr y) = by_first a c (record { kind = x.kind; to = x.to; on = y.on })

-- What leads to an operator leads on from there.
leads_on : (rules : List Rule) (a b c : ℕ) → leads rules a b ≡ true → leads rules b c ≡ true → leads rules a c ≡ true
leads_on [] a b c p q = p
leads_on (r ∷ rs) a b c p q = first_on r rs (leads_on rs) a b c p q

-- a rule leads from its first operator to its second
written_leads : (rules : List Rule) (a c : ℕ) → written priority rules a c ≡ true → leads rules a c ≡ true
written_leads [] a c e = e
written_leads (r ∷ rs) a c e = go (or_either (says priority a c r) (written priority rs a c) e) (written_leads rs a c)
  where
    go : (says priority a c r ≡ true) ⊎ (written priority rs a c ≡ true) → (written priority rs a c ≡ true → leads rs a c ≡ true) → leads (r ∷ rs) a c ≡ true
    go (inl q) others =
        let (k, both) = and_true (eqb r.kind priority) _ q in
        let (f, s) = and_true (eqb r.first a) (eqb r.second c) both in
        by_first r rs a c (record { kind = eqb-true r.kind priority k; to = inl (sym (eqb-true r.first a f)); on = inl (eqb-true r.second c s) })
    go (inr q) others = by_others r rs a c (others q)

computed : (rules : List Rule) {a c : ℕ} → Leads rules a c → leads rules a c ≡ true
computed rules (one a c s) = written_leads rules a c s
computed rules (more a b c s k) = leads_on rules a b c (written_leads rules a b s) (computed rules k)

-- Where it is computed that the rules lead, a chain of them.
chain : (rules : List Rule) (a c : ℕ) → leads rules a c ≡ true → Leads rules a c
chain [] a c e = absurd (false≢true e)
chain (r ∷ rs) a c e = go (leads_by r rs a c e) (λ x y q. longer (chain rs x y q))
  where
    longer : {x y : ℕ} → Leads rs x y → Leads (r ∷ rs) x y
    longer = chain_within (written priority (r ∷ rs)) (λ x y q. rw (q, or-true (says priority x y r)))

    go : (leads rs a c ≡ true) ⊎ ByFirst r rs a c → ((x y : ℕ) → leads rs x y ≡ true → Leads (r ∷ rs) x y) → Leads (r ∷ rs) a c
    go (inl q) others = others a c q
    go (inr b) others = whole b.to
      where
        itself : Leads (r ∷ rs) r.first r.second
        itself = one r.first r.second (rw (eq-eqb r.kind priority b.kind, eq-eqb r.first r.first refl, eq-eqb r.second r.second refl))

        onwards : Reaches r rs r.second c → Leads (r ∷ rs) r.first c
        onwards (inl q) = subst (Leads (r ∷ rs) r.first) q itself
        onwards (inr q) = chain_on itself (others r.second c q)

        whole : Reaches r rs a r.first → Leads (r ∷ rs) a c
        whole (inl q) = subst (λ x. Leads (r ∷ rs) x c) (sym q) (onwards b.on)
        whole (inr q) = chain_on (others a r.first q) (onwards b.on)

pub leads_exactly_if : (rules : List Rule) (a c : ℕ) → (leads rules a c ≡ true) ↔ Leads rules a c
leads_exactly_if rules a c = (chain rules a c, computed rules)

-- The patterns, by chains.
by_chain : (rules : List Rule) (kind a c : ℕ) → ((leads rules a c || written kind rules a c) ≡ true) ↔ (Leads rules a c ⊎ (written kind rules a c ≡ true))
by_chain rules kind a c = (λ e. there (or_either (leads rules a c) (written kind rules a c) e), back)
  where
    there : (leads rules a c ≡ true) ⊎ (written kind rules a c ≡ true) → Leads rules a c ⊎ (written kind rules a c ≡ true)
    there (inl q) = inl (chain rules a c q)
    there (inr q) = inr q

    back : Leads rules a c ⊎ (written kind rules a c ≡ true) → (leads rules a c || written kind rules a c) ≡ true
    back (inl k) = rw (computed rules k)
    back (inr q) = rw (q, or-true (leads rules a c))

pub patterns : (rules : List Rule) → Patterns rules
unfolding L R
patterns rules = record { in_left_operand = by_chain rules right; in_right_operand = by_chain rules left }
