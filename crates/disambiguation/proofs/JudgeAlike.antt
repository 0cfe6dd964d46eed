-- What is seen of an operand is on its edges, and rules that agree on the patterns that trees can show judge alike. Assumes nothing.
use Prim.Native.Nat.{ℕ, ◌+◌, ◌<◌, ◌≤◌}
use mathlib.Core.Path.{◌≡◌, refl, ap, ap₂, sym, ◌∙◌}
use mathlib.Core.Bool.{Bool, true, false, not, ◌&&◌, ◌||◌, cond}
use mathlib.Core.List.{List, [], ◌∷◌}
use lib.ListN.{take}
use Rattle.expression.specs.Limits.{most_operators}
use Rattle.expression.specs.Lists.{one_if, how_many, selected}
use Rattle.expression.specs.Refusal.{first}
use Rattle.expression.specs.Token.{Class, Infix, Prefix, Operators, class}
use Rattle.expression.specs.Tree.{Tree, reading, bracket, binary, prefix, Over}
use Rattle.disambiguation.specs.Rules.{Rule, L, R}
use Rattle.disambiguation.specs.Edges.{right_edge, left_edge, prefixes, on_top, shown_as_left_operand}
use Rattle.disambiguation.specs.Conflicts.{conflicts}
use Rattle.disambiguation.specs.Verdict.{comes, comers, safe, total, within, level, rule_checks, verdict}
use Rattle.disambiguation.specs.OtherRules.{is_prefix, JudgeAlike, AgreeOnShown}
use Rattle.disambiguation.proofs.BelowLaws.{all_same}
use Rattle.disambiguation.proofs.TestsDecide.{is_infix_lem}

-- ---- what is seen stands on the edges
module _ (k : ℕ → Class) where
  abbrev ones : List ℕ → List ℕ
  ones = selected (λ o. is_prefix (k o))

  first_seen : (o : ℕ) (os : List ℕ) (x : Class) → k o ≡ x → cond (is_prefix x) (o ∷ ones os) (ones os) ≡ ones (o ∷ os)
  first_seen o os x e = ap (λ (y : Class). cond (is_prefix y) (o ∷ ones os) (ones os)) (sym e)

  pub along_right : (t : Tree) → Over k t → prefixes t ≡ ones (right_edge t)
  along_right (reading a) h = refl
  along_right (bracket t) h = refl
  along_right (binary o l r) h = along_right r h.2 ∙ first_seen o (right_edge r) Infix h.0
  along_right (prefix p t) h = ap (λ s. p ∷ s) (along_right t h.1) ∙ first_seen p (right_edge t) Prefix h.0

pub top : (t : Tree) → on_top t ≡ take 1 (left_edge t)
top (reading a) = refl
top (bracket t) = refl
top (binary o l r) = refl
top (prefix p t) = refl

-- ---- relations that agree on what is shown
seen_same : (p q : ℕ → Bool) → ((x : ℕ) → p x ≡ q x) → (xs : List ℕ) → how_many p xs ≡ how_many q xs
seen_same p q h [] = refl
seen_same p q h (x ∷ xs) = ap₂ (λ (m n : ℕ). m + n) (ap one_if (h x)) (seen_same p q h xs)

module _ (ops : Operators) (L R L' R' : ℕ → ℕ → Bool)
    (in_left : (a b : ℕ) → class ops a ≡ Infix → L a b ≡ L' a b) (in_right : (a b : ℕ) → class ops b ≡ Infix → R a b ≡ R' a b) where
  top_same : (a : ℕ) (t : Tree) → Over (class ops) t → how_many (R a) (on_top t) ≡ how_many (R' a) (on_top t)
  top_same a (reading x) h = refl
  top_same a (bracket t) h = refl
  top_same a (binary o l r) h = ap (λ (b : Bool). one_if b + 0) (in_right a o h.0)
  top_same a (prefix p t) h = refl

  pub conflicts_same : (t : Tree) → Over (class ops) t → conflicts L R t ≡ conflicts L' R' t
  conflicts_same (reading a) h = refl
  conflicts_same (bracket t) h = conflicts_same t h
  conflicts_same (binary o l r) h =
      rw (seen_same (L o) (L' o) (λ b. in_left o b h.0) (shown_as_left_operand l), top_same o r h.2, conflicts_same l h.1, conflicts_same r h.2) refl
  conflicts_same (prefix p t) h = rw (top_same p t h.1, conflicts_same t h.1) refl

  module _ (small : ops.count ≤ most_operators) where
    coming : (a b : ℕ) → b < ops.count → comes ops b ≡ true → R a b ≡ R' a b
    coming a b hb i = in_right a b (is_infix_lem ops small b hb i)

    safe_same : safe ops L R ≡ safe ops L' R'
    unfolding safe
    safe_same = all_same _ _ ops.count (λ a _. all_same _ _ ops.count (λ b hb. go a b hb (comes ops b) refl))
      where
        none : (x y u v : Bool) → not ((x && false) && u) ≡ not ((y && false) && v)
        none true true u v = refl
        none true false u v = refl
        none false true u v = refl
        none false false u v = refl

        go : (a b : ℕ) → b < ops.count → (i : Bool) → comes ops b ≡ i → not ((R a b && i) && L b a) ≡ not ((R' a b && i) && L' b a)
        go a b hb true e = rw (coming a b hb e, in_left b a (is_infix_lem ops small b hb e)) refl
        go a b hb false e = none (R a b) (R' a b) (L b a) (L' b a)

    total_same : total ops L R ≡ total ops L' R'
    unfolding total
    total_same = all_same _ _ ops.count (λ a _. all_same _ _ ops.count (λ b hb. go a b hb (comes ops b) refl))
      where
        all : (x y u v : Bool) → ((x || true) || u) ≡ ((y || true) || v)
        all true true u v = refl
        all true false u v = refl
        all false true u v = refl
        all false false u v = refl

        go : (a b : ℕ) → b < ops.count → (i : Bool) → comes ops b ≡ i → ((R a b || not i) || L b a) ≡ ((R' a b || not i) || L' b a)
        go a b hb true e = rw (coming a b hb e, in_left b a (is_infix_lem ops small b hb e)) refl
        go a b hb false e = all (R a b) (R' a b) (L b a) (L' b a)

    within_same : (a b : ℕ) → within ops.count (comers ops (R b)) (R a) ≡ within ops.count (comers ops (R' b)) (R' a)
    unfolding within
    within_same a b = all_same _ _ ops.count (λ c hc. go c hc (comes ops c) refl)
      where
        all : (x y u v : Bool) → (not (x && false) || u) ≡ (not (y && false) || v)
        all true true u v = refl
        all true false u v = refl
        all false true u v = refl
        all false false u v = refl

        go : (c : ℕ) → c < ops.count → (i : Bool) → comes ops c ≡ i → (not (R b c && i) || R a c) ≡ (not (R' b c && i) || R' a c)
        go c hc true e = rw (coming b c hc e, coming a c hc e) refl
        go c hc false e = all (R b c) (R' b c) (R a c) (R' a c)

    level_same : level ops R ≡ level ops R'
    unfolding level
    level_same = all_same _ _ ops.count (λ a _. all_same _ _ ops.count (λ b hb. go a b hb (comes ops b) refl))
      where
        pair : (ℕ → ℕ → Bool) → ℕ → ℕ → Bool → Bool
        pair r a b i = not i || cond (r a b) (within ops.count (comers ops (r b)) (r a)) (within ops.count (comers ops (r a)) (r b))

        go : (a b : ℕ) → b < ops.count → (i : Bool) → comes ops b ≡ i → pair R a b i ≡ pair R' a b i
        go a b hb true e = rw (coming a b hb e, within_same a b, within_same b a) refl
        go a b hb false e = refl

    pub numbers_same : first (rule_checks ops L R) ≡ first (rule_checks ops L' R')
    numbers_same = rw (safe_same, total_same, level_same) refl

pub judge_alike : (ops : Operators) (rules others : List Rule) → AgreeOnShown ops rules others → JudgeAlike ops rules others
unfolding verdict
judge_alike ops rules others agree =
    record {
      counts = same;
      trees = λ row t. (
        λ h. record { over = h.over; yields = h.yields; free = sym (same t h.over) ∙ h.free },
        λ h. record { over = h.over; yields = h.yields; free = same t h.over ∙ h.free },
      );
      verdicts = numbers_same ops (L rules) (R rules) (L others) (R others) agree.in_left_operand agree.in_right_operand;
    }
  where
    same : (t : Tree) → Over (class ops) t → conflicts (L rules) (R rules) t ≡ conflicts (L others) (R others) t
    same = conflicts_same ops (L rules) (R rules) (L others) (R others) agree.in_left_operand agree.in_right_operand
