-- A sheet's rules, and the patterns that they exclude. Assumes nothing.
use Rattle.std.specs.Prelude.{ℕ, Bool, false, ◌&&◌, ◌||◌, List, [], ◌∷◌, eqb}
use Rattle.expression.specs.Lists.{any_holds}
use Rattle.disambiguation.specs.Chains.{Chain}

-- a rule: its kind, its first operator a and its second operator b
pub record Rule : Type 0 where
  pub kind : ℕ
  pub first : ℕ
  pub second : ℕ

abbrev pub rule : ℕ → ℕ → ℕ → Rule
rule k a b = record { kind = k; first = a; second = b }

-- the kinds: a over b, a left b, a right b
abbrev pub priority : ℕ
priority = 1

abbrev pub left : ℕ
left = 2

abbrev pub right : ℕ
right = 3

-- the rule is of the kind, and names a first and b second
abbrev pub says : ℕ → ℕ → ℕ → Rule → Bool
says kind a b r = eqb r.kind kind && (eqb r.first a && eqb r.second b)

-- Some rule of the kind names a first and b second.
abbrev pub written : ℕ → List Rule → ℕ → ℕ → Bool
written kind rules a b = any_holds (says kind a b) rules

-- Priority leads from a to c: by one or more priority rules, a over b1, b1 over b2, .., bk over c.
abbrev pub Leads : List Rule → ℕ → ℕ → Type 0
Leads rules = Chain (written priority rules)

-- Whether it does, computed one rule after the other: the rules after the first lead from a to c; or the first is a priority, and they lead from a to its first operator, or
-- that is a, and from its second operator to c, or that is c.
abbrev pub leads : List Rule → ℕ → ℕ → Bool
leads [] a c = false
leads (r ∷ rs) a c =
    leads rs a c
    || (eqb r.kind priority && ((eqb a r.first || leads rs a r.first) && (eqb r.second c || leads rs r.second c)))

-- L(a,b): infix operator a whose left operand shows b: an infix b as its top node, a prefix b on its right edge. Excluded where priority leads from a to b, and by a right b as written.
unfoldable pub L : List Rule → ℕ → ℕ → Bool
L rules a b = leads rules a b || written right rules a b

-- R(a,b): operator a whose right or only operand has the infix operator b as its top node. Excluded where priority leads from a to b, and by a left b as written.
unfoldable pub R : List Rule → ℕ → ℕ → Bool
R rules a b = leads rules a b || written left rules a b
