-- What taking a byte gives, from what is known on it. Assumes nothing.
use mathlib.Core.Path.{◌≡◌}
use mathlib.Core.List.{List, []}
use Prim.Native.Nat.{ℕ}
use native.Mathlib.Omega.{arith}
use borrow.Author.Rules.{rules}
use borrow.Author.Tests.{eq-eqb, ne_eqb}
use lib.ListN.{length}
use Rattle.explain.specs.Lines.{progress, with_byte, kept_with}
use Rattle.explain.specs.CallContracts.{Puts, Takes}

-- ---- take_byte
module _ (line out : List ℕ) (c : ℕ) {line' : List ℕ} where
  pub byte_ends : {out' : List ℕ} → Puts line out out' → c ≡ 10 → line' ≡ [] → Takes (with_byte (progress out line) c) line' out' (length out) 1
  byte_ends w e z = record { keeps = rw (eq-eqb c 10 e) z; writes = rw (eq-eqb c 10 e) w.written; inside = omega (arith, w.inside) }

  pub byte_kept : (c ≡ 10 → ⊥) → line' ≡ kept_with line c → Takes (with_byte (progress out line) c) line' out (length out) 1
  byte_kept n e = record { keeps = rw (ne_eqb c 10 n) e; writes = rw (ne_eqb c 10 n); inside = omega arith }

pub ruleset byte_ways = (byte_ends, byte_kept, rules)
