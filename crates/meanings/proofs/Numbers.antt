-- What a number with a meaning is, for callers. Assumes nothing.
use Prim.Native.Nat.{ℕ, zero, suc, ◌≤◌}
use native.Mathlib.Omega.{arith}
use native.Mathlib.Decide.{ℕ_discrete}
use mathlib.Core.Path.{◌≡◌, refl, ap, sym, ◌∙◌}
use mathlib.Core.Bool.{true, false, true≢false}
use mathlib.Core.Option.{none, some}
use borrow.Author.Tests.{ne_eqb}
use Rattle.meanings.specs.Meanings.{PrefixMeaning, meant, prefix_meant, is_missing}

pub in_meant : (n : ℕ) → is_missing (meant n) ≡ false → 1 ≤ n
in_meant zero e = absurd (true≢false e)
in_meant (suc n) e = omega arith

pub in_prefix_meant : (n : ℕ) → is_missing (prefix_meant n) ≡ false → 1 ≤ n
in_prefix_meant zero e = absurd (true≢false e)
in_prefix_meant (suc n) e = omega arith

-- no number is one of both kinds
pub one_kind : (n : ℕ) {m : PrefixMeaning} → prefix_meant n ≡ some m → is_missing (meant n) ≡ true
one_kind n {m} e = go (ℕ_discrete n 10) (ℕ_discrete n 11)
  where
    go : Dec (n ≡ 10) → Dec (n ≡ 11) → is_missing (meant n) ≡ true
    go (yes q) _ = ap (λ k. is_missing (meant k)) q
    go (no d) (yes q) = ap (λ k. is_missing (meant k)) q
    go (no d) (no q) =
        let missing : is_missing (prefix_meant n) ≡ true = rw (ne_eqb n 10 d, ne_eqb n 11 q) in
        absurd (true≢false (sym missing ∙ ap is_missing e))
