-- Meanings by computation. Assumes nothing.
use Prim.Native.Nat.{ℕ}
use mathlib.Core.Path.{◌≡◌, refl}
use mathlib.Core.List.{List, [], ◌∷◌}
use lib.IntN.{ℤ, pos, negsuc}
use Rattle.expression.specs.Lists.{All}
use Rattle.meanings.specs.Meanings.{lowest, highest, meant, prefix_meant, worked, worked_on}

-- ---- a meaning, two operands, and what it makes of them
abbrev Work : Type 0
Work = ℕ × ℤ × ℤ × ℤ

abbrev Works : Work → Type 0
Works (m, a, b, r) = worked (meant m) a b ≡ r

abbrev works : List Work
works =
    -- zero is false, and any other number is true
    (1, pos 0, pos 0, pos 0) ∷ (1, pos 0, negsuc 4, pos 1) ∷ (1, pos 7, pos 0, pos 1)
    ∷ (2, pos 7, pos 0, pos 0) ∷ (2, negsuc 0, pos 2, pos 1)
    -- -3 is less than 2 and at most -3; 2 equals 2
    ∷ (3, negsuc 2, pos 2, pos 1) ∷ (3, pos 2, pos 2, pos 0) ∷ (3, pos 2, negsuc 2, pos 0)
    ∷ (4, negsuc 2, negsuc 2, pos 1) ∷ (4, pos 2, negsuc 2, pos 0)
    ∷ (5, pos 2, pos 2, pos 1) ∷ (5, pos 2, negsuc 2, pos 0)
    -- sums and differences, and where they stop
    ∷ (6, pos 2, negsuc 6, negsuc 4) ∷ (6, highest, pos 1, highest) ∷ (6, lowest, negsuc 0, lowest) ∷ (6, highest, lowest, negsuc 0)
    ∷ (7, pos 2, pos 7, negsuc 4) ∷ (7, pos 0, lowest, highest) ∷ (7, lowest, pos 1, lowest) ∷ (7, negsuc 0, lowest, highest)
    -- the smaller and the larger
    ∷ (8, pos 2, negsuc 2, negsuc 2) ∷ (8, negsuc 2, pos 2, negsuc 2) ∷ (9, pos 2, negsuc 2, pos 2) ∷ (9, negsuc 2, pos 2, pos 2)
    -- no meaning
    ∷ (0, pos 2, pos 2, pos 0) ∷ (10, pos 2, pos 2, pos 0)
    ∷ []

pub works_hold : All Works works
works_hold =
    (refl, (refl, (refl, (refl, (refl, (refl, (refl, (refl, (refl, (refl, (refl, (refl, (refl, (refl, (refl, (refl, (refl, (refl, (refl, (refl, (refl, (refl, (refl, (refl, (refl, (refl, tt))))))))))))))))))))))))))

-- ---- a meaning of prefix operators, the operand, and what it makes of it
abbrev PrefixWork : Type 0
PrefixWork = ℕ × ℤ × ℤ

abbrev PrefixWorks : PrefixWork → Type 0
PrefixWorks (m, a, r) = worked_on (prefix_meant m) a ≡ r

abbrev prefix_works : List PrefixWork
prefix_works =
    (10, pos 0, pos 1) ∷ (10, pos 7, pos 0) ∷ (10, negsuc 4, pos 0)
    -- minus of the lowest number is the highest
    ∷ (11, pos 7, negsuc 6) ∷ (11, negsuc 4, pos 5) ∷ (11, pos 0, pos 0) ∷ (11, highest, negsuc 2147483646) ∷ (11, lowest, highest)
    -- no meaning
    ∷ (7, pos 2, pos 0) ∷ (12, pos 2, pos 0)
    ∷ []

pub prefix_works_hold : All PrefixWorks prefix_works
prefix_works_hold = (refl, (refl, (refl, (refl, (refl, (refl, (refl, (refl, (refl, (refl, tt))))))))))
