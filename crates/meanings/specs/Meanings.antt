-- The meanings of operators (docs/REFERENCE.md, section 7), over the integers. Assumes nothing.
use Rattle.std.specs.Prelude.{ℕ, zero, suc, Bool, true, false, not, ◌||◌, ◌&&◌, cond, List, [], ◌∷◌, eqb, ℤ, pos, negsuc, ◌+ℤ◌, ◌-ℤ◌}
use Rattle.std.proofs.Math.Option.{Option, none, some}
use Rattle.std.specs.Int.Signed.{lt_z, le_z}

-- of infix operators
pub data Meaning : Type 0 where
  Or And Less AtMost Equal Sum Difference Smaller Larger : Meaning

-- of prefix operators
pub data PrefixMeaning : Type 0 where
  Not Minus : PrefixMeaning

-- in the order of their numbers, 1 to 9
abbrev pub in_order : List Meaning
in_order = Or ∷ And ∷ Less ∷ AtMost ∷ Equal ∷ Sum ∷ Difference ∷ Smaller ∷ Larger ∷ []

abbrev pub entry : {A : Type 0} → List A → ℕ → Option A
entry [] i = none
entry (x ∷ xs) zero = some x
entry (x ∷ xs) (suc i) = entry xs i

-- the meaning with that number for infix operators; 0 and numbers over 9 have none
abbrev pub meant : ℕ → Option Meaning
meant zero = none
meant (suc i) = entry in_order i

-- the one for prefix operators: 10 and 11 have one
abbrev pub prefix_meant : ℕ → Option PrefixMeaning
prefix_meant n = cond (eqb n 10) (some Not) (cond (eqb n 11) (some Minus) none)

abbrev pub is_missing : {A : Type 0} → Option A → Bool
is_missing none = true
is_missing (some m) = false

-- the ends of the 32-bit range, -2147483648 and 2147483647
abbrev pub lowest : ℤ
lowest = negsuc 2147483647

abbrev pub highest : ℤ
highest = pos 2147483647

-- a number that leaves the range is held at the end that it passes
abbrev pub at_ends : ℤ → ℤ
at_ends z = cond (lt_z z lowest) lowest (cond (lt_z highest z) highest z)

-- zero is false, and all else is true
abbrev pub is_true : ℤ → Bool
is_true (pos zero) = false
is_true (pos (suc n)) = true
is_true (negsuc n) = true

-- a truth answer is 0 or 1
abbrev pub truth : Bool → ℤ
truth false = pos 0
truth true = pos 1

abbrev pub same : ℤ → ℤ → Bool
same (pos a) (pos b) = eqb a b
same (pos a) (negsuc b) = false
same (negsuc a) (pos b) = false
same (negsuc a) (negsuc b) = eqb a b

-- What a meaning makes of the values of the left and of the right operand.
abbrev pub applied : Meaning → ℤ → ℤ → ℤ
applied Or a b = truth (is_true a || is_true b)
applied And a b = truth (is_true a && is_true b)
applied Less a b = truth (lt_z a b)
applied AtMost a b = truth (le_z a b)
applied Equal a b = truth (same a b)
applied Sum a b = at_ends (a +ℤ b)
applied Difference a b = at_ends (a -ℤ b)
applied Smaller a b = cond (lt_z b a) b a
applied Larger a b = cond (lt_z a b) b a

-- And of the value of the only operand.
abbrev pub applied_to : PrefixMeaning → ℤ → ℤ
applied_to Not a = truth (not (is_true a))
applied_to Minus a = at_ends (pos 0 -ℤ a)

-- 0, where there is no meaning
abbrev pub worked : Option Meaning → ℤ → ℤ → ℤ
worked none a b = pos 0
worked (some m) a b = applied m a b

abbrev pub worked_on : Option PrefixMeaning → ℤ → ℤ
worked_on none a = pos 0
worked_on (some m) a = applied_to m a
