-- Tests over the elements of a list. Assumes nothing.
use Rattle.std.specs.Prelude.{ℕ, ◌+◌, Bool, true, false, ◌||◌, cond, List, [], ◌∷◌}

-- the test holds of some element
abbrev pub any_holds : {A : Type 0} → (A → Bool) → List A → Bool
any_holds p [] = false
any_holds p (x ∷ xs) = p x || any_holds p xs

abbrev pub one_if : Bool → ℕ
one_if true = 1
one_if false = 0

-- of how many elements it holds
abbrev pub how_many : {A : Type 0} → (A → Bool) → List A → ℕ
how_many p [] = 0
how_many p (x ∷ xs) = one_if (p x) + how_many p xs

-- the elements of which it holds, in their order
abbrev pub selected : {A : Type 0} → (A → Bool) → List A → List A
selected p [] = []
selected p (x ∷ xs) = cond (p x) (x ∷ selected p xs) (selected p xs)

-- the statement holds of each element
abbrev pub All : {A : Type 0} → (A → Type 0) → List A → Type 0
All P [] = Unit {0}
All P (x ∷ xs) = P x × All P xs
