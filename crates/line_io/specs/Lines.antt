-- Lines of characters: where one ends. Assumes nothing.
use Rattle.std.specs.Prelude.{ℕ, suc, ◌+◌, ◌<◌, ◌≤◌, ◌≡◌, Bool, false, ◌||◌, cond, List, [], ◌∷◌, eqb, length, drop, Option, Some, None, IfSome}

abbrev pub line_feed : ℕ
line_feed = 10

-- how many characters stand before the first line end; all of them where there is none
unfoldable pub before_end : List ℕ → ℕ
before_end [] = 0
before_end (c ∷ s) = cond (eqb c line_feed) 0 (suc (before_end s))

-- the place of the first line end from a place on; the length where there is none, from a place inside
unfoldable pub line_end : List ℕ → ℕ → ℕ
line_end s from = from + before_end (drop from s)

-- a line end stands among the characters
unfoldable pub has_end : List ℕ → Bool
has_end [] = false
has_end (c ∷ s) = eqb c line_feed || has_end s

-- The answer of looking for a line end from a place on, and where it lies.
pub record Ends (s : List ℕ) (from : ℕ) (r : Option ℕ) : Type 0 where
  pub place : r ≡ cond (has_end (drop from s)) (Some (line_end s from)) None
  pub inside : IfSome r (λ end. (from ≤ end) × (end < length s))
