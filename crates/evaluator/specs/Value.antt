-- The value of a tree, from lent meanings and readings, and what it lacks there. Assumes nothing.
use Rattle.std.specs.Prelude.{ℕ, ◌-◌, Bool, false, ◌||◌, List, [], ◌∷◌, leb, ℤ, pos, length, get_or}
use Rattle.std.proofs.Math.Option.{Option}
use Rattle.expression.specs.Refusal.{Check, no_meaning, no_reading}
use Rattle.expression.specs.Token.{first_reading}
use Rattle.expression.specs.Tree.{Tree, reading, bracket, binary, prefix}
use Rattle.meanings.specs.Meanings.{Meaning, PrefixMeaning, meant, prefix_meant, is_missing, worked, worked_on}

-- The meaning of infix operator o: byte o of the lent meanings tells. An operator beyond them has 0 there, which is no meaning.
abbrev pub meaning_in : List ℕ → ℕ → Option Meaning
meaning_in meanings o = meant (get_or meanings o 0)

-- that of prefix operator p, told alike
abbrev pub prefix_meaning_in : List ℕ → ℕ → Option PrefixMeaning
prefix_meaning_in meanings p = prefix_meant (get_or meanings p 0)

-- the place of a reading's value in the lent list: 80 has the first one
abbrev pub index_of : ℕ → ℕ
index_of a = a - first_reading

module _ (meanings : List ℕ) (readings : List ℤ) where
  -- The value of a tree; brackets pass on what is inside them.
  abbrev pub value : Tree → ℤ
  value (reading a) = get_or readings (index_of a) (pos 0)
  value (bracket t) = value t
  value (binary o l r) = worked (meaning_in meanings o) (value l) (value r)
  value (prefix p t) = worked_on (prefix_meaning_in meanings p) (value t)

-- 13: some operator of the tree, wherever it stands, has no meaning of its kind
abbrev pub lacks_meaning : List ℕ → Tree → Bool
lacks_meaning meanings (reading a) = false
lacks_meaning meanings (bracket t) = lacks_meaning meanings t
lacks_meaning meanings (binary o l r) = is_missing (meaning_in meanings o) || (lacks_meaning meanings l || lacks_meaning meanings r)
lacks_meaning meanings (prefix p t) = is_missing (prefix_meaning_in meanings p) || lacks_meaning meanings t

-- 14: some reading of the tree lies beyond the lent list
abbrev pub lacks_reading : List ℤ → Tree → Bool
lacks_reading readings (reading a) = leb (length readings) (index_of a)
lacks_reading readings (bracket t) = lacks_reading readings t
lacks_reading readings (binary o l r) = lacks_reading readings l || lacks_reading readings r
lacks_reading readings (prefix p t) = lacks_reading readings t

-- in this order: all operators are looked at before any reading
abbrev pub tree_checks : List ℕ → List ℤ → Tree → List Check
tree_checks meanings readings t = (lacks_meaning meanings t, no_meaning) ∷ (lacks_reading readings t, no_reading) ∷ []
