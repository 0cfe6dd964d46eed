-- Reading a record back into its tree: from its end, on a stack of trees. Assumes nothing.
use Rattle.std.specs.Prelude.{ℕ, List, [], ◌∷◌}
use Rattle.std.proofs.Math.Option.{Option, none, some}
use Rattle.expression.specs.Token.{Class, Infix, Prefix, Opening, Closing, Reading, Meaningless}
use Rattle.expression.specs.Tree.{Tree, reading, bracket, binary, prefix}

abbrev pub and_then : {A B : Type 0} → Option A → (A → Option B) → Option B
and_then none f = none
and_then (some a) f = f a

-- the first tree, made into another
abbrev pub wrap_top : (Tree → Tree) → List Tree → Option (List Tree)
wrap_top wrap [] = none
wrap_top wrap (t ∷ ts) = some (wrap t ∷ ts)

abbrev pub join_tops : ℕ → List Tree → Option (List Tree)
join_tops o [] = none
join_tops o (l ∷ []) = none
join_tops o (l ∷ r ∷ ts) = some (binary o l r ∷ ts)

-- a byte before the trees that follow it
abbrev pub prepend : Class → ℕ → List Tree → Option (List Tree)
prepend Infix c ts = join_tops c ts
prepend Prefix c ts = wrap_top (prefix c) ts
prepend Opening c ts = wrap_top bracket ts
prepend Closing c ts = none
prepend Reading c ts = some (reading c ∷ ts)
prepend Meaningless c ts = none

abbrev pub only : List Tree → Option Tree
only [] = none
only (t ∷ []) = some t
only (t ∷ u ∷ ts) = none

module _ (k : ℕ → Class) where
  -- the trees that the bytes list one after the other
  abbrev pub trees_of : List ℕ → Option (List Tree)
  trees_of [] = some []
  trees_of (c ∷ cs) = and_then (trees_of cs) (prepend (k c) c)

  -- the tree that the bytes are the record of, if they are exactly one
  unfoldable pub tree_of : List ℕ → Option Tree
  tree_of bytes = and_then (trees_of bytes) only
