-- How many trees bytes list one after the other, counted from their end. Assumes nothing.
use Rattle.std.specs.Prelude.{ℕ, ◌+◌, ◌-◌, cond, Some, None, List, ltb, length}
use Rattle.std.specs.Prelude as std
use Rattle.std.proofs.Math.Option.{Option, none, some}
use Rattle.expression.specs.Token.{Class, Infix, Prefix, Opening, Closing, Reading, Meaningless, Operators, class}
use Rattle.expression.specs.Tree.{Tree}
use Rattle.expression.specs.Decode.{trees_of}

-- their count, where the bytes list trees
abbrev pub listed : Option (List Tree) → std.Option ℕ
listed none = None
listed (some ts) = Some (length ts)

-- so many trees with one byte more before them, by its class
abbrev pub with_byte : Class → ℕ → std.Option ℕ
with_byte Infix m = cond (ltb m 2) None (Some (m - 1))
with_byte Prefix m = cond (ltb m 1) None (Some m)
with_byte Opening m = cond (ltb m 1) None (Some m)
with_byte Closing m = None
with_byte Reading m = Some (m + 1)
with_byte Meaningless m = None

unfoldable pub listed_in : Operators → List ℕ → std.Option ℕ
listed_in ops bytes = listed (trees_of (class ops) bytes)

-- what bytes with exactly one tree give
abbrev pub one_tree : std.Option ℕ
one_tree = Some 1
