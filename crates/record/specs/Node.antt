-- The node at a place of a record. Assumes nothing.
use Rattle.std.specs.Prelude.{ℕ, cond, Option, Some, None, List, ltb, length, get_or}
use Rattle.expression.specs.Token.{Class, Infix, Prefix, Opening, Closing, Reading, Meaningless, Operators, class}
use Rattle.record.specs.declared.Node.{Node}
use Rattle.record.specs.declared.Node.TheVariants as node

-- the node of a byte, by its class
abbrev pub node_of : Class → ℕ → Option Node
node_of Infix c = Some (node.Operator c)
node_of Prefix c = Some (node.Prefix c)
node_of Opening c = Some node.Bracket
node_of Closing c = None
node_of Reading c = Some (node.Reading c)
node_of Meaningless c = None

-- the node at a place, where the sheet used has these operators; past the end there is none
abbrev pub node_at : Operators → List ℕ → ℕ → Option Node
node_at ops bytes at = cond (ltb at (length bytes)) (node_of (class ops (get_or bytes at 0)) (get_or bytes at 0)) None
