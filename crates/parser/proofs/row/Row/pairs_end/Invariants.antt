-- In the loop of `parser::row::Row::pairs_end`, the tokens before the place lead on to it. Assumes nothing.
use Prim.Native.Nat.{◌-◌}
use lib.ListN.{length}
use Rattle.sheet.specs.Layout.{operators_of}
use Rattle.parser.specs.Rows.{Continues}
use Rattle.parser.proofs.row.Row.pairs_end.Given as goal

abbrev pub invariant-loop-next : goal.invariant-loop-next
invariant-loop-next l = Continues (operators_of l.self.sheet.now) l.self.tokens.now l.at l.next

abbrev pub decreases-loop-next : goal.decreases-loop-next
decreases-loop-next l = length l.self.tokens.now - l.next
