-- In the readers of expressions and operands, the tokens that are left fall. Assumes nothing.
use Rattle.std.proofs.Common.{◌+◌, ◌-◌, ◌*◌, length}
use Rattle.sheet.specs.Layout.{operators_of}
use Rattle.parser.specs.Rows.{Continues}
use Rattle.parser.proofs.row.Row.+readers.Given as goal

abbrev pub decreases-expression_end : goal.decreases-expression_end
decreases-expression_end l = 2 * (length l.self.now.tokens.now - l.at) + 1

abbrev pub decreases-operand_end : goal.decreases-operand_end
decreases-operand_end l = 2 * (length l.self.now.tokens.now - l.at)

-- what was passed leads on to the place
abbrev pub invariant-expression_end-parts : goal.invariant-expression_end-parts
invariant-expression_end-parts l = Continues (operators_of l.self.sheet.now) l.self.tokens.now l.at l.next

abbrev pub decreases-expression_end-parts : goal.decreases-expression_end-parts
decreases-expression_end-parts l = length l.self.tokens.now - l.next
