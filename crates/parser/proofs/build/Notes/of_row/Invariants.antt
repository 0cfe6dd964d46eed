-- In the loop of `parser::build::Notes::of_row`, the tokens before the place are taken. Assumes nothing.
use Rattle.sheet.specs.Layout.{operators_of}
use Rattle.sheet.specs.Relation.{closes_in}
use Rattle.parser.proofs.BuildWays.{Reading}
use Rattle.parser.proofs.build.Notes.of_row.Given as goal

abbrev pub invariant-loop-token : goal.invariant-loop-token
invariant-loop-token l = Reading (operators_of l.sheet) (closes_in l.sheet) l.row l.notes l.token-index
