-- `panel::lines::finish`: an empty line is none, and any other is answered. Assumes nothing.
use Rattle.std.proofs.Common.{◌≡◌, ◌≢◌, length, arith}
use Rattle.std.proofs.lemmas.Grind.{common_steps}
use Rattle.panel.proofs.LinesWays.{finished_none, finished_line}
use Rattle.panel.proofs.lines.finish.Goals as goal

pub returns-then-not-is_empty : goal.returns-then-not-is_empty
returns-then-not-is_empty c = let n : length c.args.line.now ≢ 0 = grind (arith, common_steps) in finished_line _ c.args.line.now c.answer.ensures c.requires n

pub returns-else-not-is_empty : goal.returns-else-not-is_empty
returns-else-not-is_empty c = let n : length c.args.line.now ≡ 0 = grind (arith, common_steps) in finished_none _ c.args.line.now n c.requires
