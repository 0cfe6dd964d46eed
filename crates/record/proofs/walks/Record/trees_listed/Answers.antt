-- Bytes that list no trees list none with others before them. Assumes nothing.
use Rattle.record.proofs.ListedTrees.{stopped}
use Rattle.record.proofs.walks.Record.trees_listed.Goals as goal

pub returns-in_err-listed : goal.returns-in_err-listed
returns-in_err-listed c = rw c.from_residual.ensures (stopped _ _ c.loop-rest.invariant c.in-len1-up.len_at_least c.in_err-listed.ensures)
