-- The answer of `sheet::lists::put_kinds`. Assumes nothing.
use Rattle.sheet.proofs.ListWays.{kinds_put}
use Rattle.sheet.proofs.lists.put_kinds.Goals as goal

pub returns : goal.returns
returns c = kinds_put _ _ _ c.requires.0 c.requires.1 c.copy.ensures
