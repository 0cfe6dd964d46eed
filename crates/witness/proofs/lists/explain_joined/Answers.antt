-- The answer of `witness::lists::explain_joined`. Assumes nothing.
use Rattle.witness.proofs.ListWays.{joined_explained}
use Rattle.witness.proofs.lists.explain_joined.Goals as goal

pub returns : goal.returns
returns c = joined_explained _ _ _ c.requires.2 c.copy.ensures _ _ _ c.put_kinds-from.ensures c.explain.ensures
