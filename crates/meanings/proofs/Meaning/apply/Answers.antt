-- The answers of `meanings::Meaning::apply`. Assumes nothing.
use Rattle.meanings.proofs.Applying.{apply_ways}
use Rattle.meanings.proofs.Meaning.apply.Goals as goal

pub returns : goal.returns
returns c = search apply_ways
