-- The answers of `places::write::image`. Assumes nothing.
use borrow.Author.Rules.{rules}
use Rattle.places.proofs.Writes.{image_parts}
use Rattle.places.proofs.write.image.Goals as goal

pub returns : goal.returns
returns c = search (image_parts, rules)
