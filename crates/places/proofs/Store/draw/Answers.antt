-- The answers of `places::Store::draw`. Assumes nothing.
use Rattle.places.proofs.Ways.{draw_ways}
use Rattle.places.proofs.Store.draw.Goals as goal

pub returns-then-out-lt-IMAGE_BYTES : goal.returns-then-out-lt-IMAGE_BYTES
returns-then-out-lt-IMAGE_BYTES c = search draw_ways

pub image-requires-clause-short : goal.image-requires-clause-short
image-requires-clause-short c = search draw_ways

pub returns : goal.returns
returns c = search draw_ways
