-- The answers of `places::Store::clear`. Assumes nothing.
use Rattle.places.proofs.Ways.{clear_ways}
use Rattle.places.proofs.Store.clear.Goals as goal

pub returns : goal.returns
returns c = let zeros = c.fill.ensures.after (λ y e. e) in search clear_ways

pub returns-then-place-ge-PLACE_COUNT : goal.returns-then-place-ge-PLACE_COUNT
returns-then-place-ge-PLACE_COUNT c = search clear_ways
