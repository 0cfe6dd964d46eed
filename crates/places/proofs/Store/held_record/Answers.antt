-- The answers of `places::Store::held_record`. Assumes nothing.
use Rattle.places.proofs.Ways.{held_ways}
use Rattle.places.proofs.Store.held_record.Goals as goal

pub returns : goal.returns
returns c = search held_ways

pub returns-then-place-ge-PLACE_COUNT : goal.returns-then-place-ge-PLACE_COUNT
returns-then-place-ge-PLACE_COUNT c = search held_ways
