-- The answers of `places::Store::put`. Assumes nothing.
use Rattle.places.proofs.Ways.{put_ways}
use Rattle.places.proofs.Store.put.Goals as goal

pub returns-then-bytes-gt-MOST_RECORD_BYTES : goal.returns-then-bytes-gt-MOST_RECORD_BYTES
returns-then-bytes-gt-MOST_RECORD_BYTES c = search put_ways

pub returns : goal.returns
returns c = search put_ways

pub returns-then-place-ge-PLACE_COUNT : goal.returns-then-place-ge-PLACE_COUNT
returns-then-place-ge-PLACE_COUNT c = search put_ways
