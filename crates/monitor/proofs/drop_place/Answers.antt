-- The answers of `monitor::drop_place`. Assumes nothing.
use Rattle.monitor.proofs.DropWays.{drop_ways}
use Rattle.monitor.proofs.drop_place.Goals as goal

pub returns-in_err-place : goal.returns-in_err-place
returns-in_err-place c = search drop_ways

pub returns-then-is_empty : goal.returns-then-is_empty
returns-then-is_empty c = search drop_ways

pub returns : goal.returns
returns c = search drop_ways
