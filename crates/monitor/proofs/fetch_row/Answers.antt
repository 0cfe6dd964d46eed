-- The answers of `monitor::fetch_row`. Assumes nothing.
use borrow.Author.Rules.{rules}
use Rattle.monitor.proofs.AnswerWays.{fetch_row_ways, row_yielded}
use Rattle.monitor.proofs.fetch_row.Goals as goal

pub returns-in_err-place : goal.returns-in_err-place
returns-in_err-place c = search fetch_row_ways

pub returns-then-is_empty : goal.returns-then-is_empty
returns-then-is_empty c = search fetch_row_ways

pub returns : goal.returns
returns c = row_yielded _ _ _ _ c.in_ok-place.ensures c.in_ok-place.place.below c.held_record-bytes.ensures (search rules) c.yield_row.ensures
