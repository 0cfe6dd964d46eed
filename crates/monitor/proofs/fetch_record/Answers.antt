-- The answers of `monitor::fetch_record`. Assumes nothing.
use Rattle.monitor.proofs.AnswerWays.{fetch_record_ways}
use Rattle.monitor.proofs.fetch_record.Goals as goal

pub returns-in_err-place : goal.returns-in_err-place
returns-in_err-place c = search fetch_record_ways

pub returns-then-is_empty : goal.returns-then-is_empty
returns-then-is_empty c = search fetch_record_ways

pub returns-then-out-bytes : goal.returns-then-out-bytes
returns-then-out-bytes c = search fetch_record_ways

pub returns : goal.returns
returns c = search fetch_record_ways
