-- The answers of `monitor::image`. Assumes nothing.
use Rattle.monitor.proofs.AnswerWays.{image_ways}
use Rattle.monitor.proofs.image.Goals as goal

pub returns-in_err-place : goal.returns-in_err-place
returns-in_err-place c = search image_ways

pub returns-then-out-lt-IMAGE_BYTES : goal.returns-then-out-lt-IMAGE_BYTES
returns-then-out-lt-IMAGE_BYTES c = search image_ways

pub returns : goal.returns
returns c = search image_ways
