-- `explain::reply::reply_to_frame`: the frame of a sheet is explained, and any other is refused. Assumes nothing.
use Rattle.explain.proofs.ReplyWays.{frame_ways}
use Rattle.explain.proofs.reply.reply_to_frame.Goals as goal
use Rattle.explain.proofs.reply.reply_to_frame.Goals.{in_default-via-then-bytes-lt2, in_default-via-in-len2-up+else-kind-eq-SHEET}

pub returns-in-len2-up : goal.returns-in-len2-up
returns-in-len2-up c = search frame_ways

pub returns-in_default : goal.returns-in_default
returns-in_default c =
    elim c.in_default.branch [ in_default-via-then-bytes-lt2 w ↦ search frame_ways | in_default-via-in-len2-up+else-kind-eq-SHEET w ↦ search frame_ways ]
