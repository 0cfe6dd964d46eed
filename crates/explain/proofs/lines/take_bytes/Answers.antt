-- `explain::lines::take_bytes`: one byte more is taken, and at the end all are. Assumes nothing.
use Rattle.explain.proofs.ReadWays.{bytes_ways}
use Rattle.explain.proofs.lines.take_bytes.Goals as goal

pub loop-byte-init : goal.loop-byte-init
loop-byte-init c = search bytes_ways

pub loop-byte-preserved : goal.loop-byte-preserved
loop-byte-preserved c = search bytes_ways

pub take_byte-requires : goal.take_byte-requires
take_byte-requires c = search bytes_ways

pub returns : goal.returns
returns c = search bytes_ways
