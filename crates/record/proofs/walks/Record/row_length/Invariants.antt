-- The brackets counted are those of the bytes gone through. Assumes nothing.
use Rattle.std.proofs.Common.{◌≡◌, ◌≤◌, take}
use Rattle.expression.specs.Lists.{how_many}
use Rattle.expression.proofs.Lengths.{is_opening}
use Rattle.record.proofs.walks.Record.row_length.Given as goal

abbrev pub invariant-loop-byte : goal.invariant-loop-byte
invariant-loop-byte l = (l.brackets ≤ l.byte-index) × (l.brackets ≡ how_many is_opening (take l.byte-index l.self.bytes.now))
