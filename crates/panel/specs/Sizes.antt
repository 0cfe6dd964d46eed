-- The lengths of the program's buffers. Assumes nothing.
use Rattle.std.specs.Prelude.{ℕ, ◌+◌, ◌-◌}
use Rattle.frame.specs.Lines.{most_characters}
use Rattle.frame.specs.CallContracts.{most_reply}

-- bytes of a block of input or output
abbrev pub block : ℕ
block = 65536

-- of an unfinished line so many characters are kept: one more than a line may have
abbrev pub most_kept : ℕ
most_kept = most_characters + 1

-- what is read into: an unfinished line and a block behind it
abbrev pub buffer_bytes : ℕ
buffer_bytes = most_kept + block

-- the reply to a line and its line end are no longer
abbrev pub most_reply_line : ℕ
most_reply_line = most_reply + 1

-- with so much of the output filled there is room for one more reply and its line end
abbrev pub most_filled : ℕ
most_filled = block - most_reply_line
