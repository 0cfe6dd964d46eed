-- `hexadecimal::encode`: the text is written where there is room. Assumes nothing.
use Rattle.std.proofs.Common.{rules}
use Rattle.hexadecimal.proofs.TextWays.{no_text, encoded}
use Rattle.hexadecimal.proofs.encode.Goals as goal

pub returns-then-out-bytes : goal.returns-then-out-bytes
returns-then-out-bytes c = search (rules, no_text)

pub returns : goal.returns
returns c = search (rules, encoded)
