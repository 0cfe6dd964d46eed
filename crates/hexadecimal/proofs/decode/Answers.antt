-- `hexadecimal::decode`: a line of digit pairs is read where there is room. Assumes nothing.
use Rattle.std.proofs.Common.{rules}
use Rattle.hexadecimal.proofs.TextWays.{decoded}
use Rattle.hexadecimal.proofs.decode.Goals as goal

pub returns : goal.returns
returns c = search (rules, decoded)
