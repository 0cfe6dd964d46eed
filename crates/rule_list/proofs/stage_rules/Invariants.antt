-- In the loop of `rule_list::stage_rules`, the records before this one are written. Assumes nothing.
use Rattle.std.proofs.Common.{◌≡◌}
use Rattle.rule_list.proofs.Bytes.{written_to}
use Rattle.rule_list.proofs.stage_rules.Given as goal

abbrev pub invariant-loop-i : goal.invariant-loop-i
invariant-loop-i l = l.bytes ≡ written_to l.rules l.i l.initial.bytes
