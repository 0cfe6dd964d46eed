-- The answers of `rule_list::stage_rules`. Assumes nothing.
use Rattle.std.proofs.Common.{◌≡◌, length, refl, arith}
use Rattle.rule_list.proofs.Bytes.{list_over, list_staged}
use Rattle.rule_list.proofs.stage_rules.Goals as goal

pub returns-then-rules-gt-MOST_RULES : goal.returns-then-rules-gt-MOST_RULES
returns-then-rules-gt-MOST_RULES c = list_over c.args.staged.now c.args.n c.args.kinds.now c.args.rules.now c.if-rules-gt-MOST_RULES.true

pub returns : goal.returns
returns c =
    let all : c.loop-i.i ≡ length c.args.rules.now = omega arith in
    list_staged c.args.staged.now c.args.n c.args.kinds.now c.args.rules.now _ refl c.if-rules-gt-MOST_RULES.false all c.loop-i.invariant c.stage_written.ensures
