-- Rules as a lent list of records, and their bytes in a buffer. Assumes nothing.
use Rattle.std.specs.Prelude.{ℕ, ◌+◌, ◌*◌, ◌≡◌, List, [], ◌∷◌, set, take, drop}
use Rattle.expression.specs.Limits.{most_operators}
use Rattle.disambiguation.specs.Rules as rules
use Rattle.disambiguation.specs.SheetChecks.{rule_bytes}
use Rattle.run.specs.Call.{stage_list}
use Rattle.monitor.specs.CallContracts.{Stages}
use Rattle.rule_list.specs.declared.Rule.{Rule}

-- the rule that a record gives
abbrev pub rule_of : Rule → rules.Rule
rule_of r = rules.rule r.kind r.first r.second

unfoldable pub rules_in : List Rule → List rules.Rule
rules_in [] = []
rules_in (r ∷ rs) = rule_of r ∷ rules_in rs

-- the buffer with the bytes of record i at their place
abbrev pub put_at : List ℕ → ℕ → Rule → List ℕ
put_at bytes i r =
    let at = most_operators + i * 3 in
    set (set (set bytes at r.kind) (at + 1) r.first) (at + 2) r.second

-- The staging with a list of kinds, and with the rules whose bytes are the buffer's first 3 * count after the room for the kinds.
pub record StagesList (staged : List ℕ) (n : ℕ) (kinds buffer : List ℕ) (count r : ℕ) (later : List ℕ) : Type 0 where
  pub stages : (list : List rules.Rule) → take (count * 3) (drop most_operators buffer) ≡ rule_bytes list → Stages staged (stage_list n kinds list) r later
