-- W5 holds of any operators: other rules with a prefix operator exclude nothing. Assumes nothing.
use Rattle.disambiguation.proofs.OtherRules.{other_rules}
use Rattle.run.specs.Requests.{OtherRulesExcludeNothing}

pub other_rules_exclude_nothing : OtherRulesExcludeNothing
other_rules_exclude_nothing = other_rules
