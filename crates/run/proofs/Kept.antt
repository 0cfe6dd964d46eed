-- Every promise of the panel's calls is kept, after every list of calls. Assumes nothing.
use mathlib.Core.List.{List}
use Rattle.run.specs.Call.{Call}
use Rattle.run.specs.Requests.{Kept}
use Rattle.run.proofs.Demand1.{demand_1}
use Rattle.run.proofs.Demand2.{demand_2}
use Rattle.run.proofs.Demand3.{demand_3}
use Rattle.run.proofs.ShortestRows.{shortest_rows}
use Rattle.run.proofs.ReadFromTheLeft.{read_from_the_left}
use Rattle.run.proofs.ChainedPatterns.{chained_patterns}
use Rattle.run.proofs.OtherRules.{other_rules_exclude_nothing}
use Rattle.run.proofs.StageThenSwitch.{stage_then_switch}
use Rattle.run.proofs.BindingPowers.{binding_powers}
use Rattle.run.proofs.ClaimedTrees.{claimed_trees}
use Rattle.run.proofs.Explanations.{explanations}

pub kept : (cs : List Call) → Kept cs
kept cs =
    record {
      demand_1 = demand_1;
      demand_2 = demand_2 cs;
      demand_3 = demand_3 cs;
      shortest_rows = shortest_rows cs;
      read_from_the_left = read_from_the_left cs;
      chained_patterns = chained_patterns;
      other_rules_exclude_nothing = other_rules_exclude_nothing;
      stage_then_switch = stage_then_switch cs;
      binding_powers = binding_powers cs;
      claimed_trees = claimed_trees cs;
      explanations = explanations cs;
    }
