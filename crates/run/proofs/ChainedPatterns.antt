-- W4 holds of any rules: the excluded patterns are those that chains of priority, left and right give. Assumes nothing.
use Rattle.disambiguation.proofs.LeadsDecided.{patterns}
use Rattle.run.specs.Requests.{ChainedPatterns}

pub chained_patterns : ChainedPatterns
chained_patterns = patterns
