-- The lengths and counts of docs/REFERENCE.md, section 4, each named once. Assumes nothing.
use Rattle.std.specs.Prelude.{ℕ, ◌*◌}

-- a sheet's operators: the count n is 0 to 32
abbrev pub most_operators : ℕ
most_operators = 32

-- a sheet's rules, and their bytes
abbrev pub most_rules : ℕ
most_rules = 2048

abbrev pub bytes_of_rule : ℕ
bytes_of_rule = 3

abbrev pub most_rule_bytes : ℕ
most_rule_bytes = bytes_of_rule * most_rules

-- a row's tokens, and a record's bytes
abbrev pub most_tokens : ℕ
most_tokens = 255

abbrev pub most_record_bytes : ℕ
most_record_bytes = 255
