-- The checks of a sheet whose kinds and rules come in bytes, or as lists: 1 to 5, in the order of docs/REFERENCE.md, section 4. Assumes nothing.
use Rattle.std.specs.Prelude.{ℕ, ◌%◌, Bool, not, ◌||◌, List, [], ◌∷◌, ◌++◌, eqb, ltb, length, take, drop}
use Rattle.expression.specs.Lists.{any_holds}
use Rattle.expression.specs.Limits.{most_operators, most_rules, most_rule_bytes, bytes_of_rule}
use Rattle.expression.specs.Refusal.{Check, Passed, first, oversize, torn, stranger}
use Rattle.expression.specs.Token.{prefix_kind, Operators, operators}
use Rattle.disambiguation.specs.Rules.{Rule, rule, priority, right, L, R}
use Rattle.disambiguation.specs.Verdict.{rule_checks}

-- The rules that bytes list, three a rule: kind, first, second. What is left over is none.
abbrev pub rules_of : List ℕ → List Rule
rules_of [] = []
rules_of (k ∷ []) = []
rules_of (k ∷ a ∷ []) = []
rules_of (k ∷ a ∷ b ∷ rest) = rule k a b ∷ rules_of rest

-- the bytes of rules, three a rule
unfoldable pub rule_bytes : List Rule → List ℕ
rule_bytes [] = []
rule_bytes (r ∷ rs) = r.kind ∷ r.first ∷ r.second ∷ rule_bytes rs

-- the kind is not 01 to 03, or an operator is not below n
abbrev pub strange_rule : ℕ → Rule → Bool
strange_rule n r = ltb r.kind priority || ltb right r.kind || not (ltb r.first n) || not (ltb r.second n)

-- the kind of an operator is neither 00 nor 01
abbrev pub strange_kind : ℕ → Bool
strange_kind kind = ltb prefix_kind kind

-- A sheet's bytes after n: n kind bytes, then the rules.
module _ (n : ℕ) (bytes : List ℕ) where
  abbrev pub kinds_in : List ℕ
  kinds_in = take n bytes

  abbrev pub rules_in : List Rule
  rules_in = rules_of (drop n bytes)

  abbrev pub operators_in : Operators
  operators_in = operators n kinds_in

  -- 1, 2, 3
  abbrev pub order_checks : List Check
  order_checks =
      (ltb most_operators n || ltb most_rule_bytes (length (drop n bytes)), oversize)
      ∷ (ltb (length bytes) n || not (eqb (length (drop n bytes) % bytes_of_rule) 0), torn)
      ∷ (any_holds strange_kind kinds_in || any_holds (strange_rule n) rules_in, stranger)
      ∷ []

  -- A sheet's bytes are in order if 1, 2 and 3 don't apply.
  abbrev pub InOrder : Type 0
  InOrder = Passed order_checks

  -- The number of a sheet: 1, 2, 3, 4, 5 or 0.
  unfoldable pub sheet_number : ℕ
  sheet_number = first (order_checks ++ rule_checks operators_in (L rules_in) (R rules_in))

-- Kinds and rules as lists: over 2,048 records is 1, and any number of kinds but n is 2.
module _ (n : ℕ) (kinds : List ℕ) (rules : List Rule) where
  abbrev pub list_order_checks : List Check
  list_order_checks =
      (ltb most_operators n || ltb most_rules (length rules), oversize)
      ∷ (not (eqb (length kinds) n), torn)
      ∷ (any_holds strange_kind kinds || any_holds (strange_rule n) rules, stranger)
      ∷ []

  abbrev pub ListInOrder : Type 0
  ListInOrder = Passed list_order_checks

  unfoldable pub list_number : ℕ
  list_number = first (list_order_checks ++ rule_checks (operators n kinds) (L rules) (R rules))
