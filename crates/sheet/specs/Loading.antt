-- What loading a sheet answers, and the lent sheet after it. Assumes nothing.
use Rattle.std.specs.Prelude.{ℕ, ◌-◌, ◌%◌, ◌≡◌, not, ◌||◌, cond, List, [], ◌∷◌, eqb, ltb, set, Result, MatchResult}
use Rattle.expression.specs.Limits.{most_operators, most_rule_bytes, bytes_of_rule}
use Rattle.expression.specs.Refusal.{first, accepted, oversize, torn}
use Rattle.expression.specs.Outcome.{number_of}
use Rattle.expression.specs.declared.refusal.Refusal.{Refusal}
use Rattle.disambiguation.specs.Rules.{Rule}
use Rattle.disambiguation.specs.SheetChecks.{kinds_in, rules_in, order_checks, sheet_number}
use Rattle.relation.specs.Relating.{closes_words, yields_words}
use Rattle.relation.specs.declared.relations.Relations.{Relations}
use Rattle.sheet.specs.Layout.{count_word, prefix_word_at, loaded_word}
use Rattle.sheet.specs.Kinds.{prefix_word}

-- 1 and 2: the checks of n and of the number of bytes after it
unfoldable pub size_number : ℕ → ℕ → ℕ
size_number n size =
    first ((ltb most_operators n || ltb most_rule_bytes (size - n), oversize) ∷ (ltb size n || not (eqb ((size - n) % bytes_of_rule) 0), torn) ∷ [])

-- A sheet of n operators read: 1, 2, 3 or 0, and where that is 0 the set of its prefix operators, and its relations.
pub record ReadsSheet (n : ℕ) (bytes : List ℕ) (r word : ℕ) (closes yields : List ℕ) : Type 0 where
  pub number : r ≡ first (order_checks n bytes)
  pub word_is : r ≡ accepted → word ≡ prefix_word (kinds_in n bytes) n
  pub closes_is : r ≡ accepted → closes ≡ closes_words n (rules_in n bytes)
  pub yields_is : r ≡ accepted → yields ≡ yields_words n (rules_in n bytes)

-- What the reading comes to: the relations of n operators, or the refusal.
abbrev pub MakesSheet : ℕ → List ℕ → Result Relations Refusal → Type 0
MakesSheet n bytes r =
    MatchResult r (λ made. (made.count.n ≡ n) × ReadsSheet n bytes accepted made.prefixes made.closes made.yields)
    (λ e. number_of e ≡ first (order_checks n bytes))

-- The sheet that is made of n kinds and rules.
unfoldable pub sheet_of : ℕ → List ℕ → List Rule → List ℕ
sheet_of n kinds rules = set (set (set (closes_words n rules) count_word n) prefix_word_at (prefix_word kinds n)) loaded_word 1

-- A load of n operators with the kinds and rules of the bytes answered r, and the lent sheet became `after`: it is written only where the load is accepted.
pub record Loads (before : List ℕ) (n : ℕ) (bytes : List ℕ) (r : ℕ) (after : List ℕ) : Type 0 where
  pub number : r ≡ sheet_number n bytes
  pub stands : after ≡ cond (eqb (sheet_number n bytes) accepted) (sheet_of n (kinds_in n bytes) (rules_in n bytes)) before
