-- What an evaluation of a place answers, for every panel value. Assumes nothing.
use Rattle.std.specs.Prelude.{ℕ, ◌≡◌, List, [], ◌∷◌, ◌++◌, ℤ, pos}
use Rattle.std.proofs.Math.Option.{Option, none, some}
use Rattle.expression.specs.Refusal.{Check, first}
use Rattle.expression.specs.Token.{Operators, class}
use Rattle.expression.specs.Tree.{Tree}
use Rattle.expression.specs.Decode.{tree_of}
use Rattle.expression.specs.Checks.{record_checks}
use Rattle.run.specs.Places.{held}
use Rattle.run.specs.Panel.{Panel, panel, place_check, empty_check, if_accepted}
use Rattle.run.specs.Steps.{ops}
use Rattle.evaluator.specs.Value.{value, tree_checks}
use Rattle.evaluator.specs.declared.Evaluation.{Evaluation}

-- the value is 0 after a refusal
abbrev pub evaluated : ℕ → ℤ → Evaluation
evaluated number v = record { number = number; value = if_accepted number v (pos 0) }

module _ (meanings : List ℕ) (readings : List ℤ) where
  -- of a tree
  abbrev pub evaluation_of_tree : Tree → Evaluation
  evaluation_of_tree t = evaluated (first (tree_checks meanings readings t)) (value meanings readings t)

  -- of what bytes are read as: nothing, where they are no tree
  abbrev pub checks_in : Option Tree → List Check
  checks_in none = []
  checks_in (some t) = tree_checks meanings readings t

  abbrev pub value_in : Option Tree → ℤ
  value_in none = pos 0
  value_in (some t) = value meanings readings t

  -- Of a record: its own numbers, which a fetch of its row gives too, then those of its tree.
  abbrev pub record_and_tree : Operators → List ℕ → List Check
  record_and_tree ops bytes = record_checks ops bytes ++ checks_in (tree_of (class ops) bytes)

  unfoldable pub number_of : Operators → List ℕ → ℕ
  number_of ops bytes = first (record_and_tree ops bytes)

  unfoldable pub evaluation_of_record : Operators → List ℕ → Evaluation
  evaluation_of_record ops bytes = evaluated (number_of ops bytes) (value_in (tree_of (class ops) bytes))

  -- Of a place, the first that applies: 8, 9, the number of the record that it holds, 13, 14. After a run of calls every held record is one of a tree, and its own number is 0.
  unfoldable pub evaluation : Panel → ℕ → Evaluation
  evaluation p k =
      let bytes = held p.places k in
      evaluated (first (place_check k ∷ empty_check bytes ∷ record_and_tree (ops p) bytes)) (value_in (tree_of (class (ops p)) bytes))

  -- An evaluation looks at nothing that is staged: it answered r, whatever that is.
  pub record EvaluatesOn (sheet : List ℕ) (places : List (List ℕ)) (k : ℕ) (r : Evaluation) : Type 0 where
    pub answers : (staged : List ℕ) → r ≡ evaluation (panel sheet staged places) k
