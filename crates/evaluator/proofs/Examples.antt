-- Values and numbers by computation. Assumes nothing.
use Prim.Native.Nat.{ℕ}
use mathlib.Core.Path.{◌≡◌, refl}
use mathlib.Core.List.{List, [], ◌∷◌}
use lib.IntN.{ℤ, pos, negsuc}
use Rattle.expression.specs.Lists.{All}
use Rattle.expression.specs.Token.{infix_kind, prefix_kind, Operators, operators, class}
use Rattle.expression.specs.Tree.{Tree, reading, bracket, binary, prefix}
use Rattle.expression.specs.Decode.{tree_of}
use Rattle.meanings.specs.Meanings.{lowest, highest}
use Rattle.evaluator.specs.Evaluation.{evaluation_of_tree, number_of, evaluation_of_record}

-- ---- a tree with meanings and readings, and what its evaluation answers
abbrev Case : Type 0
Case = Tree × List ℕ × List ℤ × ℕ × ℤ

abbrev Answers : Case → Type 0
Answers (t, meanings, readings, number, value) = evaluation_of_tree meanings readings t ≡ record { number = number; value = value }

-- operator 0 under operator 1, the left one
abbrev nested : Tree
nested = binary 1 (bracket (binary 0 (reading 0x80) (reading 0x81))) (reading 0x82)

-- prefix operator 1 under operator 0, and under itself
abbrev mixed : Tree
mixed = binary 0 (reading 0x80) (prefix 1 (reading 0x81))

abbrev twice : Tree
twice = prefix 1 (prefix 1 (reading 0x80))

abbrev cases : List Case
cases =
    -- the sum stops, and the difference goes on from there
    (nested, 6 ∷ 7 ∷ [], highest ∷ pos 9 ∷ pos 1 ∷ [], 0, pos 2147483646)
    -- a holdover of 5,000 seconds, against the limits of two sites; the antenna is not lost
    ∷ (nested, 3 ∷ 1 ∷ [], pos 14400 ∷ pos 5000 ∷ pos 0 ∷ [], 0, pos 0)
    ∷ (nested, 3 ∷ 1 ∷ [], pos 1200 ∷ pos 5000 ∷ pos 0 ∷ [], 0, pos 1)
    -- 13 for an operator under a bracket, also where the list of meanings ends before it, and before 14
    ∷ (nested, 0 ∷ 1 ∷ [], pos 1 ∷ pos 1 ∷ pos 1 ∷ [], 13, pos 0)
    ∷ (nested, 1 ∷ [], [], 13, pos 0)
    -- 14 for the last reading
    ∷ (nested, 1 ∷ 1 ∷ [], pos 1 ∷ pos 1 ∷ [], 14, pos 0)
    -- 80 and not 81; the sum of 80 and minus 81
    ∷ (mixed, 2 ∷ 10 ∷ [], pos 3 ∷ pos 0 ∷ [], 0, pos 1)
    ∷ (mixed, 2 ∷ 10 ∷ [], pos 3 ∷ pos 4 ∷ [], 0, pos 0)
    ∷ (mixed, 6 ∷ 11 ∷ [], pos 3 ∷ pos 4 ∷ [], 0, negsuc 0)
    -- minus minus the lowest number is not the lowest
    ∷ (twice, 0 ∷ 11 ∷ [], lowest ∷ [], 0, negsuc 2147483646)
    -- 13 where a meaning does not suit the operator's kind, and before 14
    ∷ (mixed, 10 ∷ 10 ∷ [], pos 1 ∷ pos 1 ∷ [], 13, pos 0)
    ∷ (mixed, 6 ∷ 7 ∷ [], pos 1 ∷ pos 1 ∷ [], 13, pos 0)
    ∷ (mixed, 6 ∷ 7 ∷ [], [], 13, pos 0)
    ∷ (mixed, 6 ∷ 11 ∷ [], pos 1 ∷ [], 14, pos 0)
    ∷ []

pub cases_hold : All Answers cases
cases_hold = (refl, (refl, (refl, (refl, (refl, (refl, (refl, (refl, (refl, (refl, (refl, (refl, (refl, (refl, tt))))))))))))))

-- ---- a record under the operators of a sheet, and what its evaluation answers
abbrev RecordCase : Type 0
RecordCase = Operators × List ℕ × List ℕ × List ℤ × ℕ × ℤ

abbrev RecordAnswers : RecordCase → Type 0
RecordAnswers (ops, bytes, meanings, readings, number, value) = evaluation_of_record meanings readings ops bytes ≡ record { number = number; value = value }

-- operator 0 is infix and operator 1 prefix
abbrev kinds : Operators
kinds = operators 2 (infix_kind ∷ prefix_kind ∷ [])

abbrev record_cases : List RecordCase
record_cases =
    -- not 80, by its value
    (kinds, 1 ∷ 0x80 ∷ [], 6 ∷ 10 ∷ [], pos 0 ∷ [], 0, pos 1)
    ∷ (kinds, 1 ∷ 0x80 ∷ [], 6 ∷ 10 ∷ [], pos 5 ∷ [], 0, pos 0)
    -- the meaning of an operator that the tree lacks does not matter
    ∷ (kinds, 1 ∷ 0x80 ∷ [], 10 ∷ 10 ∷ [], pos 5 ∷ [], 0, pos 0)
    -- 13 for either kind, before 14
    ∷ (kinds, 1 ∷ 0x80 ∷ [], 6 ∷ 7 ∷ [], [], 13, pos 0)
    ∷ (kinds, 0 ∷ 0x80 ∷ 0x81 ∷ [], 10 ∷ 10 ∷ [], [], 13, pos 0)
    ∷ []

pub record_cases_hold : All RecordAnswers record_cases
unfolding evaluation_of_record number_of tree_of class
record_cases_hold = (refl, (refl, (refl, (refl, (refl, tt)))))
