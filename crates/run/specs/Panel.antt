-- A panel value, and the checks and the rebuilding that its calls share. Assumes nothing.
use Rattle.std.specs.Prelude.{ℕ, zero, suc, Bool, true, false, not, ◌&&◌, ◌||◌, cond, List, [], ◌∷◌, eqb, ltb}
use Rattle.expression.specs.Lists.{any_holds}
use Rattle.expression.specs.Limits.{most_operators}
use Rattle.expression.specs.Refusal.{Check, accepted, place, empty, in_use, nothing_staged}
use Rattle.expression.specs.Token.{Operators, kind_of, class}
use Rattle.expression.specs.Decode.{tree_of}
use Rattle.expression.specs.Operand.{row_of}
use Rattle.expression.specs.Checks.{record_number}
use Rattle.disambiguation.specs.Below.{all_below}
use Rattle.sheet.specs.Layout.{operators_of, is_loaded}
use Rattle.sheet.specs.Layout as layout
use Rattle.sheet.specs.Relation.{closes_in}
use Rattle.parser.specs.Build.{built}
use Rattle.run.specs.Places.{place_count, held, stored}
use Rattle.run.specs.Places as places

-- the words of the sheet in force and of the one staged beside it, as they are lent, and the records of the sixteen places
pub record Panel : Type 0 where
  pub sheet : List ℕ
  pub staged : List ℕ
  pub places : List (List ℕ)

abbrev pub panel : List ℕ → List ℕ → List (List ℕ) → Panel
panel sheet staged places = record { sheet = sheet; staged = staged; places = places }

-- the words of a stage with no sheet on it
abbrev pub none_staged : List ℕ
none_staged = layout.fresh

-- n = 0, no rules, nothing staged, sixteen empty places
abbrev pub fresh : Panel
fresh = panel layout.fresh none_staged places.fresh

-- 8 and 9
abbrev pub place_check : ℕ → Check
place_check k = (not (ltb k place_count), place)

abbrev pub is_empty : List ℕ → Bool
is_empty [] = true
is_empty (x ∷ xs) = false

abbrev pub empty_check : List ℕ → Check
empty_check bytes = (is_empty bytes, empty)

-- an operator byte that is not below n, and one whose kind changes
abbrev pub beyond : Operators → ℕ → Bool
beyond new c = ltb c most_operators && not (ltb c new.count)

abbrev pub changed : Operators → Operators → ℕ → Bool
changed old new c = ltb c most_operators && not (eqb (kind_of old c) (kind_of new c))

-- the bytes of a row or a record use such an operator
unfoldable pub uses_other : Operators → Operators → List ℕ → Bool
uses_other old new bytes = any_holds (λ c. beyond new c || changed old new c) bytes

-- 11: what some place holds does
abbrev pub in_use_check : Operators → Operators → (ℕ → List ℕ) → Check
in_use_check old new holds = (not (all_below place_count (λ k. not (uses_other old new (holds k)))), in_use)

-- 15: no sheet was loaded onto the stage
abbrev pub staged_check : List ℕ → Check
staged_check staged = (not (is_loaded staged), nothing_staged)

-- x, where the number is 0, and else y
abbrev pub if_accepted : {A : Type 0} → ℕ → A → A → A
if_accepted number x y = cond (eqb number accepted) x y

-- the record of the row of a record, built under a sheet
abbrev pub rebuilt : List ℕ → List ℕ → List ℕ
rebuilt sheet bytes = built (operators_of sheet) (closes_in sheet) (row_of (tree_of (class (operators_of sheet)) bytes))

-- the places below k rebuilt, each where it holds a tree
unfoldable pub rebuilt_to : List ℕ → ℕ → List (List ℕ) → List (List ℕ)
rebuilt_to sheet zero places = places
rebuilt_to sheet (suc k) places =
    let before = rebuilt_to sheet k places in
    if_accepted (record_number (operators_of sheet) (held before k)) (stored before k (rebuilt sheet (held before k))) before
