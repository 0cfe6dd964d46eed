-- A panel's places: the list of the sixteen records that they hold. Assumes nothing.
use Rattle.std.specs.Prelude.{ℕ, List, [], get_or, set, replicate}

-- the places, 0 to 15
abbrev pub place_count : ℕ
place_count = 16

-- The record that a place holds. A place is empty where this is []; a place over 15 is empty.
unfoldable pub held : List (List ℕ) → ℕ → List ℕ
held places place = get_or places place []

-- The places after a record is put at one of them. A place over 15 changes nothing.
unfoldable pub stored : List (List ℕ) → ℕ → List ℕ → List (List ℕ)
stored places place bytes = set places place bytes

-- all places empty
unfoldable pub fresh : List (List ℕ)
fresh = replicate place_count []
