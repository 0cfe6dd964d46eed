-- A panel as it stands in lent memory. Assumes nothing.
use Rattle.std.specs.Prelude.{ℕ, List}
use Rattle.run.specs.Panel.{Panel, panel}
use Rattle.places.specs.Store.{records_in}

-- the words of its two sheets, and the bytes of the store with its places
pub record Memory : Type 0 where
  pub sheet : List ℕ
  pub staged : List ℕ
  pub store : List ℕ

abbrev pub memory : List ℕ → List ℕ → List ℕ → Memory
memory sheet staged store = record { sheet = sheet; staged = staged; store = store }

-- The panel there: callers see of the store's bytes the records alone.
abbrev pub panel_in : Memory → Panel
panel_in m = panel m.sheet m.staged (records_in m.store)
