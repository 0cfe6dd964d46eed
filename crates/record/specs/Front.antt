-- A record at the front of more bytes. Assumes nothing.
use Rattle.std.specs.Prelude.{ℕ, List, take}

-- the first bytes, so many
unfoldable pub front : ℕ → List ℕ → List ℕ
front size whole = take size whole
