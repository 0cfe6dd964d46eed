-- Lines with their line ends, and the replies to them. A list of lines has the last one first. Assumes nothing.
use Rattle.std.specs.Prelude.{ℕ, ◌<◌, ◌≡◌, List, [], ◌∷◌, ◌++◌, length, get_or}
use Rattle.run.specs.Panel.{Panel}
use Rattle.line_io.specs.Lines.{line_feed}
use Rattle.frame.specs.Lines.{line_reply, line_after}

-- the characters of lines, each with its line end
unfoldable pub with_ends : List (List ℕ) → List ℕ
with_ends [] = []
with_ends (line ∷ lines) = with_ends lines ++ (line ++ line_feed ∷ [])

-- no line end stands in a line
abbrev pub Plain : List ℕ → Type 0
Plain line = (k : ℕ) → k < length line → get_or line k 0 ≡ line_feed → ⊥

unfoldable pub AllPlain : List (List ℕ) → Type 0
AllPlain [] = Unit {0}
AllPlain (line ∷ lines) = Plain line × AllPlain lines

module _ (p : Panel) where
  -- each line gets the panel that the one before it left
  unfoldable pub after_lines : List (List ℕ) → Panel
  after_lines [] = p
  after_lines (line ∷ lines) = line_after (after_lines lines) line

  unfoldable pub replies : List (List ℕ) → List (List ℕ)
  replies [] = []
  replies (line ∷ lines) = line_reply (after_lines lines) line ∷ replies lines

  -- a last line without line end counts if not empty
  unfoldable pub panel_at_end : List ℕ → Panel
  panel_at_end [] = p
  panel_at_end (c ∷ line) = line_after p (c ∷ line)

  -- and its reply is followed by a line end too
  unfoldable pub last_reply : List ℕ → List ℕ
  last_reply [] = []
  last_reply (c ∷ line) = line_reply p (c ∷ line) ++ line_feed ∷ []
