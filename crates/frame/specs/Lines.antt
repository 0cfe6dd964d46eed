-- Lines: the call that a line makes, the reply to it and the panel after it. Assumes nothing.
use Rattle.std.specs.Prelude.{ℕ, ◌+◌, ◌*◌, Bool, cond, List, [], ◌∷◌, ltb, length}
use Rattle.std.proofs.Math.Option.{Option, none, some}
use Rattle.expression.specs.Limits.{most_operators, most_rule_bytes}
use Rattle.expression.specs.Refusal.{oversize}
use Rattle.run.specs.Call.{Call}
use Rattle.run.specs.Panel.{Panel}
use Rattle.hexadecimal.specs.Text.{bytes_of, text_of}
use Rattle.frame.specs.Frames.{frame_call, frame_after, frame_reply}

-- The longest frame is a sheet's: its kind, n, the most kind bytes and the most rule bytes. A line of more than its characters, two a byte, is too long.
abbrev pub most_frame : ℕ
most_frame = 2 + most_operators + most_rule_bytes

abbrev pub most_characters : ℕ
most_characters = 2 * most_frame

abbrev pub is_long : List ℕ → Bool
is_long line = ltb most_characters (length line)

-- a line that is not made of digit pairs is no call
abbrev pub text_call : Option (List ℕ) → Option Call
text_call none = none
text_call (some bytes) = frame_call bytes

-- the call that a line makes; none where the line is refused with 1 or 12
unfoldable pub line_call : List ℕ → Option Call
line_call line = cond (is_long line) none (text_call (bytes_of line))

-- A line tests 1, then 12, then the call's list.
unfoldable pub line_bytes : Panel → List ℕ → List ℕ
line_bytes p line = cond (is_long line) (oversize ∷ []) (frame_reply p (text_call (bytes_of line)))

-- the characters of the reply, without a line end
unfoldable pub line_reply : Panel → List ℕ → List ℕ
line_reply p line = text_of (line_bytes p line)

unfoldable pub line_after : Panel → List ℕ → Panel
line_after p line = frame_after p (line_call line)
