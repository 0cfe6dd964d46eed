-- The first eight lines of the listing in docs/REFERENCE.md, section 8, and the edges of a line, by computation. Assumes nothing.
use Prim.Native.Nat.{ℕ, ◌+◌}
use mathlib.Core.Path.{◌≡◌, refl}
use mathlib.Core.List.{List, [], ◌∷◌}
use mathlib.Core.Option.{none, some}
use lib.ListN.{replicate}
use Rattle.expression.specs.Refusal.{accepted, oversize, empty, frame, nothing_staged}
use Rattle.expression.specs.Token.{class}
use Rattle.expression.specs.RowTest.{is_row}
use Rattle.expression.specs.Decode.{tree_of}
use Rattle.expression.specs.Checks.{record_number}
use Rattle.disambiguation.specs.Rules.{L, R}
use Rattle.disambiguation.specs.LeftToRight.{parse, made}
use Rattle.disambiguation.specs.Below.{all_below}
use Rattle.disambiguation.specs.Verdict.{safe, total, within, level}
use Rattle.disambiguation.specs.SheetChecks.{sheet_number}
use Rattle.sheet.specs.Layout.{operators_of, is_loaded}
use Rattle.sheet.specs.Relation.{bit_of, closes_in}
use Rattle.relation.specs.Marking.{marked, marks, marks_all}
use Rattle.relation.specs.Chaining.{changed, added, joined, passed, chained, related}
use Rattle.relation.specs.Words.{with_bit, word_where}
use Rattle.sheet.specs.Loading.{sheet_of}
use Rattle.parser.specs.Build.{built}
use Rattle.run.specs.Image.{image_of}
use Rattle.run.specs.Places.{held, stored}
use Rattle.run.specs.Places as places
use Rattle.run.specs.Call.{stage, switch, put_row, put_record, drop, ask, fetch_record, repair, judge}
use Rattle.run.specs.Panel.{Panel, uses_other, rebuilt_to}
use Rattle.run.specs.Steps.{switch_number, put_row_number, drop_number, fetch_record_number, staged_after, after_switch, places_after_row, places_after_drop}
use Rattle.hexadecimal.specs.Digits.{is_digit, digit_of, all_digits, byte_of, character_of}
use Rattle.hexadecimal.specs.Text.{pair_bytes, bytes_of, text_of}
use Rattle.frame.specs.Frames.{room, call_of}
use Rattle.frame.specs.Lines.{most_characters, line_call, line_bytes, line_reply, line_after}
use Rattle.frame.specs.Runs.{panel_after_lines}

-- ---- the listing
abbrev first : List ℕ
first = text_of (0x01 ∷ 0x02 ∷ 0x00 ∷ 0x00 ∷ 0x01 ∷ 0x01 ∷ 0x00 ∷ 0x02 ∷ 0x01 ∷ 0x01 ∷ 0x02 ∷ 0x00 ∷ 0x00 ∷ [])

abbrev switching : List ℕ
switching = text_of (0x0a ∷ [])

abbrev second : List ℕ
second = text_of (0x02 ∷ 0x03 ∷ 0x80 ∷ 0x00 ∷ 0x81 ∷ 0x01 ∷ 0x82 ∷ [])

abbrev third : List ℕ
third = text_of (0x04 ∷ 0x03 ∷ [])

abbrev fourth : List ℕ
fourth = text_of (0x03 ∷ 0x04 ∷ [])

abbrev fifth : List ℕ
fifth = text_of (0x01 ∷ 0x02 ∷ 0x00 ∷ 0x00 ∷ 0x01 ∷ 0x00 ∷ 0x01 ∷ 0x02 ∷ 0x01 ∷ 0x01 ∷ 0x02 ∷ 0x00 ∷ 0x00 ∷ [])

pub calls_of_listing :
    (line_call first ≡ some (stage 2 (0x00 ∷ 0x00 ∷ 0x01 ∷ 0x01 ∷ 0x00 ∷ 0x02 ∷ 0x01 ∷ 0x01 ∷ 0x02 ∷ 0x00 ∷ 0x00 ∷ [])))
    × (line_call switching ≡ some switch)
    × (line_call second ≡ some (put_row 3 (0x80 ∷ 0x00 ∷ 0x81 ∷ 0x01 ∷ 0x82 ∷ [])))
    × (line_call third ≡ some (ask (fetch_record 3 room)))
    × (line_call fourth ≡ some (drop 4))
unfolding line_call call_of bytes_of all_digits pair_bytes is_digit digit_of byte_of text_of character_of
calls_of_listing = (refl, refl, refl, refl, refl)

-- Each line's reply over the panel after the lines before it: a switch after each sheet, and the record fetched again at the end.
pub replies_of_listing :
    (line_reply (panel_after_lines []) first ≡ text_of (accepted ∷ []))
    × (line_reply (panel_after_lines (first ∷ [])) switching ≡ text_of (accepted ∷ []))
    × (line_reply (panel_after_lines (switching ∷ first ∷ [])) second ≡ text_of (accepted ∷ []))
    × (line_reply (panel_after_lines (second ∷ switching ∷ first ∷ [])) third ≡ text_of (accepted ∷ 0x00 ∷ 0x80 ∷ 0x01 ∷ 0x81 ∷ 0x82 ∷ []))
    × (line_reply (panel_after_lines (third ∷ second ∷ switching ∷ first ∷ [])) fourth ≡ text_of (empty ∷ []))
    × (line_reply (panel_after_lines (fourth ∷ third ∷ second ∷ switching ∷ first ∷ [])) fifth ≡ text_of (accepted ∷ []))
    × (line_reply (panel_after_lines (fifth ∷ fourth ∷ third ∷ second ∷ switching ∷ first ∷ [])) switching ≡ text_of (accepted ∷ []))
    × (line_reply (panel_after_lines (switching ∷ fifth ∷ fourth ∷ third ∷ second ∷ switching ∷ first ∷ [])) third ≡ text_of (accepted ∷ 0x01 ∷ 0x00 ∷ 0x80 ∷ 0x81 ∷ 0x82 ∷ []))
unfolding panel_after_lines line_after line_reply line_bytes line_call call_of room bytes_of all_digits pair_bytes is_digit digit_of byte_of text_of character_of sheet_number switch_number put_row_number drop_number fetch_record_number staged_after after_switch is_loaded places_after_row places_after_drop uses_other rebuilt_to places.fresh held image_of stored built made parse sheet_of marks_all marks marked changed added joined passed chained related with_bit word_where operators_of closes_in bit_of safe total within level all_below L R record_number tree_of is_row class
replies_of_listing = (refl, refl, refl, refl, refl, refl, refl, refl)

-- A sheet that is staged and not switched to is not seen by a fetch. A second switch finds nothing; a sheet of no operators and no rules is found.
pub replies_of_switches :
    (line_reply (panel_after_lines (fifth ∷ second ∷ switching ∷ first ∷ [])) third ≡ text_of (accepted ∷ 0x00 ∷ 0x80 ∷ 0x01 ∷ 0x81 ∷ 0x82 ∷ []))
    × (line_reply (panel_after_lines []) switching ≡ text_of (nothing_staged ∷ []))
    × (line_reply (panel_after_lines (switching ∷ first ∷ [])) switching ≡ text_of (nothing_staged ∷ []))
    × (line_reply (panel_after_lines (text_of (0x01 ∷ 0x00 ∷ []) ∷ [])) switching ≡ text_of (accepted ∷ []))
unfolding panel_after_lines line_after line_reply line_bytes line_call call_of room bytes_of all_digits pair_bytes is_digit digit_of byte_of text_of character_of sheet_number switch_number put_row_number fetch_record_number staged_after after_switch is_loaded places_after_row uses_other rebuilt_to places.fresh held image_of stored built made parse sheet_of marks_all marks marked changed added joined passed chained related with_bit word_where operators_of closes_in bit_of safe total within level all_below L R record_number tree_of is_row class
replies_of_switches = (refl, refl, refl, refl)

-- ---- edges
-- The text of 12 is 0c. An empty line, an odd number of digits, a carriage return, a switch with a byte more, a kind over 0A.
pub refused_lines : (p : Panel)
    → (line_reply p [] ≡ 0x30 ∷ 0x63 ∷ [])
    × (line_reply p (0x30 ∷ 0x33 ∷ 0x30 ∷ []) ≡ text_of (frame ∷ []))
    × (line_reply p (0x30 ∷ 0x33 ∷ 0x30 ∷ 0x0d ∷ []) ≡ text_of (frame ∷ []))
    × (line_reply p (text_of (0x0a ∷ 0x00 ∷ [])) ≡ text_of (frame ∷ []))
    × (line_reply p (text_of (0x0b ∷ [])) ≡ text_of (frame ∷ []))
unfolding line_reply line_bytes call_of bytes_of all_digits pair_bytes is_digit digit_of byte_of text_of character_of
refused_lines p = (refl, refl, refl, refl, refl)

-- One character too many comes before 12.
pub long_line_first : (p : Panel) → line_reply p (replicate (most_characters + 1) 0x0d) ≡ text_of (oversize ∷ [])
unfolding line_reply line_bytes
long_line_first p = refl

-- Kinds 01, 02 and 06 need one byte; 03, 04, 05 and 09 have just one; 07 and 08 need none, and 0A has none.
pub bytes_after_kind :
    (line_call (text_of (0x01 ∷ [])) ≡ none)
    × (line_call (text_of (0x01 ∷ 0x00 ∷ [])) ≡ some (stage 0 []))
    × (line_call (text_of (0x06 ∷ [])) ≡ none)
    × (line_call (text_of (0x06 ∷ 0x10 ∷ [])) ≡ some (put_record 0x10 []))
    × (line_call (text_of (0x03 ∷ [])) ≡ none)
    × (line_call (text_of (0x03 ∷ 0x01 ∷ 0xff ∷ [])) ≡ none)
    × (line_call (text_of (0x09 ∷ 0x01 ∷ 0xff ∷ [])) ≡ none)
    × (line_call (text_of (0x07 ∷ [])) ≡ some (ask (judge [])))
    × (line_call (text_of (0x08 ∷ [])) ≡ some (ask (repair [] room)))
unfolding line_call call_of bytes_of all_digits pair_bytes is_digit digit_of byte_of text_of character_of
bytes_after_kind = (refl, refl, refl, refl, refl, refl, refl, refl, refl)

-- Either letter case.
pub either_case :
    (line_call (0x30 ∷ 0x37 ∷ 0x61 ∷ 0x42 ∷ []) ≡ some (ask (judge (0xab ∷ []))))
    × (line_call (0x30 ∷ 0x37 ∷ 0x41 ∷ 0x62 ∷ []) ≡ some (ask (judge (0xab ∷ []))))
unfolding line_call call_of bytes_of all_digits pair_bytes is_digit digit_of byte_of
either_case = (refl, refl)
