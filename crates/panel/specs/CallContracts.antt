-- What answering lines and keeping the unfinished one promise. Assumes nothing.
use Rattle.std.specs.Prelude.{ℕ, ◌+◌, ◌<◌, ◌≤◌, ◌≡◌, Bool, true, false, List, [], ◌∷◌, ◌++◌, length, take, Result, Ok, Err}
use Rattle.run.specs.Panel.{Panel}
use Rattle.line_io.specs.Lines.{line_feed}
use Rattle.frame.specs.Lines.{line_reply, line_after}
use Rattle.panel.specs.Lines.{with_ends, Plain, AllPlain, after_lines, panel_at_end, replies, last_reply}
pub use Rattle.panel.specs.Sizes.{block, most_kept, buffer_bytes, most_reply_line, most_filled}

-- A line was answered: its reply and a line end stand behind what was in the output.
pub record Puts (p : Panel) (line before after : List ℕ) (later : Panel) : Type 0 where
  pub written : after ≡ before ++ (line_reply p line ++ line_feed ∷ [])
  pub stands : later ≡ line_after p line
  pub inside : length after ≤ length before + most_reply_line
  pub more : length before < length after

-- Of the bytes s the first lines were answered: their replies, each with a line end, are `laid` ready to be written, and the bytes `left` follow
-- the lines. No complete line is left, but where there is no room for one more reply.
pub record Answers (p : Panel) (s laid left : List ℕ) (later : Panel) : Type 0 where
  pub lines : List (List ℕ)
  pub read : s ≡ with_ends lines ++ left
  pub plain : AllPlain lines
  pub written : laid ≡ with_ends (replies p lines)
  pub stands : later ≡ after_lines p lines
  pub all : length laid ≤ most_filled → Plain left

-- what a read gave: as many bytes as it answers, no more than a block, and none where it failed
abbrev pub Gave : {E : Type 0} → Result ℕ E → List ℕ → Type 0
Gave (Ok count) bytes = (length bytes ≡ count) × (count ≤ block)
Gave (Err e) bytes = bytes ≡ []

-- Of the bytes that are left, no more than is kept of an unfinished line, and behind them what a read gave.
pub record Fetches {E : Type 0} (left after : List ℕ) (r : Result ℕ E) : Type 0 where
  pub bytes : List ℕ
  pub front : after ≡ take most_kept left ++ bytes
  pub gave : Gave r bytes

-- At the end of the input, what is kept was answered as a last line: its reply fills the front of the output.
pub record Finishes (p : Panel) (line out : List ℕ) (later : Panel) : Type 0 where
  pub written : out ≡ last_reply p line
  pub stands : later ≡ panel_at_end p line

-- What a read gave was answered: `input` is what was left with the bytes of the read behind it.
pub record AnswersRead {E : Type 0} (p : Panel) (input : List ℕ) (r : Result ℕ E) (out left : List ℕ) (go : Bool) (later : Panel) : Type 0 where
  -- it failed: nothing is run
  pub cut : (e : E) → r ≡ Err e → (out ≡ []) × (later ≡ p) × (go ≡ false)
  -- it gave nothing: the input ended, and what is kept is the last line
  pub ended : r ≡ Ok 0 → Finishes p input out later × (go ≡ false)
  -- it gave some bytes
  pub went_on : (count : ℕ) → r ≡ Ok count → (count ≡ 0 → ⊥) → Answers p input out left later × (go ≡ true)

-- So many bytes as these were handed to the write call. What it does with them is in no contract.
pub record Hands (bytes : List ℕ) (count : ℕ) : Type 0 where
  pub all : count ≡ length bytes
