-- The calls of demand 3 with all their arguments, a lent output's contents among them, and what a call answers. Assumes nothing.
use Rattle.std.specs.Prelude.{ℕ, Bool, List, []}
use Rattle.disambiguation.specs.Rules.{Rule}

-- The questions: calls that change nothing. `out` is what the lent output holds before the call.
pub data Question : Type 0 where
  fetch_record : (place : ℕ) (out : List ℕ) → Question
  fetch_row : (place : ℕ) (out : List ℕ) → Question
  image : (place : ℕ) (out : List ℕ) → Question
  build : (row : List ℕ) (out : List ℕ) → Question
  repair : (bytes : List ℕ) (out : List ℕ) → Question
  judge : (bytes : List ℕ) → Question
  yield : (bytes : List ℕ) (out : List ℕ) → Question
  operand : (right : Bool) (bytes : List ℕ) → Question
  -- docs/REFERENCE.md, section 6
  shortest_row : (bytes : List ℕ) (out : List ℕ) → Question

-- All calls. A staging's bytes are its kinds and then its rules; `stage_list` is the staging whose kinds and rules come as two lists. `put_claim` is the put of a row with
-- the record that is claimed for it.
pub data Call : Type 0 where
  stage : (n : ℕ) (bytes : List ℕ) → Call
  stage_list : (n : ℕ) (kinds : List ℕ) (rules : List Rule) → Call
  switch : Call
  put_row : (place : ℕ) (row : List ℕ) → Call
  put_record : (place : ℕ) (bytes : List ℕ) → Call
  put_claim : (place : ℕ) (row bytes : List ℕ) → Call
  drop : (place : ℕ) → Call
  ask : Question → Call

-- what the output lent to a question holds before it; nothing where none is lent
abbrev pub lent_before : Question → List ℕ
lent_before (fetch_record k out) = out
lent_before (fetch_row k out) = out
lent_before (image k out) = out
lent_before (build row out) = out
lent_before (repair bytes out) = out
lent_before (judge bytes) = []
lent_before (yield bytes out) = out
lent_before (operand right bytes) = []
lent_before (shortest_row bytes out) = out

-- the same of any call
abbrev pub lent_to : Call → List ℕ
lent_to (stage n bytes) = []
lent_to (stage_list n kinds rules) = []
lent_to switch = []
lent_to (put_row k row) = []
lent_to (put_record k bytes) = []
lent_to (put_claim k row bytes) = []
lent_to (drop k) = []
lent_to (ask q) = lent_before q

-- What is compared at every call: its number; the whole lent output after it, empty where none is lent, and how many bytes at its front are the
-- answer; a judge's count, 0 for others; an operand's part, empty for others.
pub record Reply : Type 0 where
  pub number : ℕ
  pub length : ℕ
  pub output : List ℕ
  pub count : ℕ
  pub part : List ℕ
