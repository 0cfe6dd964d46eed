-- The conditions of a call give one number at most. Assumes nothing.
use Prim.Native.Nat.{ℕ}
use mathlib.Core.Path.{◌≡◌, sym, ◌∙◌}
use mathlib.Core.Logic.{inl, inr}
use mathlib.Core.List.{List}
use Rattle.expression.specs.Token.{Operators}
use Rattle.disambiguation.specs.Rules.{Rule}
use Rattle.run.specs.Call.{Question, Call, stage, stage_list, switch, put_row, put_record, put_claim, drop, ask, fetch_record, fetch_row, image, build, repair, judge, yield, operand, shortest_row}
use Rattle.run.specs.Book.{Book}
use Rattle.run.specs.Meaning.{When, Accepted, OfSheet, WithRoom, OfRow, OfRecord, OfClaim, MeansAsked, Means}

-- the statement holds of one thing only
abbrev pub OfOne : {A : Type 0} → (A → Type 0) → Type 0
OfOne {A} Is = (x y : A) → Is x → Is y → x ≡ y

accepted_one : OfOne Accepted
accepted_one m n e f = e ∙ sym f

when_one : {Condition : Type 0} {this : ℕ} {Else : ℕ → Type 0} → OfOne Else → OfOne (When Condition this Else)
when_one one m n (inl (c, e)) (inl (d, f)) = e ∙ sym f
when_one one m n (inl (c, e)) (inr (d, f)) = absurd (d c)
when_one one m n (inr (c, e)) (inl (d, f)) = absurd (c d)
when_one one m n (inr (c, e)) (inr (d, f)) = one m n e f

sheet_one : (new : Operators) (rules : List Rule) → OfOne (OfSheet new rules)
sheet_one new rules = when_one (when_one (when_one accepted_one))

module _ (b : Book) where
  room_one : (q : Question) → OfOne (WithRoom b q)
  room_one q = when_one accepted_one

  row_one : (row : List ℕ) {Else : ℕ → Type 0} → OfOne Else → OfOne (OfRow b row Else)
  row_one row one = when_one (when_one (when_one one))

  record_one : (bytes : List ℕ) {Else : ℕ → Type 0} → OfOne Else → OfOne (OfRecord b bytes Else)
  record_one bytes one = when_one (when_one (when_one (when_one one)))

  claim_one : (row bytes : List ℕ) → OfOne (OfClaim b row bytes)
  claim_one row bytes = when_one (when_one accepted_one)

  asked_one : (q : Question) → OfOne (MeansAsked b q)
  asked_one (fetch_record k out) = when_one (when_one (room_one (fetch_record k out)))
  asked_one (fetch_row k out) = when_one (when_one (room_one (fetch_row k out)))
  asked_one (image k out) = when_one (room_one (image k out))
  asked_one (build row out) = row_one row (room_one (build row out))
  asked_one (repair bytes out) = record_one bytes (room_one (repair bytes out))
  asked_one (judge bytes) = record_one bytes accepted_one
  asked_one (yield bytes out) = record_one bytes (room_one (yield bytes out))
  asked_one (operand right bytes) = record_one bytes accepted_one
  asked_one (shortest_row bytes out) = record_one bytes (room_one (shortest_row bytes out))

  pub means_one : (c : Call) → OfOne (Means b c)
  means_one (stage n bytes) = when_one (when_one (sheet_one _ _))
  means_one (stage_list n kinds rules) = when_one (when_one (sheet_one _ _))
  means_one switch = when_one (when_one accepted_one)
  means_one (put_row k row) = when_one (row_one row accepted_one)
  means_one (put_record k bytes) = when_one (record_one bytes accepted_one)
  means_one (put_claim k row bytes) = when_one (row_one row (record_one bytes (claim_one row bytes)))
  means_one (drop k) = when_one (when_one accepted_one)
  means_one (ask q) = asked_one q
