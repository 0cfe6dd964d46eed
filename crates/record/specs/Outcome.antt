-- What the calls answer for C, made from what they come to. Assumes nothing.
use Rattle.std.specs.Prelude.{ℕ, Result, Ok, Err}
use Rattle.expression.specs.Refusal.{accepted}
use Rattle.expression.specs.Outcome.{number_of}
use Rattle.expression.specs.declared.refusal.Refusal.{Refusal}
use Rattle.record.specs.declared.Answer.{Answer}
use Rattle.record.specs.declared.Judgement.{Judgement}

-- a number and a length; 0 after a refusal
abbrev pub answer_of : Result ℕ Refusal → Answer
answer_of (Ok n) = record { number = accepted; length = n }
answer_of (Err r) = record { number = number_of r; length = 0 }

-- a number and a count; 0 after a refusal
abbrev pub judgement_of : Result ℕ Refusal → Judgement
judgement_of (Ok n) = record { number = accepted; count = n }
judgement_of (Err r) = record { number = number_of r; count = 0 }
