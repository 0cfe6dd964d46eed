-- What an evaluation answers for C, made from what it comes to. Assumes nothing.
use Rattle.std.specs.Prelude.{Result, Ok, Err, ℤ, pos}
use Rattle.expression.specs.Refusal.{accepted}
use Rattle.expression.specs.Outcome.{number_of}
use Rattle.expression.specs.declared.refusal.Refusal.{Refusal}
use Rattle.evaluator.specs.declared.Evaluation.{Evaluation}

-- a number and a value; 0 after a refusal
abbrev pub evaluation_of : Result ℤ Refusal → Evaluation
evaluation_of (Ok v) = record { number = accepted; value = v }
evaluation_of (Err r) = record { number = number_of r; value = pos 0 }
