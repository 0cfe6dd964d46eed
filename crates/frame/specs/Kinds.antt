-- The kinds of frames, each by its byte. Assumes nothing.
use Rattle.std.specs.Prelude.{ℕ, ◌≡◌, Result, Ok, Err}
use Rattle.expression.specs.declared.refusal.Refusal.{Refusal}
use Rattle.expression.specs.declared.refusal.Refusal.TheVariants.{Frame}
use Rattle.frame.specs.declared.kind.Kind.{Kind}
use Rattle.frame.specs.declared.kind.Kind.TheVariants.{Stage, PutRow, Drop, FetchRecord, FetchRow, PutRecord, Judge, Repair, Image, Switch}

abbrev pub byte_of : Kind → ℕ
byte_of Stage = 1
byte_of PutRow = 2
byte_of Drop = 3
byte_of FetchRecord = 4
byte_of FetchRow = 5
byte_of PutRecord = 6
byte_of Judge = 7
byte_of Repair = 8
byte_of Image = 9
byte_of Switch = 10

-- A byte is that of a kind, or of none, which is refused with 12.
abbrev pub Decodes : ℕ → Result Kind Refusal → Type 0
Decodes byte (Ok kind) = byte ≡ byte_of kind
Decodes byte (Err refusal) = (refusal ≡ Frame) × ((kind : Kind) → byte ≡ byte_of kind → ⊥)
