-- Tokens: what a byte stands for. Assumes nothing.
use Rattle.std.specs.Prelude.{ℕ, cond, List, eqb, ltb, get_or}
use Rattle.expression.specs.Limits.{most_operators}

-- What a byte is in a row or a record. A "reading" (docs/REFERENCE.md, section 1) is an atom; the rest of the bytes have no meaning.
pub data Class : Type 0 where
  Infix Prefix Opening Closing Reading Meaningless : Class

-- the brackets
abbrev pub opening : ℕ
opening = 0x20

abbrev pub closing : ℕ
closing = 0x21

-- readings are 80 to FF
abbrev pub first_reading : ℕ
first_reading = 0x80

abbrev pub last_reading : ℕ
last_reading = 0xff

-- the kinds of operators, as a sheet has them: a byte for each operator
abbrev pub infix_kind : ℕ
infix_kind = 0

abbrev pub prefix_kind : ℕ
prefix_kind = 1

-- The operators of a sheet: all that tells the class of a byte. The count is the n of a sheet, the kinds are its n kind bytes.
pub record Operators : Type 0 where
  pub count : ℕ
  pub kinds : List ℕ

abbrev pub operators : ℕ → List ℕ → Operators
operators n kinds = record { count = n; kinds = kinds }

-- the kind byte of an operator
abbrev pub kind_of : Operators → ℕ → ℕ
kind_of ops c = get_or ops.kinds c infix_kind

-- the class of an operator of a kind
abbrev pub class_of_kind : ℕ → Class
class_of_kind kind = cond (eqb kind prefix_kind) Prefix Infix

-- The class of a byte under a sheet's operators. 00 to 1F are operators; one that is not below n has no meaning there.
unfoldable pub class : Operators → ℕ → Class
class ops c =
    cond (ltb c most_operators) (cond (ltb c ops.count) (class_of_kind (kind_of ops c)) Meaningless)
    (cond (eqb c opening) Opening
    (cond (eqb c closing) Closing
    (cond (ltb c first_reading) Meaningless
    (cond (ltb last_reading c) Meaningless Reading))))
