-- What the panel's calls promise: the number and the panel after each, and what each question answers, are those of the run; a refused call leaves every lent
-- byte as it was. Assumes nothing.
use Rattle.std.specs.Prelude.{ℕ, ◌-◌, ◌≡◌, Bool, not, ◌&&◌, ◌||◌, List, [], ltb, take, drop}
use Rattle.expression.specs.Lists.{any_holds}
use Rattle.expression.specs.Limits.{most_operators}
use Rattle.expression.specs.Refusal.{accepted}
use Rattle.expression.specs.Token.{operators}
use Rattle.expression.specs.Checks.{row_number, record_number}
use Rattle.disambiguation.specs.Below.{all_below}
use Rattle.sheet.specs.Layout.{operators_of}
use Rattle.sheet.specs.Relation.{bit_of, closes_in}
use Rattle.record.specs.Operands.{OperandAt}
use Rattle.record.specs.declared.Answer.{Answer}
use Rattle.record.specs.declared.Judgement.{Judgement}
use Rattle.record.specs.declared.operands.Part.{Part}
use Rattle.parser.specs.Build.{built}
use Rattle.claims.specs.Claims.{claim_number_in}
use Rattle.places.specs.Store.{records_in}
use Rattle.places.specs.Memory.{Memory, memory, panel_in}
use Rattle.run.specs.Places.{place_count, held, stored}
use Rattle.run.specs.Call.{Question, Call, Reply, ask, judge, operand}
use Rattle.run.specs.Call as call
use Rattle.run.specs.Panel.{panel, beyond, if_accepted, rebuilt}
use Rattle.run.specs.Steps.{after, reply}

-- ---- calls that change the panel
-- The call answered the number r, and the panel in the memory became that of the run. A refused call leaves every word and byte there as it was.
pub record Changes (m : Memory) (c : Call) (r : ℕ) (later : Memory) : Type 0 where
  pub numbered : r ≡ (reply (panel_in m) c).number
  pub stands : panel_in later ≡ after (panel_in m) c
  pub kept : (r ≡ accepted → ⊥) → later ≡ m

-- A staging changes only what is staged, whatever sheet is in force and whatever the places hold;
pub record Stages (staged : List ℕ) (c : Call) (r : ℕ) (later : List ℕ) : Type 0 where
  pub changes : (sheet store : List ℕ) → Changes (memory sheet staged store) c r (memory sheet later store)

-- a put only the places, whatever is staged;
pub record Puts (sheet store : List ℕ) (c : Call) (r : ℕ) (later : List ℕ) : Type 0 where
  pub changes : (staged : List ℕ) → Changes (memory sheet staged store) c r (memory sheet staged later)

-- and so does a drop, whatever the two sheets are.
pub record Drops (store : List ℕ) (k r : ℕ) (later : List ℕ) : Type 0 where
  pub changes : (sheet staged : List ℕ) → Changes (memory sheet staged store) (call.drop k) r (memory sheet staged later)

-- ---- questions with a lent output
-- The question answered r, and the output became `later`.
pub record AnswersInto (m : Memory) (q : Question) (r : Answer) (later : List ℕ) : Type 0 where
  pub numbered : r.number ≡ (reply (panel_in m) (ask q)).number
  pub measured : r.length ≡ (reply (panel_in m) (ask q)).length
  pub output : later ≡ (reply (panel_in m) (ask q)).output

-- None looks at the stage: it answers so whatever is staged.
pub record AnswersOn (sheet store : List ℕ) (q : Question) (r : Answer) (later : List ℕ) : Type 0 where
  pub answers : (staged : List ℕ) → AnswersInto (memory sheet staged store) q r later

-- One that looks at no place answers so whatever the places hold,
pub record AnswersUnder (sheet : List ℕ) (q : Question) (r : Answer) (later : List ℕ) : Type 0 where
  pub answers : (staged store : List ℕ) → AnswersInto (memory sheet staged store) q r later

-- and one that looks at no sheet whatever the two sheets are.
pub record AnswersFrom (store : List ℕ) (q : Question) (r : Answer) (later : List ℕ) : Type 0 where
  pub answers : (sheet staged : List ℕ) → AnswersInto (memory sheet staged store) q r later

-- ---- judge and operand, whatever is staged and whatever the places hold
module _ (sheet : List ℕ) where
  -- the run's reply to a question that looks at no place
  abbrev pub reply_under : Question → (staged : List ℕ) → List (List ℕ) → Reply
  reply_under q staged places = reply (panel sheet staged places) (ask q)

  pub record Judges (bytes : List ℕ) (r : Judgement) : Type 0 where
    pub numbered : (staged : List ℕ) (places : List (List ℕ)) → r.number ≡ (reply_under (judge bytes) staged places).number
    pub counted : (staged : List ℕ) (places : List (List ℕ)) → r.count ≡ (reply_under (judge bytes) staged places).count

  -- The number of an operand call, for either side.
  pub record NumbersOperand (bytes : List ℕ) (r : ℕ) : Type 0 where
    pub numbered : (staged : List ℕ) (places : List (List ℕ)) (right : Bool) → r ≡ (reply_under (operand right bytes) staged places).number

  pub record FindsOperand (right : Bool) (bytes part : List ℕ) : Type 0 where
    pub found : (staged : List ℕ) (places : List (List ℕ)) → part ≡ (reply_under (operand right bytes) staged places).part

  -- The same by its place in the record: the operand's own, and not one with the same bytes.
  pub record PlacesOperand (right : Bool) (bytes : List ℕ) (r : Part) : Type 0 where
    pub placed : OperandAt (operators_of sheet) right bytes r
    pub found : FindsOperand right bytes (take (r.to - r.from) (drop r.from bytes))

-- ---- inside the switch
-- The bytes use an operator that is not below n, or one of a set.
unfoldable pub uses_by : ℕ → ℕ → List ℕ → Bool
uses_by n set bytes = any_holds (λ c. beyond (operators n []) c || (ltb c most_operators && bit_of set c)) bytes

-- what some place holds does
unfoldable pub some_use : ℕ → ℕ → List (List ℕ) → Bool
some_use n set places = not (all_below place_count (λ k. not (uses_by n set (held places k))))

-- ---- inside the puts and the switch
-- Bytes with a number of their own are stored at a place where that is 0; else the places are as they were.
abbrev pub stored_if : ℕ → List ℕ → List (List ℕ) → ℕ → List (List ℕ)
stored_if number bytes places k = if_accepted number (stored places k bytes) places

pub record Stores (number : ℕ) (bytes store : List ℕ) (k r : ℕ) (later : List ℕ) : Type 0 where
  pub numbered : r ≡ number
  pub stands : records_in later ≡ stored_if number bytes (records_in store) k
  pub kept : (r ≡ accepted → ⊥) → later ≡ store

-- what is built of a row, or of a record's row
module _ (sheet store : List ℕ) (k : ℕ) where
  abbrev pub StoresRow : List ℕ → ℕ → List ℕ → Type 0
  StoresRow row = Stores (row_number (operators_of sheet) row) (built (operators_of sheet) (closes_in sheet) row) store k

  abbrev pub StoresRecord : List ℕ → ℕ → List ℕ → Type 0
  StoresRecord bytes = Stores (record_number (operators_of sheet) bytes) (rebuilt sheet bytes) store k

  -- a record as it was sent, beside its row
  abbrev pub StoresClaim : List ℕ → List ℕ → ℕ → List ℕ → Type 0
  StoresClaim row bytes = Stores (claim_number_in sheet row bytes) bytes store k

-- the places after one of them is rebuilt
abbrev pub rebuilt_at : List ℕ → List (List ℕ) → ℕ → List (List ℕ)
rebuilt_at sheet places k = stored_if (record_number (operators_of sheet) (held places k)) (rebuilt sheet (held places k)) places k
