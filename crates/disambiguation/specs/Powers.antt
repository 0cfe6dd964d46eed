-- Binding powers (docs/REFERENCE.md, section 12): two numbers for each infix operator, and the ladder of levels that they tell of. Assumes nothing.
use Rattle.std.specs.Prelude.{ℕ, ◌+◌, ◌-◌, ◌*◌, ◌<◌, ◌≤◌, ◌≡◌, Bool, true, false, not, ◌&&◌, cond, ◌↔◌, ◌⊎◌}
use Rattle.expression.specs.Limits.{most_operators}
use Rattle.expression.specs.Token.{Class, Infix, Prefix, Opening, Closing, Reading, Meaningless, Operators, class}
use Rattle.disambiguation.specs.Below.{count_below}

abbrev pub is_infix : Class → Bool
is_infix Infix = true
is_infix Prefix = false
is_infix Opening = false
is_infix Closing = false
is_infix Reading = false
is_infix Meaningless = false

-- For a relation "a closes before b" over a sheet's operators: R(a,b) is excluded.
module _ (ops : Operators) (closes : ℕ → ℕ → Bool) where
  -- a lies above c: a closes before c, and c does not close before a
  abbrev pub above : ℕ → ℕ → Bool
  above a c = closes a c && not (closes c a)

  -- c is one of the infix operators that a lies above
  unfoldable pub below : ℕ → ℕ → Bool
  below a c = is_infix (class ops c) && above a c

  -- The left power of a: 2 plus twice the number of infix operators that a lies above. All operators are below 32.
  unfoldable pub left_power : ℕ → ℕ
  left_power a = 2 + 2 * count_below most_operators (below a)

  -- The right power of a: its left power if it closes before itself, else one less.
  unfoldable pub right_power : ℕ → ℕ
  right_power a = cond (closes a a) (left_power a) (left_power a - 1)

  -- a level: the infix operators of one left power
  abbrev pub InLevel : ℕ → ℕ → Type 0
  InLevel p a = (class ops a ≡ Infix) × (left_power a ≡ p)

  -- each operator of the one level lies above each of the other
  abbrev pub WhollyAbove : ℕ → ℕ → Type 0
  WhollyAbove p q = (a c : ℕ) → InLevel p a → InLevel q c → above a c ≡ true

  -- in a level each closes before each; none closes before any
  abbrev pub WhollyLeft : ℕ → Type 0
  WhollyLeft p = (a b : ℕ) → InLevel p a → InLevel p b → closes a b ≡ true

  abbrev pub WhollyRight : ℕ → Type 0
  WhollyRight p = (a b : ℕ) → InLevel p a → InLevel p b → closes a b ≡ false

  pub record Ladder : Type 0 where
    -- a closes before b exactly if b's left power is at most a's right power.
    pub decides : (a b : ℕ) → class ops a ≡ Infix → class ops b ≡ Infix → (closes a b ≡ true) ↔ (left_power b ≤ right_power a)
    -- Of two levels, that of the higher power lies wholly above the other.
    pub steps : (p q : ℕ) → q < p → WhollyAbove p q
    -- The level of each infix operator is wholly left or wholly right.
    pub one_way : (a : ℕ) → class ops a ≡ Infix → WhollyLeft (left_power a) ⊎ WhollyRight (left_power a)
    -- A power is at least 1 and at most 64.
    pub least : (a : ℕ) → 1 ≤ right_power a
    pub most : (a : ℕ) → class ops a ≡ Infix → (right_power a ≤ left_power a) × (left_power a ≤ 64)
