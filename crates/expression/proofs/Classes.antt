-- The classes of bytes: which byte is of which class, and what the theory needs of them. Assumes nothing.
use Prim.Native.Nat.{ℕ, ◌≤◌, ◌<◌}
use native.Mathlib.Omega.{arith}
use mathlib.Core.Path.{◌≡◌, refl, ap, sym, ◌∙◌}
use mathlib.Core.Bool.{Bool, true, false, cond, true≢false}
use mathlib.Core.List.{List}
use lib.Dec.{eqb, ltb}
use borrow.Author.Tests.{ltb-true, ltb-false, lt-ltb, le-ltb, eqb-true, ne_eqb}
use Rattle.expression.specs.Limits.{most_operators}
use Rattle.expression.specs.Token.{Class, Infix, Prefix, Opening, Closing, Reading, Meaningless, opening, closing, first_reading, last_reading, prefix_kind, Operators, operators, kind_of, class_of_kind, class}
use Rattle.expression.proofs.Cond.{by_cond}

-- 20 and 21 are the brackets, and no other byte is one. The theory of trees and rows needs no more of the classes.
pub record Brackets (k : ℕ → Class) : Type 0 where
  pub opens : k opening ≡ Opening
  pub closes : k closing ≡ Closing
  pub opening_only : (c : ℕ) → k c ≡ Opening → c ≡ opening
  pub closing_only : (c : ℕ) → k c ≡ Closing → c ≡ closing

-- infix operators, prefix operators and readings told apart from the rest
abbrev marked : Class → ℕ
marked Infix = 1
marked Prefix = 3
marked Opening = 0
marked Closing = 0
marked Reading = 2
marked Meaningless = 0

module _ (ops : Operators) where
  pub class_operator : (c : ℕ) → c < most_operators → c < ops.count → class ops c ≡ class_of_kind (kind_of ops c)
  unfolding class
  class_operator c h g = rw (lt-ltb c most_operators h, lt-ltb c ops.count g)

  pub class_reading : (c : ℕ) → first_reading ≤ c → c ≤ last_reading → class ops c ≡ Reading
  unfolding class
  class_reading c h g =
      rw (le-ltb c most_operators (omega arith), ne_eqb c opening (λ e. omega arith), ne_eqb c closing (λ e. omega arith), le-ltb c first_reading h, le-ltb last_reading c g)

  -- whatever holds of the class in each of its cases holds of it
  pub by_class : (P : Class → Type 0) (c : ℕ)
      → (c < most_operators → c < ops.count → eqb (kind_of ops c) prefix_kind ≡ false → P Infix)
      → (c < most_operators → c < ops.count → eqb (kind_of ops c) prefix_kind ≡ true → P Prefix)
      → (c ≡ opening → P Opening)
      → (c ≡ closing → P Closing)
      → (first_reading ≤ c → c ≤ last_reading → P Reading)
      → P Meaningless
      → P (class ops c)
  unfolding class
  by_class P c i p o s r m =
      by_cond P (ltb c most_operators)
      (λ h. by_cond P (ltb c ops.count)
      (λ g. by_cond P (eqb (kind_of ops c) prefix_kind) (p (ltb-true c most_operators h) (ltb-true c ops.count g))
      (i (ltb-true c most_operators h) (ltb-true c ops.count g)))
      (λ _. m))
      (λ _. by_cond P (eqb c opening) (λ h. o (eqb-true c opening h))
      (λ _. by_cond P (eqb c closing) (λ h. s (eqb-true c closing h))
      (λ _. by_cond P (ltb c first_reading) (λ _. m)
      (λ h. by_cond P (ltb last_reading c) (λ _. m) (λ g. r (ltb-false c first_reading h) (ltb-false last_reading c g))))))

  -- which bytes are operators, and which are readings
  pub infix_byte : (c : ℕ) → class ops c ≡ Infix → (c < most_operators) × (c < ops.count)
  infix_byte c e =
      by_class (λ x. marked x ≡ 1 → (c < most_operators) × (c < ops.count)) c (λ h g _ _. (h, g)) (λ _ _ _ q. absurd (omega arith)) (λ _ q. absurd (omega arith))
      (λ _ q. absurd (omega arith)) (λ _ _ q. absurd (omega arith)) (λ q. absurd (omega arith)) (ap marked e)

  pub prefix_byte : (c : ℕ) → class ops c ≡ Prefix → (c < most_operators) × (c < ops.count)
  prefix_byte c e =
      by_class (λ x. marked x ≡ 3 → (c < most_operators) × (c < ops.count)) c (λ _ _ _ q. absurd (omega arith)) (λ h g _ _. (h, g)) (λ _ q. absurd (omega arith))
      (λ _ q. absurd (omega arith)) (λ _ _ q. absurd (omega arith)) (λ q. absurd (omega arith)) (ap marked e)

  pub reading_byte : (c : ℕ) → class ops c ≡ Reading → (first_reading ≤ c) × (c ≤ last_reading)
  reading_byte c e =
      by_class (λ x. marked x ≡ 2 → (first_reading ≤ c) × (c ≤ last_reading)) c (λ _ _ _ q. absurd (omega arith)) (λ _ _ _ q. absurd (omega arith)) (λ _ q. absurd (omega arith))
      (λ _ q. absurd (omega arith)) (λ h g _. (h, g)) (λ q. absurd (omega arith)) (ap marked e)

  pub brackets : Brackets (class ops)
  unfolding class
  brackets =
      record {
        opens = refl;
        closes = refl;
        opening_only = λ c. by_class (λ x. x ≡ Opening → c ≡ opening) c (λ _ _ _ e. cc) (λ _ _ _ e. cc) (λ h _. h) (λ _ e. cc) (λ _ _ e. cc) (λ e. cc);
        closing_only = λ c. by_class (λ x. x ≡ Closing → c ≡ closing) c (λ _ _ _ e. cc) (λ _ _ _ e. cc) (λ _ e. cc) (λ h _. h) (λ _ _ e. cc) (λ e. cc);
      }

  -- a byte that passes a test that no other class than an operator's passes is below the count
  pub operator_below : (p : Class → Bool) → p Opening ≡ false → p Closing ≡ false → p Reading ≡ false → p Meaningless ≡ false
      → (c : ℕ) → p (class ops c) ≡ true → c < ops.count
  operator_below p o s r m c =
      by_class (λ x. p x ≡ true → c < ops.count) c (λ _ h _ _. h) (λ _ h _ _. h) (λ _ e. absurd (true≢false (sym e ∙ o))) (λ _ e. absurd (true≢false (sym e ∙ s)))
      (λ _ _ e. absurd (true≢false (sym e ∙ r))) (λ e. absurd (true≢false (sym e ∙ m)))

-- What does not tell infix from prefix operators is told by the count of operators: their kinds don't matter.
pub by_count : (p : Class → Bool) → p Prefix ≡ p Infix → (ops : Operators) (kinds : List ℕ) (c : ℕ) → p (class (operators ops.count kinds) c) ≡ p (class ops c)
unfolding class
by_count p same ops kinds c = go (ltb c most_operators) (ltb c ops.count) (eqb (kind_of (operators ops.count kinds) c) prefix_kind) (eqb (kind_of ops c) prefix_kind) _
  where
    either : (x : Bool) → p (cond x Prefix Infix) ≡ p Infix
    either true = same
    either false = refl

    go : (a b x y : Bool) (rest : Class) → p (cond a (cond b (cond x Prefix Infix) Meaningless) rest) ≡ p (cond a (cond b (cond y Prefix Infix) Meaningless) rest)
    go true true x y rest = either x ∙ sym (either y)
    go true false x y rest = refl
    go false b x y rest = refl
