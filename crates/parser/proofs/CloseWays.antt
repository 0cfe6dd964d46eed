-- What each way through `closes_at`, `close` and `add` gives, from what is known on it. Assumes nothing.
use mathlib.Core.Path.{◌≡◌, refl, sym, ap, ◌∙◌}
use mathlib.Core.Bool.{Bool, true, false, ◌&&◌, true≢false}
use mathlib.Core.List.{List}
use Prim.Native.Nat.{ℕ, ◌-◌, ◌<◌, ◌≤◌}
use native.Mathlib.Omega.{arith}
use lib.Dec.{ltb}
use lib.ListN.{length, get_or}
use borrow.Author.Tests.{lt-ltb, le-ltb}
use borrow.Author.Rules.{rules}
use Rattle.expression.specs.Limits.{most_operators, most_tokens}
use Rattle.expression.specs.Token.{opening, Operators}
use Rattle.disambiguation.specs.LeftToRight.{after, ahead, operator_of, Stack, bottom, opened, waiting, remains}
use Rattle.disambiguation.proofs.BelowLaws.{and_true}
use Rattle.parser.specs.Notes.{byte_in, back_in}
use Rattle.parser.specs.Reading.{closed_by, ends, Waits, SomeWait, Closes}
use Rattle.parser.proofs.Closing.{length_waiting, length_led, waits_length, top_note}

-- ---- close_waiting
module _ (ops : Operators) (closes : ℕ → ℕ → Bool) (c : ℕ) (words : List ℕ) (from : ℕ) where
  -- some has closed, and what is left of what waits now is what is to be left
  pub record Closing (first : ℕ) : Type 0 where
    pub some_wait : SomeWait ops words first
    pub left : (s : Stack) → Waits ops words from s → (u : Stack) × Waits ops words first u × (remains (closed_by closes c) u ≡ remains (closed_by closes c) s)
    pub lower : first ≤ from

  pub closing_starts : SomeWait ops words from → Closing from
  closing_starts w = record { some_wait = w; left = λ u v. (u, v, refl); lower = omega arith }

  module _ {first : ℕ} (k : Closing first) where
    pub before_inside : length words ≤ most_tokens → 0 < first → first - 1 < most_tokens
    before_inside few h = omega (arith, k.some_wait.stands.inside)

    -- what closes is an operator, and what waits below it begins where its word says
    module _ {word byte : ℕ} {b : Bool} (positive : 0 < first) (is_word : word ≡ get_or words (first - 1) 0)
        (is_byte : byte ≡ byte_in word) (told : b ≡ ends closes c byte) where
      is_byte_lem : byte ≡ byte_in (get_or words (first - 1) 0)
      is_byte_lem = rw is_word at is_byte

      abbrev here : ℕ
      here = get_or words (first - 1) 0

      lower_stack : ends closes c byte ≡ true → (s : Stack) → Waits ops words first s
          → (u : Stack) × Waits ops words (first - 1 - back_in here) u × (back_in here < first) ×
          (remains (closed_by closes c) u ≡ remains (closed_by closes c) s)
      unfolding ends
      lower_stack e bottom w = absurd (top_note ops words first positive bottom w)
      lower_stack e (opened s) w =
          let is : byte ≡ opening = is_byte_lem ∙ top_note ops words first positive (opened s) w in
          absurd (true≢false (sym (and_true (ltb byte most_operators) (closed_by closes c byte) e).0 ∙ le-ltb byte most_operators (omega arith)))
      lower_stack e (waiting f s) w =
          let (is, small, low, below) = top_note ops words first positive (waiting f s) w in
          let closed : closed_by closes c (operator_of f) ≡ true = ap (closed_by closes c) (sym (is_byte_lem ∙ is))
          ∙ (and_true (ltb byte most_operators) (closed_by closes c byte) e).1 in
          (s, below, low, sym (rw closed refl))

      pub back_inside : {r : ℕ} → b ≡ true → r ≡ back_in word → r ≤ first - 1
      back_inside {r} e q =
          let w = k.some_wait in
          let (u, v, low, same) = lower_stack (sym told ∙ e) w.stack w.stands in
          let back : r ≡ back_in here = rw is_word at q in omega (arith, back, low)

      pub closing_more : {r : ℕ} → b ≡ true → r ≡ back_in word → Closing (first - 1 - r)
      closing_more {r} e q =
          let back : r ≡ back_in here = rw is_word at q in
          let yes = sym told ∙ e in
          let w = k.some_wait in
          let (u, v, low, same) = lower_stack yes w.stack w.stands in
          rw back (record {
            some_wait = record { stack = u; stands = v };
            left = λ x y.
                let (x₁, y₁, e₁) = k.left x y in
                let (x₂, y₂, low₂, e₂) = lower_stack yes x₁ y₁ in
                (x₂, y₂, e₂ ∙ e₁);
            lower = omega (arith, k.lower);
          })

      stays : ends closes c byte ≡ false → (s : Stack) → Waits ops words first s → remains (closed_by closes c) s ≡ s
      unfolding ends
      stays e bottom w = refl
      stays e (opened s) w = refl
      stays e (waiting f s) w =
          let (is, small, low, below) = top_note ops words first positive (waiting f s) w in
          let e' : (ltb (operator_of f) most_operators && closed_by closes c (operator_of f)) ≡ false = ap
          (λ x. ltb x most_operators && closed_by closes c x) (sym (is_byte_lem ∙ is)) ∙ e in
          let open_still : closed_by closes c (operator_of f) ≡ false = rw (lt-ltb (operator_of f) most_operators small) at e' in
          rw open_still refl

      pub closing_stops : b ≡ false → Closes ops closes c words from first
      closing_stops e =
          record {
            left = λ s w.
                let (u, v, same) = k.left s w in
                rw (← (same)) (rw (stays (sym told ∙ e) u v) v);
            lower = k.lower;
          }

    empty : (s : Stack) → Waits ops words first s → first ≤ 0 → remains (closed_by closes c) s ≡ s
    empty bottom w h = refl
    empty (opened s) w h = refl
    empty (waiting (after l o) s) w h = absurd (omega (arith, waits_length ops words first w, length_waiting l o s))
    empty (waiting (ahead p) s) w h = absurd (omega (arith, waits_length ops words first w, length_led p s))

    pub closing_ends : first ≤ 0 → Closes ops closes c words from first
    closing_ends h =
        record {
          left = λ s w.
              let (u, v, same) = k.left s w in
              rw (← (same)) (rw (empty u v h) v);
          lower = k.lower;
        }

pub ruleset close_ways = (closing_starts, before_inside, back_inside, closing_more, closing_stops, closing_ends, rules)
