-- What each way through `take_operator`, `take_closing` and `take_token` gives, from what is known on it. Assumes nothing.
use mathlib.Core.Path.{◌≡◌, refl, sym, ap, ap₂, subst, ◌∙◌}
use mathlib.Core.Bool.{Bool, false, cond}
use mathlib.Core.List.{List, [], ◌∷◌, ◌++◌}
use Prim.Native.Nat.{ℕ, suc, ◌+◌, ◌-◌, ◌<◌, ◌≤◌}
use native.Mathlib.Omega.{arith}
use lib.ListN.{length, get_or, take, set}
use lib.Seq.{take-set-lt, set_at, get_or_at, get_or-take}
use borrow.Author.Tests.{ne_eqb}
use borrow.Author.Rules.{rules}
use Rattle.expression.specs.Limits.{most_operators}
use Rattle.expression.specs.Token.{Infix, Prefix, closing, Operators, class}
use Rattle.expression.specs.Tree.{Tree, record_of, Over}
use Rattle.expression.proofs.Classes.{class_operator, by_class, brackets}
use Rattle.disambiguation.specs.LeftToRight.{after, Stack, bottom, opened, waiting, State, due, have, stuck, close, remains, everything, shut}
use Rattle.disambiguation.specs.LeftToRight.{where_due, where_read, before}
use Rattle.disambiguation.proofs.LeftToRight.{close_remains}
use Rattle.sheet.specs.Layout.{operators_of, prefix_in}
use Rattle.sheet.proofs.Laws.{class_in}
use Rattle.parser.specs.Notes.{note, raised, notes_of, notes_below, notes_at}
use Rattle.parser.specs.Reading.{next, Goes, OverBelow, closed_by, Waits, SomeWait, Noted, Closes, Takeable, Takes, Held, IsHeld, Adds, Raisable, Frees}
use Rattle.parser.proofs.NoteLaws.{length_notes_of, first_note}
use Rattle.parser.proofs.Shares.{share_none, share_byte}
use Rattle.parser.proofs.Closing.{close_over, length_opened, length_notes_at, close_notes, shut_notes, waits_length}
use Rattle.parser.proofs.OperandWays.{count_is, waits_before, told_operator, told_infix, operand_taken}

-- a token that no operand begins with comes where an operand was read: what waits stands before that
some_wait : (ops : Operators) (closes : ℕ → ℕ → Bool) (c : ℕ) (h : Held) → ((s : Stack) → Goes (where_due (class ops c) c s) → ⊥)
    → (m : State) → Noted ops h m → Goes (next ops closes c m) → SomeWait ops h.words h.first
some_wait ops closes c h d (due s) n g = absurd (d s g)
some_wait ops closes c h d (have s t) n g = record { stack = s; stands = waits_before n }
some_wait ops closes c h d stuck n g = absurd g

-- ---- take_operator
module _ (sheet : List ℕ) (closes : ℕ → ℕ → Bool) (c : ℕ) (h : Held) (operator : c < most_operators) (no_prefix : prefix_in sheet c ≡ false) where
  abbrev ops : Operators
  ops = operators_of sheet

  -- c is an infix operator, or has no meaning, and then nothing goes on
  due_stuck : (s : Stack) → Goes (where_due (class ops c) c s) → ⊥
  due_stuck s =
      by_class ops (λ k. Goes (where_due k c s) → ⊥) c (λ _ _ _ g. g)
      (λ _ below e _. let prefix-too = sym (class_in sheet c operator below ∙ ap (λ q. cond q Prefix Infix) no_prefix)
      ∙ class_operator ops c operator below ∙ ap (λ q. cond q Prefix Infix) e in let clash : ◌≡◌ {A = ℕ} 0 1 = cc in omega arith)
      (λ e _. omega arith) (λ e g. g) (λ h _ _. omega arith) (λ g. g)

  is_infix_lem : (s : Stack) (t : Tree) → Goes (where_read closes (class ops c) c s t) → class ops c ≡ Infix
  is_infix_lem s t =
      by_class ops (λ k. Goes (where_read closes k c s t) → k ≡ Infix) c (λ _ _ _ _. refl) (λ _ _ _ g. absurd g) (λ _ g. absurd g)
      (λ e _. absurd (omega arith)) (λ _ _ g. absurd g)
      (λ g. absurd g)

  pub operator_waits : Takeable ops closes c h → SomeWait ops h.words h.first
  operator_waits k = some_wait ops closes c h due_stuck k.state k.stands k.goes

  module _ {first : ℕ} (closed : Closes ops closes c h.words h.first first) where
    -- The operator's left operand: the tree that begins at `first`.
    record Left (s : Stack) (t : Tree) : Type 0 where
      first_is : first ≡ length (notes_below s)
      size_is : h.count - first ≡ length (record_of t)
      noted : take h.count h.words ≡ notes_below s ++ notes_of 0 t
      over_stack : OverBelow ops s
      over_tree : Over (class ops) t
      first_word : ℕ
      words_after : List ℕ
      begins : notes_of 0 t ≡ first_word ∷ words_after
      raised_to : notes_of 1 t ≡ raised first_word ∷ words_after
      small : raised first_word < 0x100000000
      before_count : first < h.count
      is_word : get_or h.words first 0 ≡ first_word

    left_operand : (s : Stack) (t : Tree) → Noted ops h (have s t) → Left (close (before closes c) s t).0 (close (before closes c) s t).1
    left_operand s t n = go (close (before closes c) s t).0 (close (before closes c) s t).1 same (n.noted
        ∙ close_notes (before closes c) s t) (close_over ops (before closes c) s t n.over.0 n.over.1)
      where
        same : remains (closed_by closes c) s ≡ (close (before closes c) s t).0
        same = ap (λ b. remains (cond b everything (before closes c)) s) (ne_eqb c closing (λ e. omega arith)) ∙ sym (close_remains (before closes c) s t)

        go : (u : Stack) (v : Tree) → remains (closed_by closes c) s ≡ u → take h.count h.words ≡ notes_at (have u v)
            → OverBelow ops u × Over (class ops) v → Left u v
        go u v e q over =
            let w = subst (λ x. Waits ops h.words first x) e (closed.left s (waits_before n)) in
            let at = waits_length ops h.words first w in
            let long : h.count ≡ length (notes_below u) + length (record_of v) = count_is n ∙ ap length (sym n.noted ∙ q) ∙ length_notes_at u v in
            let (x, xs, b, r, small) = first_note ops 0 v over.1 (omega (arith, long, n.held.inside)) in
            let some : length (record_of v) ≡ suc (length xs) = sym (length_notes_of 0 v) ∙ ap length b in
            let lower : first < h.count = omega (arith, at, long, some) in
            record {
              first_is = at;
              size_is = omega (arith, at, long);
              noted = q;
              over_stack = over.0;
              over_tree = over.1;
              first_word = x;
              words_after = xs;
              begins = b;
              raised_to = r;
              small = small;
              before_count = lower;
              is_word =
                  sym (get_or-take h.count h.words first 0 lower) ∙ ap (λ l. get_or l first 0) (q ∙ ap (λ l. notes_below u ++ l) b)
                  ∙ get_or_at (notes_below u) x xs 0 first (sym at);
            }

    -- the word of its first token can be raised
    raisable : (m : State) → Noted ops h m → Goes (next ops closes c m) → Raisable h first
    raisable (due s) n g = absurd (due_stuck s g)
    raisable (have s t) n g = let l = left_operand s t n in record { before_count = l.before_count; small = rw l.is_word l.small }
    raisable stuck n g = absurd g

    pub operator_raisable : Takeable ops closes c h → Raisable h first
    operator_raisable k = raisable k.state k.stands k.goes

    module _ {h' : Held} (frees : Frees c first h h') where
      operator_goes : (m : State) → Noted ops h m → Goes (next ops closes c m) → Noted ops h' (next ops closes c m)
      operator_goes (due s) n g = absurd (due_stuck s g)
      operator_goes (have s t) n g = rw (is_infix_lem s t g) (go (is_infix_lem s t g) (close (before closes c) s t).0 (close (before closes c) s t).1
          (left_operand s t n))
        where
          go : class ops c ≡ Infix → (u : Stack) (v : Tree) → Left u v → Noted ops h' (due (waiting (after v c) u))
          go infix_here u v l =
              let e : h'.count ≡ suc h.count = omega (arith, frees.counted) in
              let x : ℕ = raised (get_or h.words first 0) in
              let freed : set (take h.count h.words) first x ≡ notes_below u ++ notes_of 1 v =
              ap (λ w. set w first x) (l.noted ∙ ap (λ w. notes_below u ++ w) l.begins)
              ∙ set_at (notes_below u) l.first_word l.words_after x first (sym l.first_is)
              ∙ ap (λ w. notes_below u ++ raised w ∷ l.words_after) l.is_word ∙ ap (λ w. notes_below u ++ w) (sym l.raised_to) in
              record {
                noted =
                    ap (λ k. take k h'.words) e ∙ frees.added ∙ ap₂ (λ w n. w ++ note c 0 n ∷ []) freed l.size_is;
                begins = tt;
                over = (infix_here, l.over_tree, l.over_stack);
                held = frees.held;
              }
      operator_goes stuck n g = absurd g

      pub operator_taken : Takes ops closes c h h'
      operator_taken = record { taken = operator_goes; counted = omega (arith, frees.counted, share_byte c (λ e. omega arith)) }

pub ruleset operator_ways = (operator_waits, operator_raisable, operator_taken, rules)

-- ---- free_place
module _ (c first : ℕ) (h : Held) (can : Raisable h first) where
  -- the word at `first` of what is held
  abbrev with_word : Held → ℕ → Held
  with_word i x = record { words = set i.words first x; count = i.count; first = i.first }

  pub place_freed : {i h' : Held} {x y : ℕ} → i ≡ h → x ≡ raised (get_or h.words first 0) → y ≡ note c 0 (i.count - first)
      → Adds y first (with_word i x) h' → Frees c first h h'
  place_freed {h' = h'} {x} {y} same e q' adds' =
      let adds : Adds y first (with_word h x) h' = subst (λ j. Adds y first (with_word j x) h') same adds' in
      let q : y ≡ note c 0 (h.count - first) = q' ∙ ap (λ (j : Held). note c 0 (j.count - first)) same in
      record {
        added = adds.added ∙ ap₂ (λ w z. w ++ z ∷ []) (take-set-lt h.count h.words first x can.before_count ∙ ap (set (take h.count h.words) first) e) q;
        counted = adds.counted;
        first_is = adds.first_is;
        held = adds.held;
      }

-- ---- take_closing
module _ (ops : Operators) (closes : ℕ → ℕ → Bool) (h : Held) where
  closing_due : (s : Stack) → Goes (where_due (class ops closing) closing s) → ⊥
  closing_due s g = rw (brackets ops).closes at g

  pub closing_waits : Takeable ops closes closing h → SomeWait ops h.words h.first
  closing_waits k = some_wait ops closes closing h closing_due k.state k.stands k.goes

  module _ {inside : ℕ} (closed : Closes ops closes closing h.words h.first inside) where
    abbrev shorter : Held
    shorter = record { words = h.words; count = h.count; first = inside - 1 }

    shorter_held : IsHeld h → IsHeld shorter
    shorter_held k = record { ordered = omega (arith, closed.lower, k.ordered); inside = k.inside; full = k.full }

    shuts : (s : Stack) (t : Tree) → Noted ops h (have s t) → Goes (shut (close everything s t).0 (close everything s t).1)
        → (1 ≤ inside) × Noted ops shorter (shut (close everything s t).0 (close everything s t).1)
    shuts s t n =
        go (close everything s t).0 (close everything s t).1 (subst (λ x. Waits ops h.words inside x) (sym (close_remains everything s t))
        (closed.left s (waits_before n)))
        (n.noted ∙ close_notes everything s t) (close_over ops everything s t n.over.0 n.over.1)
      where
        go : (u : Stack) (v : Tree) → Waits ops h.words inside u → take h.count h.words ≡ notes_at (have u v) → OverBelow ops u × Over (class ops) v
            → Goes (shut u v)
            → (1 ≤ inside) × Noted ops shorter (shut u v)
        go bottom v w q over g = absurd g
        go (opened u) v w q over g =
            let at = waits_length ops h.words inside w ∙ length_opened u in (
              omega (arith, at),
              record { noted = q ∙ shut_notes u v; begins = omega (arith, at); over = over; held = shorter_held n.held },
            )
        go (waiting x u) v w q over g = absurd g

    -- what a closing bracket needs and leaves, in each state
    closing_goes : (m : State) → Noted ops h m → Goes (next ops closes closing m) → (1 ≤ inside) × Noted ops shorter (next ops closes closing m)
    closing_goes (due s) n g = absurd (closing_due s g)
    closing_goes (have s t) n g = rw (brackets ops).closes (shuts s t n (rw (brackets ops).closes at g))
    closing_goes stuck n g = absurd g

    pub closing_positive : Takeable ops closes closing h → 1 ≤ inside
    closing_positive k = (closing_goes k.state k.stands k.goes).0

    pub closing_taken : {i : Held} → i ≡ h → Takes ops closes closing h (record { words = i.words; count = i.count; first = inside - 1 })
    closing_taken same =
        rw same (record { taken = λ m n g. (closing_goes m n g).1; counted = omega (arith, share_none closing refl) })

pub ruleset closing_ways = (closing_waits, closing_positive, closing_taken, rules)

-- ---- take_token
module _ (ops : Operators) (closes : ℕ → ℕ → Bool) (c : ℕ) (h : Held) where
  pub closing_takeable : c ≡ closing → Takeable ops closes c h → Takeable ops closes closing h
  closing_takeable e k = rw e at k

  pub closing_token : {h' : Held} → c ≡ closing → Takes ops closes closing h h' → Takes ops closes c h h'
  closing_token e t = rw e t

pub ruleset token_ways = (told_operator, told_infix, closing_takeable, closing_token, operand_taken, rules)
