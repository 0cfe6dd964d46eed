-- What each way through reading a sheet and loading it gives, from what is known on it. Assumes nothing.
use mathlib.Core.Path.{◌≡◌, refl, sym, ap, ap₂, ◌∙◌}
use mathlib.Core.Bool.{Bool, true, false, not, ◌||◌, cond}
use mathlib.Core.List.{List}
use Prim.Native.Nat.{ℕ, ◌-◌, ◌%◌, ◌<◌, ◌≤◌}
use native.Mathlib.Omega.{arith}
use borrow.Author.Tests.{lt-ltb, le-ltb, eq-eqb, ne_eqb, ltb-false}
use borrow.Author.Rules.{rules}
use lib.Dec.{eqb, ltb}
use lib.ListN.{length, set, take, drop, length-drop}
use lib.Seq.{length-take-le}
use Rattle.expression.specs.Lists.{any_holds}
use Rattle.expression.specs.Limits.{most_operators, most_rule_bytes, bytes_of_rule}
use Rattle.std.specs.Prelude.{Result, Ok, Err}
use Rattle.expression.specs.Outcome.{number_of}
use Rattle.expression.specs.Refusal.{first, accepted, oversize, torn, stranger}
use Rattle.expression.specs.declared.refusal.Refusal.{Refusal}
use Rattle.expression.specs.declared.refusal.Refusal.TheVariants.{Oversize, Torn, Stranger, Dead, Double, NoRow, NoTree, Place, Empty, Short, InUse, Frame, NoMeaning, NoReading, NothingStaged, OtherRow, Conflict}
use Rattle.expression.proofs.Numbers.{first_append, first_refused, passed_first}
use Rattle.disambiguation.specs.Rules.{L, R}
use Rattle.disambiguation.specs.Verdict.{rule_checks}
use Rattle.disambiguation.specs.SheetChecks.{strange_rule, strange_kind, kinds_in, rules_in, operators_in, order_checks, InOrder, sheet_number}
use Rattle.relation.specs.Relation.{closes_in, turned}
use Rattle.relation.specs.Words.{operators_by}
use Rattle.relation.specs.Relating.{closes_words, yields_words}
use Rattle.relation.specs.Relations.{Relate}
use Rattle.relation.specs.declared.count.Count.{Count}
use Rattle.relation.specs.declared.relations.Relations.{Relations}
use Rattle.relation.specs.Tests.{rules_number}
use Rattle.relation.proofs.Verdicts.{number_same}
use Rattle.sheet.specs.Layout.{count_word, prefix_word_at, loaded_word}
use Rattle.sheet.specs.Kinds.{prefix_word}
use Rattle.sheet.specs.Loading.{size_number, ReadsSheet, MakesSheet, sheet_of, Loads}
use Rattle.sheet.proofs.Ordered.{Ordered, order_numbered, ordered, operators_read, closes_read, yields_read}

-- ---- size_number
module _ (n size : ℕ) where
  pub many_operators : most_operators < n → 1 ≡ size_number n size
  unfolding size_number
  many_operators h = simp (lt-ltb most_operators n h)

  pub few_kinds : n ≤ most_operators → size < n → 2 ≡ size_number n size
  unfolding size_number
  few_kinds h k = simp (le-ltb most_operators n h, le-ltb most_rule_bytes (size - n) (omega arith), lt-ltb size n k)

  pub many_bytes : n ≤ most_operators → n ≤ size → most_rule_bytes < size - n → 1 ≡ size_number n size
  unfolding size_number
  many_bytes h l k = simp (le-ltb most_operators n h, lt-ltb most_rule_bytes (size - n) k)

  pub torn_bytes : n ≤ most_operators → n ≤ size → size - n ≤ most_rule_bytes → ((size - n) % bytes_of_rule ≡ 0 → ⊥) → 2 ≡ size_number n size
  unfolding size_number
  torn_bytes h l k t = simp (le-ltb most_operators n h, le-ltb most_rule_bytes (size - n) k, le-ltb size n l, ne_eqb ((size - n) % bytes_of_rule) 0 t)

  pub size_right : n ≤ most_operators → n ≤ size → size - n ≤ most_rule_bytes → (size - n) % bytes_of_rule ≡ 0 → 0 ≡ size_number n size
  unfolding size_number
  size_right h l k t = simp (le-ltb most_operators n h, le-ltb most_rule_bytes (size - n) k, le-ltb size n l, eq-eqb ((size - n) % bytes_of_rule) 0 t)

pub ruleset size_ways = (many_operators, few_kinds, many_bytes, torn_bytes, size_right, rules)

-- ---- read
sized : (n size : ℕ) → size_number n size ≡ 0 → (n ≤ most_operators) × (n ≤ size)
unfolding size_number
sized n size e = go (ltb most_operators n) (ltb most_rule_bytes (size - n)) (ltb size n) (not (eqb ((size - n) % bytes_of_rule) 0)) refl refl e
  where
    go : (p q s t : Bool) → ltb most_operators n ≡ p → ltb size n ≡ s → cond (p || q) oversize (cond (s || t) torn accepted) ≡ accepted → (n ≤ most_operators) × (n ≤ size)
    go true q s t a b z = absurd (omega arith)
    go false true s t a b z = absurd (omega arith)
    go false false true t a b z = absurd (omega arith)
    go false false false t a b z = (ltb-false most_operators n a, ltb-false size n b)

module _ (n k : ℕ) (e : 0 ≡ size_number n k) where
  pub few_operators : n ≤ most_operators
  few_operators = (sized n k (sym e)).0

  -- and their kinds are there
  pub kinds_there : n ≤ k
  kinds_there = (sized n k (sym e)).1

pub kinds_few : (n : ℕ) (bytes : List ℕ) → 0 ≡ size_number n (length bytes) → length (take n bytes) ≤ most_operators
kinds_few n bytes e = omega (arith, length-take-le n bytes (kinds_there n (length bytes) e), few_operators n (length bytes) e)

-- no refusal has number 0
pub refusal_told : (e : Refusal) → number_of e ≡ 0 → ⊥
refusal_told Oversize h = absurd (omega arith)
refusal_told Torn h = absurd (omega arith)
refusal_told Stranger h = absurd (omega arith)
refusal_told Dead h = absurd (omega arith)
refusal_told Double h = absurd (omega arith)
refusal_told NoRow h = absurd (omega arith)
refusal_told NoTree h = absurd (omega arith)
refusal_told Place h = absurd (omega arith)
refusal_told Empty h = absurd (omega arith)
refusal_told Short h = absurd (omega arith)
refusal_told InUse h = absurd (omega arith)
refusal_told Frame h = absurd (omega arith)
refusal_told NoMeaning h = absurd (omega arith)
refusal_told NoReading h = absurd (omega arith)
refusal_told NothingStaged h = absurd (omega arith)
refusal_told OtherRow h = absurd (omega arith)
refusal_told Conflict h = absurd (omega arith)

module _ (n : ℕ) (bytes : List ℕ) where
  abbrev many_of : Bool
  many_of = ltb most_operators n || ltb most_rule_bytes (length bytes - n)

  abbrev torn_of : Bool
  torn_of = ltb (length bytes) n || not (eqb ((length bytes - n) % bytes_of_rule) 0)

  abbrev strange_of : Bool
  strange_of = any_holds strange_kind (kinds_in n bytes) || any_holds (strange_rule n) (rules_in n bytes)

  -- the number by its parts
  parts : first (order_checks n bytes) ≡ cond many_of oversize (cond torn_of torn (cond strange_of stranger accepted))
  parts = rw (length-drop n bytes)

  by_size : (size_number n (length bytes) ≡ 0 → ⊥) → size_number n (length bytes) ≡ first (order_checks n bytes)
  unfolding size_number
  by_size h = go many_of torn_of _ h ∙ sym parts
    where
      go : (p t : Bool) (rest : ℕ) → (cond p oversize (cond t torn accepted) ≡ accepted → ⊥) → cond p oversize (cond t torn accepted) ≡ cond p oversize (cond t torn rest)
      go true t rest k = refl
      go false true rest k = refl
      go false false rest k = absurd (k refl)

  by_strangers : size_number n (length bytes) ≡ 0 → cond strange_of stranger accepted ≡ first (order_checks n bytes)
  unfolding size_number
  by_strangers h = go many_of torn_of _ h ∙ sym parts
    where
      go : (p t : Bool) (rest : ℕ) → cond p oversize (cond t torn accepted) ≡ accepted → rest ≡ cond p oversize (cond t torn rest)
      go true t rest k = absurd (omega arith)
      go false true rest k = absurd (omega arith)
      go false false rest k = refl

  pub read_size : (e : Refusal) → number_of e ≡ size_number n (length bytes) → number_of e ≡ first (order_checks n bytes)
  read_size e q = q ∙ by_size (λ z. refusal_told e (q ∙ z))

  module _ (sized : 0 ≡ size_number n (length bytes)) where
    read_strange : strange_of ≡ true → 3 ≡ first (order_checks n bytes)
    read_strange o = sym (ap (λ s. cond s stranger accepted) o) ∙ by_strangers (sym sized)

    pub read_kinds : {odd : Bool} → odd ≡ any_holds strange_kind (take n bytes) → odd ≡ true → 3 ≡ first (order_checks n bytes)
    read_kinds o y = read_strange (ap (λ b. b || any_holds (strange_rule n) (rules_in n bytes)) (sym o ∙ y))

    -- what the reading of the rules comes to
    pub read_rules : {odd : Bool} {word : ℕ} (count : Count) (r : Result Relations Refusal) → odd ≡ any_holds strange_kind (take n bytes) → odd ≡ false
        → word ≡ prefix_word (take n bytes) (length (take n bytes)) → count.n ≡ n → Relate count word (drop n bytes) r → MakesSheet n bytes r
    read_rules {word = word} count r o y w e relate = go r relate
      where
        strange_is : {strange : Bool} → any_holds (strange_rule count.n) (rules_in n bytes) ≡ strange → strange_of ≡ strange
        strange_is s = ap₂ ◌||◌ (sym o ∙ y) (ap (λ m. any_holds (strange_rule m) (rules_in n bytes)) (sym e) ∙ s)

        go : (r : Result Relations Refusal) → Relate count word (drop n bytes) r → MakesSheet n bytes r
        go (Err x) (which, s) = ap number_of which ∙ read_strange (strange_is s)
        go (Ok made) (c, p, relates) = (
          ap (λ (k : Count). k.n) c ∙ e,
          record {
            number = sym (ap (λ s. cond s stranger accepted) (strange_is (sym relates.strange_is))) ∙ by_strangers (sym sized);
            -- the word is that of the n kinds
            word_is = λ _. p ∙ w ∙ ap (prefix_word (kinds_in n bytes)) (length-take-le n bytes (kinds_there n (length bytes) sized));
            closes_is = λ _. relates.closes_is refl ∙ ap (λ m. closes_words m (rules_in n bytes)) e;
            yields_is = λ _. relates.yields_is refl ∙ ap (λ m. yields_words m (rules_in n bytes)) e;
          },
        )

pub ruleset read_ways = (few_operators, kinds_there, kinds_few, read_size, read_kinds, read_rules, rules)

-- ---- load
module _ (n : ℕ) (bytes t u : List ℕ) {word : ℕ} (reads : ReadsSheet n bytes 0 word t u) where
  in_order : InOrder n bytes
  in_order = passed_first (order_checks n bytes) (order_numbered n bytes) (sym reads.number)

  pub known : Ordered n bytes
  known = ordered n bytes in_order

refused : (before : List ℕ) (n : ℕ) (bytes : List ℕ) (e : Refusal) → number_of e ≡ sheet_number n bytes → Loads before n bytes (number_of e) before
refused before n bytes e q = record { number = q; stands = rw (ne_eqb (sheet_number n bytes) accepted (λ z. refusal_told e (q ∙ z))) }

pub load_order : (before : List ℕ) (n : ℕ) (bytes : List ℕ) (e : Refusal) → number_of e ≡ first (order_checks n bytes)
    → Loads before n bytes (number_of e) before
unfolding sheet_number
load_order before n bytes e q =
    refused before n bytes e
    (q ∙ sym (first_refused (order_checks n bytes) (rule_checks (operators_in n bytes) (L (rules_in n bytes)) (R (rules_in n bytes)))
    (λ z. refusal_told e (q ∙ z))))

module _ (before : List ℕ) (n : ℕ) (bytes t u : List ℕ) {word m : ℕ} (count : m ≡ n) (reads : ReadsSheet n bytes 0 word t u) where
  sheet_number_lem : {number : ℕ} → number ≡ rules_number (operators_by m word) (turned (closes_in u)) (closes_in t) → number ≡ sheet_number n bytes
  unfolding sheet_number rules_number
  sheet_number_lem number_is =
      number_is
      ∙ ap (λ k. rules_number (operators_by k word) (turned (closes_in u)) (closes_in t)) count
      ∙ ap₂ (λ (v x : List ℕ). rules_number (operators_by n word) (turned (closes_in v)) (closes_in x)) (reads.yields_is refl) (reads.closes_is refl)
      ∙ number_same (operators_by n word) (turned (closes_in (yields_words n (rules_in n bytes)))) (L (rules_in n bytes))
      (closes_in (closes_words n (rules_in n bytes))) (R (rules_in n bytes))
      (yields_read n bytes (known n bytes t u reads)) (closes_read n bytes (known n bytes t u reads))
      ∙ ap (λ ops. rules_number ops (L (rules_in n bytes)) (R (rules_in n bytes)))
      (ap (operators_by n) (reads.word_is refl) ∙ operators_read n bytes (known n bytes t u reads))
      ∙ sym (first_append (order_checks n bytes) (rule_checks (operators_in n bytes) (L (rules_in n bytes)) (R (rules_in n bytes)))
      (in_order n bytes t u reads))

  pub load_rules : (e : Refusal) → number_of e ≡ rules_number (operators_by m word) (turned (closes_in u)) (closes_in t)
      → Loads before n bytes (number_of e) before
  load_rules e q = refused before n bytes e (sheet_number_lem q)

  pub load_accepted : 0 ≡ rules_number (operators_by m word) (turned (closes_in u)) (closes_in t)
      → Loads before n bytes 0 (set (set (set t count_word n) prefix_word_at word) loaded_word 1)
  unfolding sheet_of
  load_accepted q =
      record {
        number = sheet_number_lem q;
        stands =
            rw (eq-eqb (sheet_number n bytes) accepted (sym (sheet_number_lem q)))
            (ap₂ (λ (w : List ℕ) (x : ℕ). set (set (set w count_word n) prefix_word_at x) loaded_word 1) (reads.closes_is refl) (reads.word_is refl));
      }

pub ruleset load_ways = (load_order, load_rules, load_accepted, rules)
