-- What each way through `evaluate` gives. Assumes nothing.
use Prim.Native.Nat.{ℕ, ◌≤◌, ◌<◌}
use native.Mathlib.Omega.{arith}
use mathlib.Core.Path.{◌≡◌, refl, ap, ap₂, sym, ◌∙◌}
use mathlib.Core.Bool.{Bool, true, false}
use mathlib.Core.List.{List, [], ◌∷◌}
use lib.IntN.{ℤ, pos}
use lib.ListN.{length}
use borrow.Author.Rules.{rules}
use borrow.Author.Tests.{lt-ltb, le-ltb, ne_eqb}
use mir.Syntax.{w32}
use mir.Val.{SFits}
use Rattle.expression.specs.Refusal.{first, accepted, place, empty, no_meaning, no_reading}
use Rattle.expression.specs.Token.{Operators, class}
use Rattle.expression.specs.Tree.{Tree, record_of}
use Rattle.expression.specs.Decode.{tree_of}
use Rattle.expression.specs.Checks.{record_checks, record_number}
use Rattle.expression.proofs.Classes.{brackets}
use Rattle.expression.proofs.RecordsAndTrees.{record_tree_of}
use Rattle.expression.proofs.Numbers.{first_append, first_refused, passed_first, record_numbered}
use Rattle.sheet.specs.Layout.{operators_of}
use Rattle.record.specs.Checks.{stranger_in_record}
use Rattle.record.proofs.Accepted.{Accepted, accepted_tree}
use Rattle.run.specs.Places.{place_count, held}
use Rattle.run.specs.Panel.{place_check, empty_check}
use Rattle.run.proofs.Replies.{front_accepted}
use Rattle.run.proofs.Places.{empty_true, empty_false}
use Rattle.evaluator.specs.Value.{lacks_meaning, lacks_reading, tree_checks}
use Rattle.evaluator.specs.Bytes.{any_meaningless, any_beyond}
use Rattle.evaluator.specs.Walk.{Evaluable, IsValue}
use Rattle.std.specs.Prelude.{Ok, Err}
use Rattle.expression.specs.declared.refusal.Refusal.{Refusal}
use Rattle.expression.specs.declared.refusal.Refusal.TheVariants as refusal
use Rattle.expression.specs.Outcome as outcome
use Rattle.sheet.proofs.Loading.{refusal_told}
use Rattle.evaluator.specs.Outcome.{evaluation_of}
use Rattle.evaluator.specs.Evaluation.{EvaluatesOn, evaluated, checks_in, value_in, record_and_tree, number_of, evaluation_of_record, evaluation}
use Rattle.evaluator.specs.declared.Evaluation.{Evaluation}
use Rattle.evaluator.proofs.Lacking.{meanings_of_tree, readings_of_tree}

-- a refusal is answered with the value 0
pub refused : (number found : ℕ) (v : ℤ) → found ≡ number → (number ≡ accepted → ⊥) → {r : Evaluation} → r ≡ record { number = number; value = pos 0 } → r ≡ evaluated found v
refused number found v known h e = e ∙ rw (known, ne_eqb number accepted h)

-- an accepted record, and its tree
pub by_tree : (meanings : List ℕ) (readings : List ℤ) (ops : Operators) (bytes : List ℕ) (t : Tree) → Accepted ops bytes t
    → number_of meanings readings ops bytes ≡ first (tree_checks meanings readings t)
unfolding number_of
by_tree meanings readings ops bytes t a =
    first_append (record_checks ops bytes) (checks_in meanings readings (tree_of (class ops) bytes)) a.passed
    ∙ ap (λ t. first (checks_in meanings readings t)) a.read

-- ---- the number
module _ (meanings : List ℕ) (readings : List ℤ) (sheet bytes : List ℕ) where
  abbrev ops : Operators
  ops = operators_of sheet

  -- what the checks find in the bytes is what the tree lacks
  module _ (t : Tree) (a : Accepted ops bytes t) where
    recorded : record_of t ≡ bytes
    recorded = (record_tree_of (class ops) (brackets ops) bytes t a.read).0

    meanings_found : any_meaningless sheet meanings bytes ≡ lacks_meaning meanings t
    meanings_found = ap (any_meaningless sheet meanings) (sym recorded) ∙ meanings_of_tree sheet meanings t a.stands.over

    readings_found : any_beyond (length readings) bytes ≡ lacks_reading readings t
    readings_found = ap (any_beyond (length readings)) (sym recorded) ∙ readings_of_tree ops readings t a.stands.over

    by_bytes : first ((any_meaningless sheet meanings bytes, no_meaning) ∷ (any_beyond (length readings) bytes, no_reading) ∷ []) ≡ number_of meanings readings ops bytes
    by_bytes = ap₂ (λ x y. first ((x, no_meaning) ∷ (y, no_reading) ∷ [])) meanings_found readings_found ∙ sym (by_tree meanings readings ops bytes t a)

  module _ {number : ℕ} (known : number ≡ record_number ops bytes) where
    pub own_number : (number ≡ accepted → ⊥) → number ≡ number_of meanings readings ops bytes
    unfolding number_of record_number
    own_number f = known ∙ sym (first_refused (record_checks ops bytes) (checks_in meanings readings (tree_of (class ops) bytes)) (λ z. f (known ∙ z)))

    pub no_stranger : number ≡ accepted → stranger_in_record ops bytes ≡ false
    unfolding stranger_in_record
    no_stranger z = let (t, a) = accepted_tree ops bytes (sym known ∙ z) in a.passed.1.0

    module _ (z : number ≡ accepted) {s : Bool} (m : s ≡ any_meaningless sheet meanings bytes) where
      in_order : first ((s, no_meaning) ∷ (any_beyond (length readings) bytes, no_reading) ∷ []) ≡ number_of meanings readings ops bytes
      in_order =
          let (t, a) = accepted_tree ops bytes (sym known ∙ z) in
          ap (λ x. first ((x, no_meaning) ∷ (any_beyond (length readings) bytes, no_reading) ∷ [])) m ∙ by_bytes t a

      pub no_meaning_lem : s ≡ true → no_meaning ≡ number_of meanings readings ops bytes
      no_meaning_lem q = rw (← in_order, q)

      module _ (q : s ≡ false) {u : Bool} (b : u ≡ any_beyond (length readings) bytes) where
        pub no_reading_lem : u ≡ true → no_reading ≡ number_of meanings readings ops bytes
        no_reading_lem v = rw (← in_order, q, sym b ∙ v)

        pub nothing_lacks : u ≡ false → accepted ≡ number_of meanings readings ops bytes
        nothing_lacks v = rw (← in_order, q, sym b ∙ v)

-- ---- the value
module _ (meanings : List ℕ) (readings : List ℤ) (ops : Operators) (bytes : List ℕ) where
  pub refused_record : {number : ℕ} → number ≡ number_of meanings readings ops bytes → (number ≡ accepted → ⊥) → {r : Evaluation} → r ≡ record { number = number; value = pos 0 }
      → r ≡ evaluation_of_record meanings readings ops bytes
  unfolding evaluation_of_record
  refused_record {number} known f = refused number (number_of meanings readings ops bytes) (value_in meanings readings (tree_of (class ops) bytes)) (sym known) f

  module _ (known : accepted ≡ number_of meanings readings ops bytes) where
    the_tree : (t : Tree) × Accepted ops bytes t
    unfolding number_of record_number
    the_tree = accepted_tree ops bytes (front_accepted (record_checks ops bytes) (checks_in meanings readings (tree_of (class ops) bytes)) (record_numbered ops bytes) (sym known))

    none_lacking : (t : Tree) → Accepted ops bytes t → (lacks_meaning meanings t ≡ false) × (lacks_reading readings t ≡ false)
    none_lacking t a =
        let (m, (r, _)) = passed_first (tree_checks meanings readings t) ((λ e. omega arith), ((λ e. omega arith), tt)) (sym (by_tree meanings readings ops bytes t a) ∙ sym known) in
        (m, r)

    pub can_be_valued : Evaluable bytes meanings readings 0
    can_be_valued =
        let (t, a) = the_tree in
        let (m, r) = none_lacking t a in
        record {
          short = a.bytes_fit;
          ops = ops;
          tree = t;
          to = length bytes;
          stands = a.stands;
          meant = m;
          read = r;
        }

    pub valued : {w : ℤ} → SFits w32 w → IsValue bytes meanings readings w → evaluation_of (Ok w) ≡ evaluation_of_record meanings readings ops bytes
    unfolding evaluation_of_record
    valued {w = w} f r =
        let (t, a) = the_tree in
        let same : w ≡ value_in meanings readings (tree_of (class ops) bytes) =
        r.valued ops t (length bytes) a.stands (none_lacking t a).0 ∙ ap (value_in meanings readings) (sym a.read) in
        rw (sym known) (ap (λ (x : ℤ). evaluation_of (Ok x)) same)

pub ruleset number_of_ways = (own_number, no_stranger, no_meaning_lem, no_reading_lem, nothing_lacks, rules)

-- ---- a place
module _ (meanings : List ℕ) (readings : List ℤ) (sheet : List ℕ) (places : List (List ℕ)) (k : ℕ) where
  module _ {bytes : List ℕ} (e : bytes ≡ held places k) where
    -- the answer, where the place holds these bytes
    as_held : {r : Evaluation} → r ≡ evaluated (first (place_check k ∷ empty_check bytes ∷ record_and_tree meanings readings (operators_of sheet) bytes)) (value_in meanings readings (tree_of (class (operators_of sheet)) bytes))
        → EvaluatesOn meanings readings sheet places k r
    unfolding evaluation
    as_held q =
        record {
          answers =
              λ staged. q ∙ ap (λ b. evaluated (first (place_check k ∷ empty_check b ∷ record_and_tree meanings readings (operators_of sheet) b)) (value_in meanings readings (tree_of (class (operators_of sheet)) b))) e;
        }

    pub none_held : {r : Evaluation} → k < place_count → length bytes ≡ 0 → r ≡ record { number = empty; value = pos 0 } → EvaluatesOn meanings readings sheet places k r
    none_held h z q = as_held (refused empty _ _ (rw (lt-ltb k place_count h, empty_true bytes z)) (λ e. omega arith) q)

    pub held_valued : {r : Evaluation} → k < place_count → (length bytes ≡ 0 → ⊥) → r ≡ evaluation_of_record meanings readings (operators_of sheet) bytes
        → EvaluatesOn meanings readings sheet places k r
    unfolding evaluation_of_record number_of
    held_valued h n q = as_held (rw (lt-ltb k place_count h, empty_false bytes n) q)

  pub over : {e : Refusal} → e ≡ refusal.Place → place_count ≤ k → {r : Evaluation} → r ≡ evaluation_of (Err e) → EvaluatesOn meanings readings sheet places k r
  over q h w = as_held refl (refused place _ _ (rw (le-ltb k place_count h)) (λ e. omega arith) (w ∙ ap (λ x. evaluation_of (Err x)) q))

  -- a refusal of the record that the place holds
  pub record_refused : {at : ℕ} → at ≡ k → at < place_count → {bytes : List ℕ} → bytes ≡ held places at → (length bytes ≡ 0 → ⊥) → (e : Refusal)
      → outcome.number_of e ≡ number_of meanings readings (operators_of sheet) bytes → EvaluatesOn meanings readings sheet places k (evaluation_of (Err e))
  record_refused {at} there below {bytes} holds n e known =
      held_valued (holds ∙ ap (held places) there) (omega arith) n (refused_record meanings readings (operators_of sheet) bytes known (refusal_told e) refl)

pub ruleset evaluate_ways = (over, none_held, held_valued, refused_record, can_be_valued, valued, rules)
