-- Why a sheet is refused: the first row of two operators, or of three, that has no conflict-free tree, or at least two. Assumes nothing.
--     The operators of such a row are a, b and c from the left, and only a may be a prefix operator. Its operands are readings, 80, 81, .. from the left.
use Rattle.std.specs.Prelude.{ℕ, ◌+◌, ◌-◌, Bool, not, ◌&&◌, ◌||◌, cond, List, [], ◌∷◌, ◌++◌, ltb}
use Rattle.expression.specs.Lists.{one_if}
use Rattle.expression.specs.Refusal.{accepted, dead, double}
use Rattle.expression.specs.Token.{first_reading, Operators}
use Rattle.expression.specs.Tree.{Tree, reading, binary, prefix, yield, record_of}
use Rattle.disambiguation.specs.Rules.{Rule, L, R}
use Rattle.disambiguation.specs.Below.{first_below, some_below}
use Rattle.disambiguation.specs.Verdict.{comes, comers}

-- Nothing is wrong; no tree of this one's row is conflict-free; these two are, of one row.
pub data Witness : Type 0 where
  sound : Witness
  no_tree : Tree → Witness
  two_trees : Tree → Tree → Witness

-- in bytes: the verdict, the row, and after 5 the records of the two trees
abbrev pub witness_bytes : Witness → List ℕ
witness_bytes sound = accepted ∷ []
witness_bytes (no_tree t) = dead ∷ yield t
witness_bytes (two_trees t u) = double ∷ yield t ++ record_of t ++ record_of u

-- ---- the trees of a row that begins with operator a
module _ (is_prefix : Bool) (a : ℕ) where
  -- the operand behind the i-th operator; before a prefix operator there is none, and the others move up
  abbrev pub operand : ℕ → Tree
  operand i = reading (first_reading + i - one_if is_prefix)

  -- a over the operand before it, if it has one, and t
  abbrev pub first : Tree → Tree
  first t = cond is_prefix (prefix a t) (binary a (operand 0) t)

  -- the row's last operator, the i-th, over t and the operand behind it
  abbrev pub last : ℕ → ℕ → Tree → Tree
  last i o t = binary o t (operand i)

  -- of a and b: a on top, b on top
  abbrev pub first_over_pair : ℕ → Tree
  first_over_pair b = first (last 2 b (operand 1))

  abbrev pub last_over_pair : ℕ → Tree
  last_over_pair b = last 2 b (first (operand 1))

  -- of a, b and c: a on top, c on top. Told that a closes before b, b takes what stands on its left first; else what stands on its right.
  abbrev pub first_over_triple : Bool → ℕ → ℕ → Tree
  first_over_triple closes b c = first (cond closes (last 3 c (binary b (operand 1) (operand 2))) (binary b (operand 1) (last 3 c (operand 2))))

  abbrev pub last_over_triple : Bool → ℕ → ℕ → Tree
  last_over_triple closes b c = last 3 c (cond closes (binary b (first (operand 1)) (operand 2)) (first (binary b (operand 1) (operand 2))))

-- ---- the first operators that show it: a pair before a triple, and smaller operators first
module _ (ops : Operators) where
  -- the first pair of a test: the first a that has a b, and the first b that a has
  abbrev pub first_left : (ℕ → ℕ → Bool) → ℕ
  first_left test = first_below ops.count (λ a. some_below ops.count (test a))

  abbrev pub first_right : (ℕ → ℕ → Bool) → ℕ → ℕ
  first_right test a = first_below ops.count (test a)

  -- what the first pair of a test shows; where there is none, the other
  abbrev pub shown_by : (ℕ → ℕ → Bool) → (ℕ → ℕ → Witness) → Witness → Witness
  shown_by test shows other = cond (ltb (first_left test) ops.count) (shows (first_left test) (first_right test (first_left test))) other

  -- of a and b: no tree, or these two
  abbrev pub none_of : ℕ → ℕ → Witness
  none_of a b = no_tree (first_over_pair (not (comes ops a)) a b)

  abbrev pub two_of : ℕ → ℕ → Witness
  two_of a b = two_trees (first_over_pair (not (comes ops a)) a b) (last_over_pair (not (comes ops a)) a b)

  module _ (R : ℕ → ℕ → Bool) where
    -- c shows that a and b are not level: where a closes before b, b closes before c and a does not; else a does and b does not
    abbrev pub uneven : ℕ → ℕ → ℕ → Bool
    uneven a b c = comes ops b && cond (R a b) (comers ops (R b) c && not (R a c)) (comers ops (R a) c && not (R b c))

    -- some c does, and the first one
    abbrev pub uneven_pair : ℕ → ℕ → Bool
    uneven_pair a b = some_below ops.count (uneven a b)

    abbrev pub first_third : ℕ → ℕ → ℕ
    first_third a b = first_below ops.count (uneven a b)

    -- of a, b and c: these two trees
    abbrev pub two_of_three : ℕ → ℕ → ℕ → Witness
    two_of_three a b c = two_trees (first_over_triple (not (comes ops a)) a (R a b) b c) (last_over_triple (not (comes ops a)) a (R a b) b c)

    abbrev pub two_of_uneven : ℕ → ℕ → Witness
    two_of_uneven a b = two_of_three a b (first_third a b)

    -- what triples show
    unfoldable pub of_triples : Witness
    of_triples = shown_by uneven_pair two_of_uneven sound

  module _ (L R : ℕ → ℕ → Bool) where
    -- each of a and b excludes that the other stands below it
    abbrev pub both_exclude : ℕ → ℕ → Bool
    both_exclude a b = comers ops (R a) b && L b a

    -- neither does
    abbrev pub none_excludes : ℕ → ℕ → Bool
    none_excludes a b = comes ops b && not (R a b || L b a)

    unfoldable pub witness : Witness
    witness = shown_by both_exclude none_of (shown_by none_excludes two_of (of_triples R))

-- What is shown of a sheet's rules.
abbrev pub witness_of : Operators → List Rule → Witness
witness_of ops rules = witness ops (L rules) (R rules)
