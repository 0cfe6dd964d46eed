-- The relation that marked rules give, in words: chains of priority, and one side as written. Where a leads to k and k leads to c, a leads to c. Assumes nothing.
use Rattle.std.specs.Prelude.{ℕ, zero, suc, cond, List, get_or, set}
use Rattle.std.specs.Int.Bits.{bit_or}
use Rattle.disambiguation.specs.Rules.{priority}
use Rattle.relation.specs.Relation.{bit_of}
use Rattle.relation.specs.Marking.{word_of}

-- each word below a changed, by its place and itself
unfoldable pub changed : (ℕ → ℕ → ℕ) → ℕ → List ℕ → List ℕ
changed f zero t = t
changed f (suc a) t = set (changed f a t) a (f a (get_or (changed f a t) a 0))

-- the table, with the pairs put in that are marked for a kind
unfoldable pub added : ℕ → ℕ → List ℕ → List ℕ → List ℕ
added n kind marks t = changed (λ a x. bit_or x (get_or marks (word_of kind a) 0)) n t

-- the word x, with the bits of y put in if it has bit k
unfoldable pub joined : ℕ → ℕ → ℕ → ℕ
joined x k y = cond (bit_of x k) (bit_or x y) x

-- what leads to k, of the operators below n, leads to all that k leads to
unfoldable pub passed : ℕ → ℕ → List ℕ → List ℕ
passed n k t = changed (λ a x. joined x k (get_or t k 0)) n t

-- the same through each operator below k
unfoldable pub chained : ℕ → ℕ → List ℕ → List ℕ
chained n zero t = t
chained n (suc k) t = passed n k (chained n k t)

-- the pairs marked for priority, chained, and then those marked for a side
unfoldable pub related : ℕ → ℕ → List ℕ → List ℕ → List ℕ
related n side marks t = added n side marks (chained n n (added n priority marks t))
