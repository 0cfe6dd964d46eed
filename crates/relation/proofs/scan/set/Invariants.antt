-- In the loop of `relation::scan::set`, the set has those before a that pass the test. Assumes nothing.
use Rattle.std.proofs.Common.{◌≡◌, ℕ, Bool, ◌<◌}
use Rattle.relation.specs.Words.{word_where}
use Rattle.relation.proofs.scan.set.Given as goal

abbrev pub invariant-loop-a : goal.invariant-loop-a
invariant-loop-a g l = (p : ℕ → Bool) → ((a : ℕ) (r : Bool) → a < l.fn.count.n → goal.F-post g l.test a r → r ≡ p a) → l.set ≡ word_where p l.a
