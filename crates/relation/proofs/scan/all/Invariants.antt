-- In the loop of `relation::scan::all`, all numbers before a have passed the test. Assumes nothing.
use Rattle.std.proofs.Common.{◌≡◌, ℕ, Bool, true, ◌<◌}
use Rattle.disambiguation.specs.Below.{all_below}
use Rattle.relation.proofs.scan.all.Given as goal

abbrev pub invariant-loop-a : goal.invariant-loop-a
invariant-loop-a g l = (p : ℕ → Bool) → ((a : ℕ) (r : Bool) → a < l.n → goal.F-post g l.test a r → r ≡ p a) → all_below l.a p ≡ true
