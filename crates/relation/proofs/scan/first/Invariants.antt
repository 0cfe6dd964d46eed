-- In the loop of `relation::scan::first`, the search has found nothing of a number before a. Assumes nothing.
use Rattle.std.proofs.Common.{◌≡◌, ℕ, Bool, false, ◌<◌, is_some}
use Rattle.relation.proofs.scan.first.Given as goal

abbrev pub invariant-loop-a : goal.invariant-loop-a
invariant-loop-a g l = (p : ℕ → Bool) → ((a : ℕ) (r : _) → a < l.n → goal.F-post g l.search a r → is_some r ≡ p a) → (c : ℕ) → c < l.a → p c ≡ false
