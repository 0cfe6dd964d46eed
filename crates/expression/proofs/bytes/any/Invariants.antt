-- In the loop of `expression::bytes::any`, what is found so far and what stands from the place on make up the answer. Assumes nothing.
use Rattle.std.proofs.Common.{◌≡◌, ℕ, Bool}
use Rattle.expression.proofs.Looking.{Looked}
use Rattle.expression.proofs.bytes.any.Given as goal

abbrev pub invariant-loop-byte : goal.invariant-loop-byte
invariant-loop-byte g l = (p : ℕ → Bool) → ((c : ℕ) (r : Bool) → goal.F-post g l.test c r → r ≡ p c) → Looked p l.bytes l.found l.byte-index
