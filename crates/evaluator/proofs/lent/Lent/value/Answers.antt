-- The answers of `evaluator::lent::Lent::value`. Assumes nothing.
use Rattle.evaluator.proofs.Walking.{whole_ways}
use Rattle.evaluator.proofs.lent.Lent.value.Goals as goal

pub bounds-self-0 : goal.bounds-self-0
bounds-self-0 c = search whole_ways

pub bounds-self-first : goal.bounds-self-first
bounds-self-first c = search whole_ways

pub returns-then-first-ge-FIRST_READING : goal.returns-then-first-ge-FIRST_READING
returns-then-first-ge-FIRST_READING c = search whole_ways
