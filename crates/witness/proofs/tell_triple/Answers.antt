-- The answers of `witness::tell_triple`. Assumes nothing.
use Rattle.std.proofs.Common.{rules}
use Rattle.witness.specs.Faults.{makes, uneven_in}
use Rattle.witness.proofs.TellWays.{pair_some, sound_told, uneven_told}
use Rattle.witness.proofs.tell_triple.Goals as goal

pub returns-in-None : goal.returns-in-None
returns-in-None c =
    sound_told _ _ _ (c.in-None.ensures.first (makes c.args.relations.now (uneven_in c.args.relations.now))
    (λ a r l k. search (rules, pair_some)))
    (search rules)

pub returns-in-Some : goal.returns-in-Some
returns-in-Some c =
    uneven_told c.args.relations.now.count.n c.args.relations.now.prefixes c.args.relations.now.closes {a = c.in-Some.a} {b = c.in-Some.b} {c = c.in-Some.c}
    (search rules) (search rules) (search rules)
    (c.in-Some.ensures.first (makes c.args.relations.now (uneven_in c.args.relations.now))
    (λ a r l k. search (rules, pair_some)))
    (search rules) (search rules) c.triple.ensures.0 c.triple.ensures.1 (rw (c.triple.ensures.2, c.triple.ensures.3, c.triple.ensures.4) at c.two_trees.ensures)
