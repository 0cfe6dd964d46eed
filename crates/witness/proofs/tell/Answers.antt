-- The answers of `witness::tell`. Assumes nothing.
use Rattle.std.proofs.Common.{rules}
use Rattle.witness.specs.Faults.{makes, dead_pair, double_pair}
use Rattle.witness.proofs.FaultWays.{some_if_below, found_ways}
use Rattle.witness.proofs.TellWays.{dead_told, double_told, triple_told}
use Rattle.witness.proofs.tell.Goals as goal

pub pair-requires : goal.pair-requires
pair-requires c = search found_ways

pub returns-in-Some : goal.returns-in-Some
returns-in-Some c =
    dead_told c.args.relations.now.count.n c.args.relations.now.prefixes c.args.relations.now.closes c.args.relations.now.yields {a = c.in-Some.a} {b = c.in-Some.b}
    (search rules)
    (c.in-Some.ensures.first (makes c.args.relations.now (dead_pair c.args.relations.now))
    (λ a r l k. search (rules, some_if_below)))
    (search rules) c.pair.ensures.0 (rw (c.pair.ensures.1, c.pair.ensures.2) at c.no_tree.ensures)

pub pair-requires-in-Some-first : goal.pair-requires-in-Some-first
pair-requires-in-Some-first c = search found_ways

pub returns-in-Some-first : goal.returns-in-Some-first
returns-in-Some-first c =
    double_told c.args.relations.now.count.n c.args.relations.now.prefixes c.args.relations.now.closes c.args.relations.now.yields
    (c.in_default.ensures.first (makes c.args.relations.now (dead_pair c.args.relations.now))
    (λ a r l k. search (rules, some_if_below)))
    {a = c.in-Some-first.a} {b = c.in-Some-first.b} (search rules)
    (c.in-Some-first.ensures.first (makes c.args.relations.now (double_pair c.args.relations.now))
    (λ a r l k. search (rules, some_if_below)))
    (search rules) c.pair-in-Some-first.ensures.0 (rw (c.pair-in-Some-first.ensures.1, c.pair-in-Some-first.ensures.2) at c.two_trees.ensures)

pub returns : goal.returns
returns c =
    triple_told c.args.relations.now.count.n c.args.relations.now.prefixes c.args.relations.now.closes c.args.relations.now.yields
    (c.in_default.ensures.first (makes c.args.relations.now (dead_pair c.args.relations.now))
    (λ a r l k. search (rules, some_if_below)))
    (c.in_default-first.ensures.first (makes c.args.relations.now (double_pair c.args.relations.now))
    (λ a r l k. search (rules, some_if_below)))
    c.tell_triple.ensures
