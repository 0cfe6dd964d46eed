-- `line_io::has_end`: the tests of the bytes so far make up the answer. Assumes nothing.
use Rattle.std.proofs.Common.{rules, false, ◌≡◌, ◌||◌, ◌∙◌, sym, ap, refl, eqb}
use Rattle.std.proofs.lemmas.Fn.{fold_over, fronts, slice_gives}
use Rattle.line_io.specs.Lines.{has_end}
use Rattle.line_io.proofs.LineWays.{has_end_more}
use Rattle.line_io.proofs.has_end.Goals as goal

pub returns : goal.returns
unfolding has_end
returns c =
    fold_over fronts (λ y. y.now) _ (λ ys b. b ≡ has_end ys) _
    (λ ys a x b f' e called. let tested : b ≡ (a || eqb x.now 10) = search rules in (tested ∙ ap (λ d. d || eqb x.now 10) e ∙ sym (has_end_more ys x.now), search rules))
    c.iter.result c.iter.result.rest.now false _ (slice_gives c.iter.result) refl c.fold.ensures.ran
    ∙ ap has_end c.iter.ensures.rest
