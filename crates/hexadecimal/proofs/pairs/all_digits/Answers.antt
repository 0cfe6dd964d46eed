-- `hexadecimal::pairs::all_digits`: the tests of the characters so far make up the answer. Assumes nothing.
use Rattle.std.proofs.Common.{rules, true, ◌≡◌, ◌&&◌, ◌∙◌, sym, ap, refl}
use Rattle.std.proofs.lemmas.Fn.{fold_over, fronts, slice_gives}
use Rattle.std.specs.Char.{is_ascii_hexdigit}
use Rattle.hexadecimal.specs.Digits.{all_digits}
use Rattle.hexadecimal.proofs.PairWays.{digits_more}
use Rattle.hexadecimal.proofs.pairs.all_digits.Goals as goal

pub returns : goal.returns
unfolding all_digits
returns c =
    fold_over fronts (λ y. y.now) _ (λ ys b. b ≡ all_digits ys) _
    (λ ys a x b f' e called. let tested : b ≡ (a && is_ascii_hexdigit x.now) = search rules in (tested ∙ ap (λ d. d && is_ascii_hexdigit x.now) e ∙ sym (digits_more ys x.now), search rules))
    c.iter.result c.iter.result.rest.now true _ (slice_gives c.iter.result) refl c.fold.ensures.ran
    ∙ ap all_digits c.iter.ensures.rest
