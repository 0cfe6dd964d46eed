-- What the checks of an evaluation find in the bytes of a record. Assumes nothing.
use Rattle.std.specs.Prelude.{ℕ, Bool, not, ◌&&◌, cond, List, ltb, leb}
use Rattle.expression.specs.Lists.{any_holds}
use Rattle.expression.specs.Limits.{most_operators}
use Rattle.expression.specs.Token.{first_reading}
use Rattle.disambiguation.specs.Below.{all_below}
use Rattle.sheet.specs.Layout.{prefix_in}
use Rattle.meanings.specs.Meanings.{is_missing}
use Rattle.evaluator.specs.Value.{meaning_in, prefix_meaning_in, index_of}

-- the byte is an operator without a meaning of the kind that the sheet has it as
abbrev pub meaningless : List ℕ → List ℕ → ℕ → Bool
meaningless sheet meanings c = ltb c most_operators && cond (prefix_in sheet c) (is_missing (prefix_meaning_in meanings c)) (is_missing (meaning_in meanings c))

-- some byte is
unfoldable pub any_meaningless : List ℕ → List ℕ → List ℕ → Bool
any_meaningless sheet meanings bytes = any_holds (meaningless sheet meanings) bytes

-- no operator below n is
unfoldable pub all_meant : List ℕ → List ℕ → ℕ → Bool
all_meant sheet meanings n = all_below n (λ o. not (meaningless sheet meanings o))

-- the byte is a reading beyond so many lent ones
abbrev pub beyond : ℕ → ℕ → Bool
beyond count c = leb first_reading c && leb count (index_of c)

-- some byte is
unfoldable pub any_beyond : ℕ → List ℕ → Bool
any_beyond count bytes = any_holds (beyond count) bytes
