-- The answers of the readers of expressions and operands. Assumes nothing.
use Rattle.std.proofs.Common.{rules, ◌≡◌, ◌∙◌, sym, Some, arith}
use Rattle.parser.specs.declared.row.Token.TheVariants.{Operator, Prefix, Closing}
use Rattle.parser.proofs.ReaderWays.{token_inside, here_is, none_read, other_read, operand_reading, inner_refused, operand_closed, operand_unclosed}
use Rattle.parser.proofs.ReaderWays.{led, prefix_led, operator_led}
use Rattle.parser.proofs.row.Row.+readers.Goals as goal

pub expression_end-parts-smaller-in_default : goal.expression_end-parts-smaller-in_default
expression_end-parts-smaller-in_default t c =
    let prefix_token : c.token_at.result ≡ Some Prefix = search rules in
    let inside = token_inside _ _ _ (sym c.token_at.ensures ∙ prefix_token) in
    search rules

pub expression_end-parts-preserved-in_default : goal.expression_end-parts-preserved-in_default
expression_end-parts-preserved-in_default t c =
    let prefix_token : c.token_at.result ≡ Some Prefix = search rules in
    led _ _ c.parts.invariant (prefix_led _ _ c.pairs_end-from.ensures (sym c.token_at.ensures ∙ prefix_token))

pub expression_end-parts-preserved : goal.expression_end-parts-preserved
expression_end-parts-preserved t c =
    let operator : c.token_at-in-parts.result ≡ Some Operator = search rules in
    led _ _ c.parts.invariant (operator_led _ _ c.pairs_end-from.ensures c.in-Some.ensures (sym c.token_at-in-parts.ensures ∙ operator))

pub operand_end-returns-in_err-token_at : goal.operand_end-returns-in_err-token_at
operand_end-returns-in_err-token_at t c = rw c.from_residual.ensures (none_read _ _ _ c.in_err-token_at.ensures)

pub operand_end-overflow_add-result : goal.operand_end-overflow_add-result
operand_end-overflow_add-result t c = let inside = token_inside _ _ _ (sym c.in_ok-token_at.ensures) in omega arith

pub operand_end-overflow_add-at : goal.operand_end-overflow_add-at
operand_end-overflow_add-at t c = let inside = token_inside _ _ _ (sym c.in_ok-token_at.ensures) in omega arith

pub operand_end-expression_end-requires : goal.operand_end-expression_end-requires
operand_end-expression_end-requires t c = let inside = token_inside _ _ _ (sym c.in_ok-token_at.ensures) in search rules

pub operand_end-returns-in_err-next-in-Opening : goal.operand_end-returns-in_err-next-in-Opening
operand_end-returns-in_err-next-in-Opening t c =
    rw c.from_residual-in_err-next-in-Opening.ensures (λ p. inner_refused _ _ _
    (here_is _ _ _ c.in_ok-token_at.ensures c.in-Opening.is) c.in_err-next-in-Opening.ensures)

pub operand_end-returns-in-Reading : goal.operand_end-returns-in-Reading
operand_end-returns-in-Reading t c = operand_reading _ _ _ (here_is _ _ _ c.in_ok-token_at.ensures c.in-Reading.is)

pub operand_end-returns-then-eq : goal.operand_end-returns-then-eq
operand_end-returns-then-eq t c =
    let closed : c.token_at-in-Opening.result ≡ Some Closing = search rules in
    operand_closed _ _ _ (here_is _ _ _ c.in_ok-token_at.ensures c.in-Opening.is) c.in_ok-next-in-Opening.ensures (sym c.token_at-in-Opening.ensures ∙ closed)

pub operand_end-returns-else-eq : goal.operand_end-returns-else-eq
operand_end-returns-else-eq t c =
    let unclosed : c.token_at-in-Opening.result ≡ Some Closing → ⊥ = search rules in
    λ p. operand_unclosed _ _ _ (here_is _ _ _ c.in_ok-token_at.ensures c.in-Opening.is) c.in_ok-next-in-Opening.ensures
    (λ q. unclosed (c.token_at-in-Opening.ensures ∙ q))

pub operand_end-returns-in_default : goal.operand_end-returns-in_default
operand_end-returns-in_default t c = other_read _ _ _ c.in_ok-token_at.ensures c.in_default.not-Reading c.in_default.not-Opening
