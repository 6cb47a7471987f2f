-- `with_digit` meets its contract, by cases of the digit: a number that does not fit has passed max. Assumes nothing.
use Rattle.std.proofs.Common.{sym, ◌∙◌, ◌+◌, ◌*◌, arith}
use Rattle.notation.specs.Number.{below}
use Rattle.notation.proofs.NumberLaws.{below-yes, below-no}
use Rattle.notation.proofs.number.with_digit.Goals as goal

pub returns-in_err-d : goal.returns-in_err-d
unfolding below
returns-in_err-d c = rw (sym c.digit_value.ensures ∙ c.in_err-d.was) c.from_residual.ensures

pub returns-in_err-checked_mul : goal.returns-in_err-checked_mul
returns-in_err-checked_mul c =
    let a = c.args in
    rw (sym c.digit_value.ensures ∙ c.in_ok-d.was)
    (c.from_residual-in_err-checked_mul.ensures ∙ sym (below-no (a.max + 1) (a.n * a.base + c.in_ok-d.d) (omega (arith, c.in_err-checked_mul.ensures))))

pub returns-in_err-more : goal.returns-in_err-more
returns-in_err-more c =
    let a = c.args in
    rw (sym c.digit_value.ensures ∙ c.in_ok-d.was)
    (c.from_residual-in_err-more.ensures
    ∙ sym (below-no (a.max + 1) (a.n * a.base + c.in_ok-d.d) (omega (arith, c.in_err-more.ensures, c.in_ok-checked_mul.ensures))))

pub returns-then-more-max : goal.returns-then-more-max
returns-then-more-max c =
    let value = c.in_ok-more.ensures.1 in
    let product = c.in_ok-checked_mul.ensures.1 in
    rw (sym c.digit_value.ensures ∙ c.in_ok-d.was, ← product, ← value, below-yes (c.args.max + 1) c.in_ok-more.more (omega arith))

pub returns-else-more-max : goal.returns-else-more-max
returns-else-more-max c =
    let value = c.in_ok-more.ensures.1 in
    let product = c.in_ok-checked_mul.ensures.1 in
    rw (sym c.digit_value.ensures ∙ c.in_ok-d.was, ← product, ← value, below-no (c.args.max + 1) c.in_ok-more.more (omega arith))
