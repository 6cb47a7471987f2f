-- `largest` meets its contract: a number has a width of 1, 2 or 8. Assumes nothing.
use Rattle.std.proofs.Common.{arith}
use borrow.Author.Tests.{ne_eqb}
use Rattle.notation.specs.Value.{is_width}
use Rattle.notation.proofs.value.largest.Goals as goal

pub returns-in-1 : goal.returns-in-1
unfolding is_width
returns-in-1 c = rw c.in-1.is

pub returns-in-2 : goal.returns-in-2
unfolding is_width
returns-in-2 c = rw c.in-2.is

pub returns-in-8 : goal.returns-in-8
unfolding is_width
returns-in-8 c = rw c.in-8.is

pub returns-in_default : goal.returns-in_default
unfolding is_width
returns-in_default c =
    let w = c.args.width in
    rw (ne_eqb w 1 (λ e. omega arith), ne_eqb w 2 (λ e. omega arith), ne_eqb w 8 (λ e. omega arith))
