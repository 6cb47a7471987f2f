-- `upper_of` meets its contract: the number tells which of the two it is. Assumes nothing.
use native.Mathlib.Omega.{arith}
use borrow.Author.Tests.{eq-eqb, ne_eqb}
use Rattle.bootfw.specs.Pack.{upper_of}
use Rattle.bootfw.proofs.upper_of.Goals as goal

pub returns-then-refusal-eq0 : goal.returns-then-refusal-eq0
unfolding upper_of
returns-then-refusal-eq0 c = let number = c.args.refusal.number in rw (eq-eqb number 0 (omega arith))

pub returns : goal.returns
unfolding upper_of
returns c = let number = c.args.refusal.number in rw (ne_eqb number 0 (λ z. omega arith))
