-- `pairs_form` meets its contract: the bytes behind the pairs passed are colons. Assumes nothing.
use Rattle.std.proofs.Common.{arith, below_more}
use Rattle.notation.proofs.PairsLaws.{form-size, form-byte, form-holds}
use Rattle.notation.proofs.pairs.pairs_form.Goals as goal

pub returns-then-s-ne2 : goal.returns-then-s-ne2
returns-then-s-ne2 c = form-size c.args.n c.args.s.now (λ e. absurd (let h = c.if-s-ne2.true in omega arith))

pub returns-then-s-n : goal.returns-then-s-n
returns-then-s-n c = form-size c.args.n c.args.s.now (λ e. absurd (let h = c.if-s-n.true in omega arith))

pub returns-then-s-k-ne58 : goal.returns-then-s-k-ne58
returns-then-s-k-ne58 c =
    form-byte c.args.n c.args.s.now c.loop-k.k (omega arith) c.if-s-k-ne58.true

pub loop-k-preserved : goal.loop-k-preserved
loop-k-preserved c = below_more _ _ c.loop-k.invariant c.if-s-k-ne58.false

pub returns : goal.returns
returns c =
    form-holds c.args.n c.args.s.now (omega arith) (λ k h. c.loop-k.invariant k (omega arith))
