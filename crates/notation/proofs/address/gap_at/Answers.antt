-- `gap_at` meets its contract: at no place passed stand two colons. Assumes nothing.
use Rattle.std.proofs.Common.{true, false, length, refl, arith, below_more}
use Rattle.notation.proofs.GatherLaws.{gap-test, gap-found, gap-missing}
use Rattle.notation.proofs.address.gap_at.Goals as goal

pub returns-then-b-byte_at : goal.returns-then-b-byte_at
returns-then-b-byte_at c =
    let l = c.loop-k in
    let s = c.args.s.now in
    gap-found s l.k (omega arith) l.invariant (gap-test s l.k c.byte_at.result true c.byte_at.ensures c.if-b-byte_at.true)

pub loop-k-preserved : goal.loop-k-preserved
loop-k-preserved c =
    let l = c.loop-k in
    below_more _ _ l.invariant (gap-test c.args.s.now l.k c.byte_at.result false c.byte_at.ensures c.if-b-byte_at.false)

pub returns : goal.returns
returns c = gap-missing c.args.s.now (length c.args.s.now) refl (λ j h. c.loop-k.invariant j (omega arith))
