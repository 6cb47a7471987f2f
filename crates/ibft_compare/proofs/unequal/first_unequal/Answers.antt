-- `first_unequal` meets its contract: the bytes passed are the same in both, so that the first unequal one found is the first
-- there is. Assumes nothing.
use Rattle.std.proofs.Common.{sym, arith, below_more}
use Prim.Native.Nat.{min}
use lib.ListN.{length}
use Rattle.octets.specs.Octets.{byte, differs}
use Rattle.octets.proofs.CountingLaws.{first-is}
use Rattle.octets.proofs.TestLaws.{same_differs, unlike-differs}
use Rattle.ibft_compare.specs.Differences.{first_unequal}
use Rattle.ibft_compare.proofs.unequal.first_unequal.Goals as goal

pub returns-then-a-k : goal.returns-then-a-k
unfolding first_unequal
returns-then-a-k c =
    let l = c.loop-k in
    (sym (first-is _ _ l.k (omega arith) l.invariant (λ h. unlike-differs _ _ c.if-a-k.true)), omega arith)

pub loop-k-preserved : goal.loop-k-preserved
loop-k-preserved c = below_more _ _ c.loop-k.invariant (same_differs _ _ c.if-a-k.false)

pub returns : goal.returns
unfolding first_unequal
returns c =
    let a = c.args in
    let l = c.loop-k in
    let most = min (length a.a.now) (length a.b.now) in
    rw c.min-most.ensures (
      sym (first-is most (λ k. differs (byte a.a.now k) (byte a.b.now k)) most (omega arith) (λ i h. l.invariant i (omega arith)) (λ h. absurd (omega arith))),
      omega arith,
    )
