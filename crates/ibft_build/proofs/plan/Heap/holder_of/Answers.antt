-- `Heap::holder_of` meets its contract: none of the entries passed holds it, and one below the limit does. Assumes nothing.
use Rattle.std.proofs.Common.{refl, arith}
use Rattle.ibft_build.proofs.PlaceLaws.{holder-first}
use Rattle.ibft_build.proofs.plan.Heap.holder_of.Goals as goal

pub returns-then-is_holder : goal.returns-then-is_holder
returns-then-is_holder c =
    let p = c.requires in
    let e = c.args.self.now.entries in
    holder-first _ _ _ (omega arith) p.1 p.2 _ c.bytes-bytes.ensures _ (omega arith) c.loop-j.invariant _
    c.is_holder.ensures (λ l. c.if-is_holder.true)

pub returns : goal.returns
returns c =
    let p = c.requires in
    let e = c.args.self.now.entries in
    holder-first _ _ _ (omega arith) p.1 p.2 _ c.bytes-bytes.ensures _ (omega arith) (λ m l. c.loop-j.invariant m (omega arith)) _
    refl (λ l. absurd (omega arith))
