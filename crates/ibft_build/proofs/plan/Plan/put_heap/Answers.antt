-- `Plan::put_heap` meets its contract: the entries passed are written, and the next stands where their sizes sum to. Assumes
-- nothing.
use Rattle.std.proofs.Common.{arith}
use Rattle.ibft_build.proofs.PlaceLaws.{sum-none, sum_more, sizes-at}
use Rattle.ibft_build.proofs.HeapLaws.{heap-none, heap-next, heap-whole}
use Rattle.ibft_build.proofs.plan.Plan.put_heap.Goals as goal

pub loop-n-init : goal.loop-n-init
loop-n-init c = (sum-none _, omega arith, heap-none _ _ _)

pub loop-n-preserved : goal.loop-n-preserved
loop-n-preserved c =
    let l = c.loop-n in
    let p = c.args.self.now in (
      sum_more _ l.n _ _ l.invariant.0 (sizes-at _ _ _ p.planned.sizes-are l.n (omega arith)),
      omega arith,
      heap-next _ _ _ l.n _ _ _ l.invariant.2 l.invariant.0 c.put_entry.ensures,
    )

pub returns : goal.returns
returns c =
    let l = c.loop-n in
    heap-whole _ _ _ _ _ _ l.invariant.2 (omega arith) c.args.self.now.entries.limit_is c.requires
