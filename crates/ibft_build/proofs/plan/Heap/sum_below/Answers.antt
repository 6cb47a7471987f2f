-- `Heap::sum_below` meets its contract: the sizes passed are added up. Assumes nothing.
use Rattle.std.proofs.Common.{ℕ, ◌∙◌, get_or-take, length-take, arith}
use Rattle.ibft_build.proofs.PlaceLaws.{sum-none, sum_more, sizes-at}
use Rattle.ibft_build.proofs.plan.Heap.sum_below.Goals as goal

pub loop-size-init : goal.loop-size-init
loop-size-init c = (sum-none _, omega arith)

pub loop-size-preserved : goal.loop-size-preserved
loop-size-preserved c =
    let l = c.loop-size in
    let h = c.args.self.now in
    let here = get_or-take c.args.k h.sizes.now l.size-index 0 (omega (arith, length-take {A = ℕ})) in (
      sum_more _ l.size-index _ _ l.invariant.0 (here ∙ sizes-at _ _ _ h.sizes_are l.size-index (omega (arith, length-take {A = ℕ}))),
      omega arith,
    )
