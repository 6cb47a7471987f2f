-- `Heap::end` meets its contract: what the entries below the limit take is all that is taken. Assumes nothing.
use Rattle.ibft_build.proofs.PlanLaws.{length-is}
use Rattle.ibft_build.proofs.plan.Heap.end.Goals as goal

pub returns : goal.returns
returns c =
    let h = c.args.self.now in length-is _ _ _ _ _ h.start_is h.entries.limit_is c.sum_below.ensures.0
