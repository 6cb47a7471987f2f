-- `Heap::entry_offsets` meets its contract: the elements passed are the offsets, and entries from the limit on are missing.
-- Assumes nothing.
use Rattle.std.proofs.Common.{arith}
use Rattle.ibft_layout.specs.Layout.{entry_count}
use Rattle.ibft_build.specs.Planning.{entry_offsets}
use Rattle.ibft_build.proofs.ListLaws.{filled-zeros, filled-done}
use Rattle.ibft_build.proofs.PlaceLaws.{offset-past}
use Rattle.ibft_build.proofs.plan.Heap.entry_offsets.Goals as goal

pub loop-i-init : goal.loop-i-init
loop-i-init c = filled-zeros _ entry_count _ c.requires

pub returns : goal.returns
unfolding entry_offsets
returns c =
    let l = c.loop-i in
    let limit = c.args.self.now.entries.limit_is in
    filled-done _ _ l.offsets l.i l.invariant (λ j h. offset-past _ _ j (omega arith))
