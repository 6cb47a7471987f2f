-- `Entries::heap_sizes` meets its contract: the elements passed are what their entries take, and entries from the limit on are
-- missing. Assumes nothing.
use Rattle.std.proofs.Common.{arith}
use Rattle.ibft_layout.specs.Layout.{entry_count}
use Rattle.ibft_build.specs.Planning.{heap_sizes}
use Rattle.ibft_build.proofs.ListLaws.{filled-zeros, filled-done}
use Rattle.ibft_build.proofs.CoverLaws.{size-past}
use Rattle.ibft_build.proofs.plan.Entries.heap_sizes.Goals as goal

pub loop-i-init : goal.loop-i-init
loop-i-init c = filled-zeros _ entry_count _ c.requires

pub returns : goal.returns
unfolding heap_sizes
returns c =
    let l = c.loop-i in
    let limit = c.args.self.now.limit_is in
    filled-done _ _ l.sizes l.i l.invariant (λ j h. size-past _ _ j (omega arith))
