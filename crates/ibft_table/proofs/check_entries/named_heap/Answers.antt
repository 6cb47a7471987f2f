-- `named_heap` meets its contract: of the words below w, where the last structure ends. Assumes nothing.
use Rattle.std.proofs.Common.{max, ap₂, ◌∙◌, add-one}
use Rattle.ibft_table.specs.Table.{end_below}
use Rattle.ibft_table.proofs.check_entries.named_heap.Goals as goal

pub loop-w-init : goal.loop-w-init
unfolding end_below
loop-w-init c = c.args.table.least_is

pub loop-w-preserved : goal.loop-w-preserved
unfolding end_below
loop-w-preserved c =
    rw (add-one c.loop-w.w) (c.max-heap.ensures ∙ ap₂ max c.loop-w.invariant c.named_end_if_used.ensures)
