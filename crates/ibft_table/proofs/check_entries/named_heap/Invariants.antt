use Rattle.std.proofs.Common.{◌≡◌}
use Rattle.ibft_table.specs.Table.{end_below}
use Rattle.ibft_table.proofs.check_entries.named_heap.Given as goal

abbrev pub invariant-loop-w : goal.invariant-loop-w
invariant-loop-w l = l.heap ≡ end_below l.table.t.now l.w
