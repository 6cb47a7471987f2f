use Rattle.std.proofs.Common.{◌≡◌, ℕ, ◌≤◌, ◌<◌}
use Rattle.ibft_layout.specs.Layout.{named_count}
use Rattle.ibft_table.specs.Table.{start_in}
use Rattle.ibft_table.proofs.check_entries.slot_limit.Given as goal

abbrev pub invariant-loop-k : goal.invariant-loop-k
invariant-loop-k l =
    (named_count ≤ l.limit) × (l.limit ≤ l.k) × ((j : ℕ) → l.limit ≤ j → j < l.k → start_in l.starts j ≡ 0)
