use Rattle.std.proofs.Common.{◌≡◌, ℕ, ◌<◌, length, get_or}
use Rattle.ibft_layout.specs.Layout.{slot_count}
use Rattle.ibft_table.specs.Table.{index_in}
use Rattle.ibft_compare.proofs.table.indices_of.Given as goal

abbrev pub invariant-loop-k : goal.invariant-loop-k
invariant-loop-k l = (length l.index-items ≡ slot_count) × ((i : ℕ) → i < l.k → get_or l.index-items i 0 ≡ index_in l.starts l.t i)
