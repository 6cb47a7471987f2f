use Rattle.std.proofs.Common.{◌≡◌, ℕ, ◌+◌, ◌<◌, get_or, false}
use lib.Dec.{eqb}
use Rattle.ibft_compare.proofs.table.Table.slot_with.Given as goal

abbrev pub invariant-loop-i : goal.invariant-loop-i
invariant-loop-i l = (j : ℕ) → j < l.i → eqb (get_or l.self.indices.now (l.group + j) 0) l.index ≡ false
