use Rattle.std.proofs.Common.{◌≡◌, ℕ, ◌<◌, false}
use Rattle.ibft_table.specs.Check.{overlap}
use Rattle.ibft_table.proofs.check_overlaps.extra_overlaps.Given as goal

abbrev pub invariant-loop-v : goal.invariant-loop-v
invariant-loop-v l = (j : ℕ) → j < l.v → overlap l.t l.w j ≡ false
