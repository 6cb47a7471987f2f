use Rattle.std.proofs.Common.{◌≡◌, ℕ, ◌<◌, false}
use Rattle.ibft_table.specs.Check.{twin}
use Rattle.ibft_table.proofs.check_words.has_twin.Given as goal

abbrev pub invariant-loop-v : goal.invariant-loop-v
invariant-loop-v l = (j : ℕ) → j < l.v → twin l.t l.w j ≡ false
