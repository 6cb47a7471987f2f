use Rattle.std.proofs.Common.{◌≡◌, false, ℕ, ◌<◌}
use Rattle.notation.proofs.GatherLaws.{gap_here}
use Rattle.notation.proofs.address.gap_at.Given as goal

abbrev pub invariant-loop-k : goal.invariant-loop-k
invariant-loop-k l = (j : ℕ) → j < l.k → gap_here l.s j ≡ false
