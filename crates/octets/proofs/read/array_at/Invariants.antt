use Rattle.std.proofs.Common.{◌≡◌, ℕ, ◌+◌, ◌<◌, length, get_or}
use Rattle.octets.specs.Octets.{byte}
use Rattle.octets.proofs.read.array_at.Given as goal

abbrev pub invariant-loop-k : goal.invariant-loop-k
invariant-loop-k g l = (length l.bytes ≡ g.row.N) × ((j : ℕ) → j < l.k → get_or l.bytes j 0 ≡ byte l.s (l.i + j))
