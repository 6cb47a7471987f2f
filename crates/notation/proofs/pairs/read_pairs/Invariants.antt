use Rattle.std.proofs.Common.{◌≡◌, ℕ, ◌*◌, ◌<◌, length}
use Rattle.octets.specs.Octets.{byte}
use Rattle.notation.specs.Pairs.{pair_at}
use Rattle.notation.proofs.pairs.read_pairs.Given as goal

abbrev pub invariant-loop-k : goal.invariant-loop-k
invariant-loop-k l = (length l.bytes ≡ length l.initial.bytes) × ((j : ℕ) → j < l.k → byte l.bytes j ≡ pair_at l.s (3 * j))
