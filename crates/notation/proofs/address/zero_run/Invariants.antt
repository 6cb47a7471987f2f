use Rattle.std.proofs.Common.{◌≡◌, false, ℕ, ◌+◌, ◌<◌}
use Rattle.octets.specs.Octets.{differs}
use Rattle.notation.specs.Address.{group_at}
use Rattle.notation.proofs.address.zero_run.Given as goal

abbrev pub invariant-loop-j : goal.invariant-loop-j
invariant-loop-j l = (i : ℕ) → i < l.j → differs (group_at l.a (l.k + i)) 0 ≡ false
