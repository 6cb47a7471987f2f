use Rattle.std.proofs.Common.{◌≡◌, length, take}
use Rattle.octets.specs.Octets.{write}
use Rattle.octets.proofs.write.put_bytes.Given as goal

abbrev pub invariant-loop-k : goal.invariant-loop-k
invariant-loop-k l = (length l.t ≡ length l.initial.t) × (l.t ≡ write l.initial.t l.at (take l.k l.s))
