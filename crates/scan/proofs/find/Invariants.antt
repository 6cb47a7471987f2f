use Rattle.std.proofs.Common.{◌≡◌, false, ℕ, ◌+◌, ◌-◌, ◌%◌, ◌<◌, length}
use Rattle.scan.specs.Scan.{sound_at}
use Rattle.scan.proofs.find.Given as goal

abbrev pub invariant-loop-k : goal.invariant-loop-k
invariant-loop-k l = ((l.address + l.k) % 16 ≡ 0) × ((i : ℕ) → i < l.k → sound_at l.f l.mem l.address i ≡ false)

abbrev pub decreases-loop-k : goal.decreases-loop-k
decreases-loop-k l = length l.mem - l.k
