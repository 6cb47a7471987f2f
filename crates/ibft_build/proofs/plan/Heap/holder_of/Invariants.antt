use Rattle.std.proofs.Common.{◌≡◌, ℕ, ◌<◌, false}
use Rattle.ibft_build.specs.Planning.{can_hold}
use Rattle.ibft_build.proofs.plan.Heap.holder_of.Given as goal

abbrev pub invariant-loop-j : goal.invariant-loop-j
invariant-loop-j l = (k : ℕ) → k < l.j → can_hold l.self.entries.range.now l.self.entries.strings.now l.bytes k ≡ false
