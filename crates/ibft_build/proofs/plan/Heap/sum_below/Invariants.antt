use Rattle.std.proofs.Common.{◌≡◌, ◌*◌, ◌≤◌}
use Rattle.octets.specs.Counting.{sum_to}
use Rattle.ibft_build.specs.Planning.{size_given}
use Rattle.ibft_build.proofs.plan.Heap.sum_below.Given as goal

abbrev pub invariant-loop-size : goal.invariant-loop-size
invariant-loop-size l =
    (l.sum ≡ sum_to l.size-index (size_given l.self.entries.range.now l.self.entries.strings.now)) × (l.sum ≤ 65535 * l.size-index)
