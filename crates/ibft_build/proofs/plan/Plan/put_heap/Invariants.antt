use Rattle.std.proofs.Common.{◌≡◌, ◌*◌, ◌≤◌}
use Rattle.octets.specs.Counting.{sum_to}
use Rattle.octets.specs.Octets.{write}
use Rattle.string_heap.specs.Places.{heap_to}
use Rattle.ibft_layout.specs.Layout.{entry_count, may_share}
use Rattle.ibft_build.specs.Planning.{entries_given, size_given}
use Rattle.ibft_build.proofs.plan.Plan.put_heap.Given as goal

abbrev pub invariant-loop-n : goal.invariant-loop-n
invariant-loop-n l =
    (l.at ≡ sum_to l.n (size_given l.self.entries.range.now l.self.entries.strings.now)) × (l.at ≤ 65535 * l.n)
    × (l.heap ≡ write l.fn.heap 0 (heap_to entry_count may_share (entries_given l.self.entries.range.now l.self.entries.strings.now) l.n))
