use Rattle.std.proofs.Common.{◌≡◌, ℕ, ◌<◌, false}
use Rattle.string_heap.specs.Stored.{covered_by}
use Rattle.ibft_layout.specs.Layout.{may_share}
use Rattle.ibft_build.specs.Planning.{entries_given}
use Rattle.ibft_build.proofs.plan.Entries.is_covered.Given as goal

abbrev pub invariant-loop-j : goal.invariant-loop-j
invariant-loop-j l = (k : ℕ) → k < l.j → covered_by may_share l.i l.bytes k (entries_given l.self.range.now l.self.strings.now k) ≡ false
