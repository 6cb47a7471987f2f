use Rattle.ibft_layout.specs.Layout.{entry_count}
use Rattle.ibft_build_rules.specs.RecordRange.{content_given}
use Rattle.ibft_build_rules.specs.Plan.{offset_built}
use Rattle.ibft_build.proofs.ListLaws.{Filled}
use Rattle.ibft_build.proofs.plan.Heap.entry_offsets.Given as goal

abbrev pub invariant-loop-i : goal.invariant-loop-i
invariant-loop-i l =
    Filled (offset_built (content_given l.self.entries.range.now l.self.entries.strings.now)) entry_count l.i l.offsets
