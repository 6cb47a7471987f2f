use Rattle.ibft_layout.specs.Layout.{entry_count}
use Rattle.ibft_build.specs.Planning.{size_given}
use Rattle.ibft_build.proofs.ListLaws.{Filled}
use Rattle.ibft_build.proofs.plan.Entries.heap_sizes.Given as goal

abbrev pub invariant-loop-i : goal.invariant-loop-i
invariant-loop-i l = Filled (size_given l.self.range.now l.self.strings.now) entry_count l.i l.sizes
