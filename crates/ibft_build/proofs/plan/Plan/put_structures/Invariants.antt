use Rattle.ibft_build.proofs.StructureLaws.{Written}
use Rattle.ibft_build.proofs.plan.Plan.put_structures.Given as goal

abbrev pub invariant-loop-j : goal.invariant-loop-j
invariant-loop-j l = Written l.self.entries.range.now l.self.ends.now l.self.entries.wanted.now l.self.offsets.now l.fn.room l.room l.j

abbrev pub invariant-loop-j-2 : goal.invariant-loop-j-2
invariant-loop-j-2 l = Written l.self.entries.range.now l.self.ends.now l.self.entries.wanted.now l.self.offsets.now l.fn.room l.room l.j

abbrev pub invariant-loop-j-3 : goal.invariant-loop-j-3
invariant-loop-j-3 l = Written l.self.entries.range.now l.self.ends.now l.self.entries.wanted.now l.self.offsets.now l.fn.room l.room l.j

abbrev pub invariant-loop-j-4 : goal.invariant-loop-j-4
invariant-loop-j-4 l = Written l.self.entries.range.now l.self.ends.now l.self.entries.wanted.now l.self.offsets.now l.fn.room l.room l.j
