use Rattle.ibft_build.proofs.StartLaws.{Ended}
use Rattle.ibft_build.proofs.starts.structure_ends.Given as goal

abbrev pub invariant-loop-j : goal.invariant-loop-j
invariant-loop-j l = Ended l.range l.ends l.j

abbrev pub invariant-loop-j-2 : goal.invariant-loop-j-2
invariant-loop-j-2 l = Ended l.range l.ends l.j

abbrev pub invariant-loop-j-3 : goal.invariant-loop-j-3
invariant-loop-j-3 l = Ended l.range l.ends l.j

abbrev pub invariant-loop-j-4 : goal.invariant-loop-j-4
invariant-loop-j-4 l = Ended l.range l.ends l.j
