use Rattle.std.proofs.Common.{◌≡◌}
use Rattle.octets.specs.Counting.{gather}
use Rattle.octets.specs.Octets.{write}
use Rattle.ibft_build.specs.Writing.{start_word}
use Rattle.ibft_build.proofs.plan.Plan.put_start_words.Given as goal

abbrev pub invariant-loop-i : goal.invariant-loop-i
invariant-loop-i l = l.control ≡ write l.fn.control l.at (gather (start_word l.self.entries.range.now) l.first l.i)
