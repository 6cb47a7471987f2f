use Rattle.std.proofs.Common.{◌≡◌, ◌-◌}
use Rattle.octets.specs.Counting.{gather}
use Rattle.octets.specs.Octets.{write}
use Rattle.ibft_build.specs.Writing.{words_with}
use Rattle.ibft_build.proofs.plan.Plan.put_words.Given as goal

abbrev pub invariant-loop-n : goal.invariant-loop-n
invariant-loop-n l = l.structure ≡ write l.fn.structure l.at (gather (words_with l.self.entries.wanted.now l.self.offsets.now) l.first (l.n - l.first))
