use mathlib.Core.Path.{◌≡◌}
use lib.ListN.{length}
use Rattle.octets.specs.Counting.{gather}
use Rattle.octets.specs.Octets.{write}
use Rattle.sbft.specs.Write.{word_written}
use Rattle.sbft.proofs.write.put_offsets.Given as goal

abbrev pub invariant-loop-k : goal.invariant-loop-k
invariant-loop-k l = (length l.room ≡ length l.initial.room) × (l.room ≡ write l.initial.room 36 (gather (word_written l.image) 0 l.k))
