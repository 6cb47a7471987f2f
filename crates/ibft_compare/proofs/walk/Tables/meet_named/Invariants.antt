use Rattle.std.proofs.Common.{◌≡◌, ℕ, ◌+◌, ◌*◌, ◌≤◌}
use Rattle.octets.specs.Counting.{gather}
use Rattle.ibft_compare.specs.Pairs.{named_pair}
use Rattle.ibft_compare.specs.Walk.{points_in, walked}
use Rattle.ibft_compare.proofs.walk.Tables.meet_named.Given as goal

abbrev pub invariant-loop-k : goal.invariant-loop-k
invariant-loop-k l =
    (l.met ≡ walked l.self.left.bytes.now l.self.right.bytes.now l.initial.met (gather (λ (k : ℕ). points_in l.aspect (named_pair k)) 0 l.k))
    × (l.met.count ≤ l.initial.met.count + 11 * l.k)
