use Rattle.std.proofs.Common.{◌≡◌, [], ◌∷◌, ℕ, ◌+◌, ◌≤◌}
use Rattle.octets.specs.Counting.{gather}
use Rattle.ibft_compare.specs.Walk.{point_in, walked}
use Rattle.ibft_compare.proofs.walk.Tables.meet_pair.Given as goal

abbrev pub invariant-loop-n : goal.invariant-loop-n
invariant-loop-n l =
    (l.met ≡ walked l.self.left.bytes.now l.self.right.bytes.now l.initial.met (gather (λ (n : ℕ). point_in l.aspect l.pair n ∷ []) 0 l.n))
    × (l.met.count ≤ l.initial.met.count + l.n)
