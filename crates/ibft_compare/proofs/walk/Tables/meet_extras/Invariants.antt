use Rattle.std.proofs.Common.{◌≡◌, ℕ, ◌+◌, ◌*◌, ◌-◌, ◌≤◌, ◌<◌}
use Rattle.octets.specs.Counting.{gather}
use Rattle.ibft_layout.specs.Layout.{least_index}
use Rattle.ibft_compare.specs.Pairs.{pair_with}
use Rattle.ibft_compare.specs.Points.{each}
use Rattle.ibft_compare.specs.Walk.{points_in, walked}
use Rattle.ibft_compare.proofs.walk.Tables.meet_extras.Given as goal

-- the walk has gone along all Indexes up to `after`
abbrev pub invariant-loop-index : goal.invariant-loop-index
invariant-loop-index l =
    (least_index ≤ l.after + 1) × (l.after < 256)
    × (l.met ≡ walked l.self.left.bytes.now l.self.right.bytes.now l.initial.met
    (gather (λ (i : ℕ). each (points_in l.aspect) (pair_with l.self.left.indices.now l.self.right.indices.now l.group i)) least_index (l.after + 1 - least_index)))
    × (l.met.count ≤ l.initial.met.count + 11 * (l.after + 1 - least_index))

abbrev pub decreases-loop-index : goal.decreases-loop-index
decreases-loop-index l = 256 - l.after
