-- `label` and `dot`, which call each other, end: the measure is the number of bytes left, twice, and one more in `label`, which
-- hands `dot` the same place or a later one. Assumes nothing.
use Rattle.std.proofs.Common.{◌+◌, ◌-◌, ◌*◌}
use Rattle.hostname.proofs.+dot_label.Given as goal

abbrev pub decreases-dot : goal.decreases-dot
decreases-dot l = 2 * (l.end - l.at)

abbrev pub decreases-label : goal.decreases-label
decreases-label l = 2 * (l.end - l.at) + 1
