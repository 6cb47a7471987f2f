-- `lay_string` is safe and ends: the bytes left fall, and the slice keeps its length. Assumes nothing.
use mathlib.Core.Path.{◌≡◌}
use Prim.Native.Nat.{◌-◌, ◌≤◌}
use lib.ListN.{length}
use Rattle.bench_cases.proofs.lay_string.Given as goal

abbrev pub invariant-loop-k : goal.invariant-loop-k
invariant-loop-k l = (l.k ≤ 255) × (length l.strings ≡ length l.initial.strings)

abbrev pub decreases-loop-k : goal.decreases-loop-k
decreases-loop-k l = 255 - l.k
