use Rattle.std.proofs.Common.{◌≡◌, ℕ, ◌<◌, ◌&&◌, false, ltb}
use Rattle.ibft_table.specs.Table.{start_at, used_at, end_at}
use Rattle.ibft_table.proofs.check_overlaps.shares_named.Given as goal

abbrev pub invariant-loop-v : goal.invariant-loop-v
invariant-loop-v l =
    (j : ℕ) → j < l.v → used_at l.t j && (ltb (start_at l.t j) l.end && ltb l.start (end_at l.t j)) ≡ false
