use Rattle.std.proofs.Common.{◌≡◌, ℕ, ◌+◌, ◌≤◌}
use Rattle.octets.specs.Counting.{count}
use Rattle.ibft_table.specs.Table.{present_in}
use Rattle.ibft_table.proofs.starts.extras_in.Given as goal

abbrev pub invariant-loop-i : goal.invariant-loop-i
invariant-loop-i l = (l.n ≤ l.i) × (l.n ≡ count l.i (λ (j : ℕ). present_in l.starts (l.first + j)))
