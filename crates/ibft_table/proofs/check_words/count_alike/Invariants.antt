use Rattle.std.proofs.Common.{◌≡◌, ◌≤◌}
use Rattle.octets.specs.Counting.{count}
use Rattle.ibft_table.specs.Table.{alike}
use Rattle.ibft_layout.specs.Layout.{named_count}
use Rattle.ibft_table.proofs.check_words.count_alike.Given as goal

abbrev pub invariant-loop-v : goal.invariant-loop-v
invariant-loop-v l = (named_count ≤ l.v) × (l.n ≤ l.v) × (l.n ≡ count l.v (alike l.t l.w))
