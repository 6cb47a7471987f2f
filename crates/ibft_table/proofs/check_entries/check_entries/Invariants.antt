use Rattle.std.proofs.Common.{◌≡◌, ◌-◌}
use Rattle.octets.specs.Counting.{gather}
use Rattle.ibft_layout.specs.Layout.{entry_count}
use Rattle.ibft_table.specs.Table.{starts_of}
use Rattle.table_header.specs.Verdict.{first_of}
use Rattle.ibft_table.specs.Check.{entry_tests}
use Rattle.ibft_table.proofs.check_entries.check_entries.Given as goal

abbrev pub invariant-loop-n : goal.invariant-loop-n
invariant-loop-n l =
    first_of (gather (entry_tests (starts_of l.table.t.now) l.table.t.now) l.n (entry_count - l.n))
    ≡ first_of (gather (entry_tests (starts_of l.table.t.now) l.table.t.now) 0 entry_count)
