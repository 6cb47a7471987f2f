use Rattle.std.proofs.Common.{◌≡◌, ◌-◌}
use Rattle.octets.specs.Counting.{gather}
use Rattle.ibft_layout.specs.Layout.{entry_count}
use Rattle.table_header.specs.Verdict.{first_of}
use Rattle.ibft_build_rules.specs.Refusals.{string_tests}
use Rattle.ibft_record.proofs.refusals_strings.strings_verdict.Given as goal

abbrev pub invariant-loop-n : goal.invariant-loop-n
invariant-loop-n l =
    first_of (gather (string_tests l.range l.strings) l.n (entry_count - l.n)) ≡ first_of (gather (string_tests l.range l.strings) 0 entry_count)
