use Rattle.std.proofs.Common.{◌≡◌, ◌-◌}
use Rattle.octets.specs.Counting.{gather}
use Rattle.ibft_layout.specs.Layout.{extra_nics}
use Rattle.table_header.specs.Verdict.{first_of}
use Rattle.ibft_build_rules.specs.RecordRange.{nics_given, nic_image}
use Rattle.ibft_build_rules.specs.Refusals.{index_tests}
use Rattle.ibft_record.proofs.refusals_extras.nics_verdict.Given as goal

abbrev pub invariant-loop-i : goal.invariant-loop-i
invariant-loop-i l =
    first_of (gather (index_tests l.range nic_image extra_nics) l.i (l.nics - l.i))
    ≡ first_of (gather (index_tests l.range nic_image extra_nics) 0 (nics_given l.range))
