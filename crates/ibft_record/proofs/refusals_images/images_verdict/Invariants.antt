use Rattle.std.proofs.Common.{◌≡◌, ◌-◌}
use Rattle.octets.specs.Counting.{gather}
use Rattle.ibft_layout.specs.Layout.{slot_count}
use Rattle.table_header.specs.Verdict.{first_of}
use Rattle.ibft_build_rules.specs.Refusals.{image_tests}
use Rattle.ibft_record.proofs.refusals_images.images_verdict.Given as goal

abbrev pub invariant-loop-k : goal.invariant-loop-k
invariant-loop-k l =
    first_of (gather (image_tests l.range) l.k (slot_count - l.k)) ≡ first_of (gather (image_tests l.range) 0 slot_count)
