use Rattle.std.proofs.Common.{◌≡◌, ℕ, ◌+◌, ◌<◌, false, length}
use Rattle.ibft_layout.specs.Layout.{nic}
use Rattle.ibft_build_rules.specs.RecordRange.{nic_image}
use Rattle.ibft_build_rules.specs.Refusals.{bad_mark}
use Rattle.ibft_record.proofs.refusals_range.has_bad_nic.Given as goal

abbrev pub invariant-loop-i : goal.invariant-loop-i
invariant-loop-i l = (j : ℕ) → j < l.i → bad_mark l.range (nic_image j + nic.length) (length nic.string_fields) ≡ false
