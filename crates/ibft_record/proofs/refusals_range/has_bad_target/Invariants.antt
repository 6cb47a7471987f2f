use Rattle.std.proofs.Common.{◌≡◌, ℕ, ◌+◌, ◌<◌, false, length}
use Rattle.ibft_layout.specs.Layout.{target}
use Rattle.ibft_build_rules.specs.RecordRange.{target_image}
use Rattle.ibft_build_rules.specs.Refusals.{bad_mark}
use Rattle.ibft_record.proofs.refusals_range.has_bad_target.Given as goal

abbrev pub invariant-loop-i : goal.invariant-loop-i
invariant-loop-i l = (j : ℕ) → j < l.i → bad_mark l.range (target_image l.range j + target.length) (length target.string_fields) ≡ false
