use Rattle.std.proofs.Common.{◌≤◌}
use Rattle.ibft_layout.specs.Layout.{entry_count}
use Rattle.ibft_build.specs.Planning.{field_given}
use Rattle.ibft_build.proofs.ListLaws.{Filled}
use Rattle.ibft_build.proofs.stored.entry_fields.Given as goal

abbrev pub invariant-loop-n : goal.invariant-loop-n
invariant-loop-n l = Filled (field_given l.range) entry_count l.n l.fields

abbrev pub invariant-loop-n-2 : goal.invariant-loop-n-2
invariant-loop-n-2 l = (l.limit ≤ entry_count) × Filled (field_given l.range) entry_count l.n l.fields
