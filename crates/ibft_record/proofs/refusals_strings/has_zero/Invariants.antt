use Rattle.std.proofs.Common.{◌≡◌, ◌||◌, drop}
use Rattle.ibft_build_rules.specs.Refusals.{has_zero}
use Rattle.ibft_record.proofs.refusals_strings.has_zero.Given as goal

abbrev pub invariant-loop-byte : goal.invariant-loop-byte
invariant-loop-byte l = (l.found || has_zero (drop l.byte-index l.s)) ≡ has_zero l.s
