use Rattle.std.proofs.Common.{◌≡◌, ◌+◌, ◌-◌}
use Rattle.table_header.specs.Verdict.{first_of}
use Rattle.table_header.specs.Header.{reserved_tests}
use Rattle.table_header.proofs.header.check_reserved.Given as goal

abbrev pub invariant-loop-i : goal.invariant-loop-i
invariant-loop-i l = first_of (reserved_tests l.t (l.at + l.i) (l.count - l.i)) ≡ first_of (reserved_tests l.t l.at l.count)
