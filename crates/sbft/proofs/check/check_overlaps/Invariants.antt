use mathlib.Core.Path.{◌≡◌}
use Prim.Native.Nat.{◌-◌}
use Rattle.octets.specs.Counting.{gather}
use Rattle.table_header.specs.Verdict.{first_of}
use Rattle.sbft.specs.Layout.{part_count}
use Rattle.sbft.specs.Check.{overlap_tests}
use Rattle.sbft.proofs.check.check_overlaps.Given as goal

abbrev pub invariant-loop-k : goal.invariant-loop-k
invariant-loop-k l = first_of (gather (overlap_tests l.t) l.k (part_count - l.k)) ≡ first_of (gather (overlap_tests l.t) 0 part_count)
