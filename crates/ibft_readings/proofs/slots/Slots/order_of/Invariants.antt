use Rattle.std.proofs.Common.{◌≡◌}
use Rattle.ibft_readings.specs.Login.{placed}
use Rattle.table_header.specs.Verdict.{Accepted}
use Rattle.ibft_readings.proofs.LoginLaws.{order_to}
use Rattle.ibft_readings.proofs.slots.Slots.order_of.Given as goal

abbrev pub invariant-loop-n : goal.invariant-loop-n
invariant-loop-n l = l.order ≡ placed Accepted (order_to l.self.starts l.self.t.now l.n)
