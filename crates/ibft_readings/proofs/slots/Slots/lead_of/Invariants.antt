use Rattle.std.proofs.Common.{◌≡◌, ℕ, ◌<◌, false}
use Rattle.ibft_readings.specs.Login.{selected}
use Rattle.ibft_readings.proofs.slots.Slots.lead_of.Given as goal

abbrev pub invariant-loop-n : goal.invariant-loop-n
invariant-loop-n l = (i : ℕ) → i < l.n → selected l.self.starts l.self.t.now i ≡ false
