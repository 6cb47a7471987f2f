use Rattle.std.proofs.Common.{◌≡◌, ℕ, ◌<◌, false}
use Rattle.octets.specs.Octets.{byte, differs}
use Rattle.find.proofs.zeros_of.Given as goal

abbrev pub invariant-loop-n : goal.invariant-loop-n
invariant-loop-n l = (k : ℕ) → k < l.n → differs (byte l.memory k) 0 ≡ false
