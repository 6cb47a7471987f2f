use Rattle.std.proofs.Common.{◌≡◌, ℕ, ◌<◌, false}
use Rattle.octets.specs.Octets.{byte, differs}
use Rattle.ibft_compare.proofs.unequal.first_unequal.Given as goal

abbrev pub invariant-loop-k : goal.invariant-loop-k
invariant-loop-k l = (i : ℕ) → i < l.k → differs (byte l.a i) (byte l.b i) ≡ false
