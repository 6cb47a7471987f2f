-- `all_zero` meets its contract: what is passed is zero, so that the bytes left decide. Assumes nothing.
use Rattle.std.proofs.Common.{◌≡◌, drop}
use Rattle.octets.specs.Octets.{all_zero}
use Rattle.octets.proofs.read.all_zero.Given as goal

abbrev pub invariant-loop-b : goal.invariant-loop-b
invariant-loop-b l = all_zero (drop l.b-index l.s) ≡ all_zero l.s
