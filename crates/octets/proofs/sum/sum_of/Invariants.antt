-- `sum_of` meets its contract: what is added up and what is left sum to the whole, modulo 256. Assumes nothing.
use Rattle.std.proofs.Common.{◌≡◌, ◌+◌, ◌%◌, drop}
use Rattle.octets.specs.Octets.{sum}
use Rattle.octets.proofs.sum.sum_of.Given as goal

abbrev pub invariant-loop-b : goal.invariant-loop-b
invariant-loop-b l = (l.acc + sum (drop l.b-index l.s)) % 256 ≡ sum l.s % 256
