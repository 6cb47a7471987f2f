-- `checksum` meets its contract: it is what the sum of the other bytes lacks. Assumes nothing.
use Rattle.std.proofs.Common.{arith}
use Rattle.octets.specs.Octets.{checksum}
use Rattle.octets.proofs.SumLaws.{checksum-byte}
use Rattle.octets.proofs.sum.checksum.Goals as goal

pub returns : goal.returns
unfolding checksum
returns c = checksum-byte _ _ _ (omega arith)
