-- `gather_decimals`, which calls itself on the text behind its first piece, ends: the text gets shorter. Assumes nothing.
use Rattle.std.proofs.Common.{length}
use Rattle.notation.proofs.address.+gather_decimals.Given as goal

abbrev pub decreases-gather_decimals : goal.decreases-gather_decimals
decreases-gather_decimals l = length l.s.now
