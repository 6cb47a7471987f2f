-- `gather_groups`, which calls itself on the text behind its first piece, ends: the text gets shorter. Assumes nothing.
use Rattle.std.proofs.Common.{length}
use Rattle.notation.proofs.address.+gather_groups.Given as goal

abbrev pub decreases-gather_groups : goal.decreases-gather_groups
decreases-gather_groups l = length l.s.now
