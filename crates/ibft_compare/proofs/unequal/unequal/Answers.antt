-- `unequal` meets its contract: two strings are unequal exactly where they are not the same. Assumes nothing.
use Rattle.ibft_compare.proofs.UnequalLaws.{unequal-is}
use Rattle.ibft_compare.proofs.unequal.unequal.Goals as goal

pub returns : goal.returns
returns c = unequal-is _ _ c.ne.result c.ne.ensures
