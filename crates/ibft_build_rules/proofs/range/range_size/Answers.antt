-- `range_size` meets its contract: the image of a target behind the last would start at its end. Assumes nothing.
use Rattle.ibft_build_rules.specs.RecordRange.{range_size, target_image}
use borrow.Author.Rules.{rules}
use Rattle.ibft_build_rules.proofs.range.range_size.Goals as goal

pub returns : goal.returns
unfolding range_size target_image
returns c = search rules
