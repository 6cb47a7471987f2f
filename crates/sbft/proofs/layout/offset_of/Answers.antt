-- `offset_of` meets its contract: the word at the part's place. Assumes nothing.
use Rattle.sbft.specs.Layout.{offset_of}
use Rattle.sbft.proofs.layout.offset_of.Goals as goal

pub returns : goal.returns
unfolding offset_of
returns c = rw c.part_of.ensures at c.u16_at.ensures
